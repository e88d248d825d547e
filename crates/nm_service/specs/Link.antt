-- What lies beside a link on either side.
use Rattle.std.specs.Prelude.{◌≡◌, ℕ, List, Option}
use Rattle.nm_base.specs.Beside.{Beside}

-- the other side's bytes, where it tells them, and its count of faults
pub record LiesBeside (beside : Beside) (bytes : Option (List ℕ)) (faults : ℕ) : Type 0 where
  pub bytes_are : beside.bytes ≡ bytes
  pub faults_are : beside.faults ≡ faults
