-- What a kept model counts for is within the limits.
use Rattle.std.proofs.Common.{◌≡◌, ℕ, ◌+◌, ◌≤◌, Bool, true, ◌&&◌, List, [], ◌∷◌, ◌++◌, length, map, refl, arith, nat_le, leb-true, le-leb}
use Rattle.std.specs.List.{flat_map}
use Rattle.nm_model.specs.Limits.{most_changes, most_dependencies, most_profiles, most_statements, most_superseded}
use Rattle.nm_model.specs.declared.header.Header.{Header}
use Rattle.nm_model.specs.Sound.{is_sound_header}
use Rattle.nm_reader.specs.declared.counts.Counts.{Counts}
use Rattle.nm_reader.specs.Limits.{is_within_limits, nothing, one_change, one_dependency, one_profile, one_statement, one_superseded, plus}
use Rattle.nm_statement.specs.declared.statement.Statement.{Statement}
use Rattle.nm_canon.proofs.Headers.{header_counts, header_parts, ids_parts, profiles_parts}
use Rattle.nm_canon.proofs.Telling.{adding}

-- one of the counts, which adds up
module _ (count : Counts → ℕ) (adds : (x y : Counts) → count (plus x y) ≡ count x + count y) (none : count nothing ≡ 0) where
  count-append : (xs ys : List Counts) → count (adding (xs ++ ys) nothing) ≡ count (adding xs nothing) + count (adding ys nothing)
  count-append [] ys = omega (arith, none)
  count-append (x ∷ xs) ys = omega (arith, adds x (adding (xs ++ ys) nothing), adds x (adding xs nothing), count-append xs ys)

  each_once : {X : Type 0} (one : Counts) → count one ≡ 1 → (xs : List X) → count (adding (map (λ x. one) xs) nothing) ≡ length xs
  each_once one is [] = none
  each_once {X = X} one is (x ∷ xs) = omega (arith, adds one (adding (map (λ (x : X). one) xs) nothing), is, each_once one is xs)

  each_never : {X : Type 0} (one : Counts) → count one ≡ 0 → (xs : List X) → count (adding (map (λ x. one) xs) nothing) ≡ 0
  each_never one is [] = none
  each_never {X = X} one is (x ∷ xs) = omega (arith, adds one (adding (map (λ (x : X). one) xs) nothing), is, each_never one is xs)

  flat_once : {X : Type 0} (one : Counts) → count one ≡ 1 → (xs : List X) → count (adding (flat_map (λ (x : X). one ∷ []) xs) nothing) ≡ length xs
  flat_once one is [] = none
  flat_once {X = X} one is (x ∷ xs) = omega (arith, adds one (adding (flat_map (λ (x : X). one ∷ []) xs) nothing), is, flat_once one is xs)

  flat_never : {X : Type 0} (one : Counts) → count one ≡ 0 → (xs : List X) → count (adding (flat_map (λ (x : X). one ∷ []) xs) nothing) ≡ 0
  flat_never one is [] = none
  flat_never {X = X} one is (x ∷ xs) = omega (arith, adds one (adding (flat_map (λ (x : X). one ∷ []) xs) nothing), is, flat_never one is xs)

  -- what a header counts for, and what stands behind it
  headed : (header : Header) (rest : List Counts) → count (adding (header_counts header ++ rest) nothing)
      ≡ (count (adding (flat_map (λ (text : List ℕ). one_profile ∷ []) header.profiles) nothing)
      + (count (adding (flat_map (λ (id : ℕ). one_dependency ∷ []) header.depends) nothing) + count (adding (flat_map (λ (id : ℕ). one_superseded ∷ []) header.supersedes) nothing)))
      + count (adding rest nothing)
  headed header rest =
      let profiles = flat_map (λ (text : List ℕ). one_profile ∷ []) header.profiles in
      let depends = flat_map (λ (id : ℕ). one_dependency ∷ []) header.depends in
      let supersedes = flat_map (λ (id : ℕ). one_superseded ∷ []) header.supersedes in
      omega (arith, count-append (profiles ++ (depends ++ supersedes)) rest, count-append profiles (depends ++ supersedes), count-append depends supersedes)

  -- a header that counts for nothing
  unheaded : (header : Header) (rest : List Counts) → count one_profile ≡ 0 → count one_dependency ≡ 0 → count one_superseded ≡ 0 → count (adding (header_counts header ++ rest) nothing) ≡ count (adding rest nothing)
  unheaded header rest profile dependency superseded =
      omega (arith, headed header rest, flat_never one_profile profile header.profiles, flat_never one_dependency dependency header.depends, flat_never one_superseded superseded header.supersedes)

  three : (a b c : List Counts) → count (adding (a ++ (b ++ c)) nothing) ≡ count (adding a nothing) + (count (adding b nothing) + count (adding c nothing))
  three a b c = omega (arith, count-append a (b ++ c), count-append b c)

within : (a limit : ℕ) (b : ℕ) → a ≡ b → b ≤ limit → nat_le a limit ≡ true
within a limit b is few = le-leb a limit (omega (arith, is, few))

-- no more profiles, dependencies and superseded models are stated than are kept, where nothing behind the header counts for such
module _ (header : Header) (sound : is_sound_header header ≡ true) (rest : List Counts) where
  profiles_within : (adding rest nothing).profiles ≡ 0 → nat_le (adding (header_counts header ++ rest) nothing).profiles most_profiles ≡ true
  profiles_within none =
      within (adding (header_counts header ++ rest) nothing).profiles most_profiles (length header.profiles)
      (omega (
        arith,
        headed (λ counts. counts.profiles) (λ x y. refl) refl header rest,
        flat_once (λ counts. counts.profiles) (λ x y. refl) refl one_profile refl header.profiles,
        flat_never (λ counts. counts.profiles) (λ x y. refl) refl one_dependency refl header.depends,
        flat_never (λ counts. counts.profiles) (λ x y. refl) refl one_superseded refl header.supersedes,
        none,
      )) (leb-true _ _ (profiles_parts header.profiles (header_parts header sound).profiles).2)

  dependencies_within : (adding rest nothing).dependencies ≡ 0 → nat_le (adding (header_counts header ++ rest) nothing).dependencies most_dependencies ≡ true
  dependencies_within none =
      within (adding (header_counts header ++ rest) nothing).dependencies most_dependencies (length header.depends)
      (omega (
        arith,
        headed (λ counts. counts.dependencies) (λ x y. refl) refl header rest,
        flat_never (λ counts. counts.dependencies) (λ x y. refl) refl one_profile refl header.profiles,
        flat_once (λ counts. counts.dependencies) (λ x y. refl) refl one_dependency refl header.depends,
        flat_never (λ counts. counts.dependencies) (λ x y. refl) refl one_superseded refl header.supersedes,
        none,
      )) (leb-true _ _ (ids_parts most_dependencies header.depends (header_parts header sound).depends).2)

  superseded_within : (adding rest nothing).superseded ≡ 0 → nat_le (adding (header_counts header ++ rest) nothing).superseded most_superseded ≡ true
  superseded_within none =
      within (adding (header_counts header ++ rest) nothing).superseded most_superseded (length header.supersedes)
      (omega (
        arith,
        headed (λ counts. counts.superseded) (λ x y. refl) refl header rest,
        flat_never (λ counts. counts.superseded) (λ x y. refl) refl one_profile refl header.profiles,
        flat_never (λ counts. counts.superseded) (λ x y. refl) refl one_dependency refl header.depends,
        flat_once (λ counts. counts.superseded) (λ x y. refl) refl one_superseded refl header.supersedes,
        none,
      )) (leb-true _ _ (ids_parts most_superseded header.supersedes (header_parts header sound).supersedes).2)

five : (a b c d e : Bool) → a ≡ true → b ≡ true → c ≡ true → d ≡ true → e ≡ true → (a && b && c && d && e) ≡ true
five a b c d e is_a is_b is_c is_d is_e = rw (is_a, is_b, is_c, is_d, is_e) refl

pub full_counts : (header : Header) (told : List Statement) → is_sound_header header ≡ true → length told ≤ most_statements
    → is_within_limits (adding (header_counts header ++ map (λ (statement : Statement). one_statement) told) nothing) ≡ true
full_counts header told sound few =
    let rest = map (λ (statement : Statement). one_statement) told in
    let all = adding (header_counts header ++ rest) nothing in
    five _ _ _ _ _
    (within all.statements most_statements (length told)
    (omega (arith, unheaded (λ counts. counts.statements) (λ x y. refl) refl header rest refl refl refl, each_once (λ counts. counts.statements) (λ x y. refl) refl one_statement refl told)) few)
    (within all.changes most_changes 0
    (omega (arith, unheaded (λ counts. counts.changes) (λ x y. refl) refl header rest refl refl refl, each_never (λ counts. counts.changes) (λ x y. refl) refl one_statement refl told)) (omega arith))
    (profiles_within header sound rest (each_never (λ counts. counts.profiles) (λ x y. refl) refl one_statement refl told))
    (dependencies_within header sound rest (each_never (λ counts. counts.dependencies) (λ x y. refl) refl one_statement refl told))
    (superseded_within header sound rest (each_never (λ counts. counts.superseded) (λ x y. refl) refl one_statement refl told))

-- three lists of changes
module _ (pre fwd rev : List Statement) where
  abbrev changes : List Counts
  changes = map (λ (statement : Statement). one_change) pre ++ (map (λ (statement : Statement). one_change) fwd ++ map (λ (statement : Statement). one_change) rev)

  no_changes : (count : Counts → ℕ) → ((x y : Counts) → count (plus x y) ≡ count x + count y) → count nothing ≡ 0 → count one_change ≡ 0 → count (adding changes nothing) ≡ 0
  no_changes count adds none is =
      let one = map (λ (statement : Statement). one_change) in
      omega (arith, three count adds none (one pre) (one fwd) (one rev), each_never count adds none one_change is pre, each_never count adds none one_change is fwd, each_never count adds none one_change is rev)

  all_changes : (adding changes nothing).changes ≡ length pre + (length fwd + length rev)
  all_changes =
      let one = map (λ (statement : Statement). one_change) in
      omega (
        arith,
        three (λ counts. counts.changes) (λ x y. refl) refl (one pre) (one fwd) (one rev),
        each_once (λ counts. counts.changes) (λ x y. refl) refl one_change refl pre,
        each_once (λ counts. counts.changes) (λ x y. refl) refl one_change refl fwd,
        each_once (λ counts. counts.changes) (λ x y. refl) refl one_change refl rev,
      )

  pub difference_counts : (header : Header) → is_sound_header header ≡ true → length pre + (length fwd + length rev) ≤ most_changes → is_within_limits (adding (header_counts header ++ changes) nothing) ≡ true
  difference_counts header sound few =
      let all = adding (header_counts header ++ changes) nothing in
      five _ _ _ _ _
      (within all.statements most_statements 0
      (omega (arith, unheaded (λ counts. counts.statements) (λ x y. refl) refl header changes refl refl refl, no_changes (λ counts. counts.statements) (λ x y. refl) refl refl)) (omega arith))
      (within all.changes most_changes (length pre + (length fwd + length rev)) (omega (arith, unheaded (λ counts. counts.changes) (λ x y. refl) refl header changes refl refl refl, all_changes)) few)
      (profiles_within header sound changes (no_changes (λ counts. counts.profiles) (λ x y. refl) refl refl))
      (dependencies_within header sound changes (no_changes (λ counts. counts.dependencies) (λ x y. refl) refl refl))
      (superseded_within header sound changes (no_changes (λ counts. counts.superseded) (λ x y. refl) refl refl))
