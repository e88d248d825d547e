use Rattle.nm_http.proofs.HeadsFound.{head_found, head_told}
use Rattle.nm_http.proofs.laws.heads_are_found.Goals as goal

pub returns : goal.returns
returns c = λ bytes head. (head_found bytes head, head_told bytes head)
