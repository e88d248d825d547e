use Rattle.std.proofs.Common.{◌≡◌, ◌∙◌, ℕ, ◌<◌, List, length, take, None, codes, nat_eq, if◌then◌else◌, sym, ap, arith}
use Rattle.std.proofs.lemmas.List.{drop_all}
use Rattle.std.specs.List.{starts_with}
use Rattle.std.specs.Option.{option_map}
use Rattle.nm_ident.specs.UuidText.{uuid_of}
use Rattle.nm_session.specs.Word.{id_before_space}
use Rattle.nm_session.proofs.word.id_and_rest.Goals as goal

short_words : (text : List ℕ) → length text < 36 → None ≡ id_before_space text
unfolding id_before_space
short_words text few =
    ap (λ rest. if starts_with nat_eq rest (codes " ") then uuid_of (take 36 text) else None) (sym (drop_all 36 text (omega arith)))

pub returns-in_err-id-clause-id : goal.returns-in_err-id-clause-id
returns-in_err-id-clause-id c =
    ap (option_map (λ parts. parts.0)) c.from_residual.ensures ∙ short_words c.args.words.now c.in_err-id.ensures.cases
