-- The bytes of the base and the log determine what is kept.
use Rattle.std.proofs.Common.{◌≡◌, ◌∙◌, ℕ, List, [], ◌∷◌, map, refl, sym, ap, subst}
use Rattle.std.specs.List.{AllByRecursion}
use Rattle.nm_model.specs.declared.document.Document.TheVariants as document
use Rattle.nm_model.specs.declared.document.Full.{Full}
use Rattle.nm_reader.specs.Input.{IsDocumentOf}
use Rattle.nm_reader.proofs.Inputs.{inputs_state_one_model}
use Rattle.nm_version.specs.After.{after_all}
use Rattle.nm_version.specs.Command.{IsSpelt, entry_of}
use Rattle.nm_version.specs.Kept.{opened}
use Rattle.nm_version.specs.Laws.{LogsDetermineWhatIsKept}
use Rattle.nm_version.specs.declared.command.Command.{Command}
use Rattle.nm_version.specs.declared.command.Command.TheVariants.{File, Revise, Redate, Withdraw}

-- a document is the one that its bytes state, so that nothing is lost in the log
same_command : (command other : Command) → IsSpelt command → IsSpelt other → entry_of command ≡ entry_of other → command ≡ other
same_command (File day model bytes) (File on it given) spelt also same =
    let days : day ≡ on = cc in
    let all : bytes ≡ given = cc in
    let models : model ≡ it = inputs_state_one_model given model it (subst (λ (b : List ℕ). IsDocumentOf b model) all spelt) also in
    cc
same_command (Revise project model bytes) (Revise one it given) spelt also same =
    let projects : project ≡ one = cc in
    let all : bytes ≡ given = cc in
    let models : model ≡ it = inputs_state_one_model given model it (subst (λ (b : List ℕ). IsDocumentOf b model) all spelt) also in
    cc
same_command (Redate project day) (Redate one on) spelt also same =
    let projects : project ≡ one = cc in
    let days : day ≡ on = cc in
    cc
same_command (Withdraw project) (Withdraw one) spelt also same =
    let projects : project ≡ one = cc in
    cc
same_command (File day model bytes) (Revise one it given) spelt also same = absurd (cc)
same_command (File day model bytes) (Redate one on) spelt also same = absurd (cc)
same_command (File day model bytes) (Withdraw one) spelt also same = absurd (cc)
same_command (Revise project model bytes) (File on it given) spelt also same = absurd (cc)
same_command (Revise project model bytes) (Redate one on) spelt also same = absurd (cc)
same_command (Revise project model bytes) (Withdraw one) spelt also same = absurd (cc)
same_command (Redate project day) (File on it given) spelt also same = absurd (cc)
same_command (Redate project day) (Revise one it given) spelt also same = absurd (cc)
same_command (Redate project day) (Withdraw one) spelt also same = absurd (cc)
same_command (Withdraw project) (File on it given) spelt also same = absurd (cc)
same_command (Withdraw project) (Revise one it given) spelt also same = absurd (cc)
same_command (Withdraw project) (Redate one on) spelt also same = absurd (cc)

same_commands : (commands others : List Command) → AllByRecursion IsSpelt commands → AllByRecursion IsSpelt others → map entry_of commands ≡ map entry_of others → commands ≡ others
same_commands [] [] spelt also same = refl
same_commands [] (other ∷ others) spelt also same = absurd (cc)
same_commands (command ∷ commands) [] spelt also same = absurd (cc)
same_commands (command ∷ commands) (other ∷ others) spelt also same =
    let first : entry_of command ≡ entry_of other = cc in
    let rest : map entry_of commands ≡ map entry_of others = cc in
    let head : command ≡ other = same_command command other spelt.0 also.0 first in
    let tail : commands ≡ others = same_commands commands others spelt.1 also.1 rest in
    cc

pub logs_determine_what_is_kept : LogsDetermineWhatIsKept
logs_determine_what_is_kept kept other reached also bytes log =
    let models = inputs_state_one_model other.bytes (document.Full kept.base) (document.Full other.base)
    (subst (λ (b : List ℕ). IsDocumentOf b (document.Full kept.base)) bytes reached.base) also.base in
    let base : kept.base ≡ other.base = cc in
    let commands : reached.commands ≡ also.commands = same_commands reached.commands also.commands reached.spelt also.spelt (reached.logged ∙ log ∙ sym also.logged) in
    sym reached.reached
    ∙ ap (λ (b : Full). after_all (opened b kept.bytes) reached.commands) base
    ∙ ap (λ (b : List ℕ). after_all (opened other.base b) reached.commands) bytes
    ∙ ap (λ (c : List Command). after_all (opened other.base other.bytes) c) commands
    ∙ also.reached
