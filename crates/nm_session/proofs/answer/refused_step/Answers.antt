use Rattle.std.proofs.Common.{◌≡◌, ◌∙◌, ℕ, List, [], ◌++◌, Result, Ok, Err, IfOk, codes, ap, refl, append-nil, append_assoc}
use Rattle.nm_ident.specs.UuidText.{uuid_text}
use Rattle.nm_session.specs.Reply.{cause_text, reply_line}
use Rattle.nm_session.proofs.answer.refused_step.Goals as goal

regrouped : (first day space model cause : List ℕ) → first ++ (day ++ (space ++ (model ++ (space ++ (cause ++ []))))) ≡ first ++ (day ++ space ++ model ++ space ++ cause)
regrouped first day space model cause =
    ap (λ end. first ++ (day ++ (space ++ (model ++ (space ++ end))))) (append-nil cause) ∙ simp append_assoc refl

-- the pieces of the line, as they are due
line_of_pieces : {V E : Type 0} (items : V → List ℕ) (line : Result V E) (day due_day model due_model cause due_cause : List ℕ) → day ≡ due_day → model ≡ due_model → cause ≡ due_cause
    → IfOk line (λ out. items out ≡ reply_line (codes "refused step " ++ (day ++ (codes " " ++ (model ++ (codes " " ++ (cause ++ [])))))))
    → IfOk line (λ out. items out ≡ reply_line (codes "refused step " ++ (due_day ++ codes " " ++ due_model ++ codes " " ++ due_cause)))
line_of_pieces items (Ok out) day due_day model due_model cause due_cause of_day of_model of_cause text =
    text
    ∙ ap reply_line (regrouped (codes "refused step ") day (codes " ") model cause)
    ∙ ap (λ end. reply_line (codes "refused step " ++ (day ++ codes " " ++ model ++ codes " " ++ end))) of_cause
    ∙ ap (λ middle. reply_line (codes "refused step " ++ (day ++ codes " " ++ middle ++ codes " " ++ due_cause))) of_model
    ∙ ap (λ front. reply_line (codes "refused step " ++ (front ++ codes " " ++ due_model ++ codes " " ++ due_cause))) of_day
line_of_pieces items (Err e) day due_day model due_model cause due_cause of_day of_model of_cause text = tt

pub returns : goal.returns
returns c =
    line_of_pieces (λ out. out.items) c.line_of.result c.text.result c.args.day c.id_text.result (uuid_text c.args.model) c.deref.result.now (cause_text c.args.cause.now)
    c.text.ensures.text c.id_text.ensures (c.deref.ensures.value ∙ c.in_ok-cause.ensures) c.line_of.ensures
