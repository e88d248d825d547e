-- The first statement that does not fit is the least of the first ones of the timelines.
use Rattle.std.proofs.Common.{◌≡◌, ◌∙◌, List, [], ◌∷◌, ◌++◌, true, ◌||◌, map, Option, None, Some, refl, sym, ap}
use Rattle.std.specs.List.{AllByRecursion, list_any}
use Rattle.std.specs.Option.{option_map, option_to_list}
use Rattle.nm_check.proofs.About.{break_of, breaks_about_one, is_break_of}
use Rattle.nm_check.proofs.Least.{first_is_least, firsts, least}
use Rattle.nm_check.proofs.Named.{has-named_by}
use Rattle.nm_check.proofs.Rising.{break_cmp-total, named_breaks, or_more, rising_breaks}
use Rattle.nm_check.specs.Breaks.{first_statement_break, least_break, lesser_break, statement_breaks}
use Rattle.nm_check.specs.Laws.{FirstBreakIsTheLeast}
use Rattle.nm_check.specs.Replay.{AreSteps}
use Rattle.nm_check.specs.Timelines.{breaks_about, first_breaks_of, is_named_in, named_by, timeline_of}
use Rattle.nm_check.specs.declared.breaks.Break.{Break}
use Rattle.nm_day.specs.declared.key.Key.{Key}
use Rattle.nm_ident.proofs.Rising.{all_weaker}
use Rattle.nm_stage.specs.Project.{PlainStep}
use Rattle.nm_statement.proofs.Orders.{statement_cmp-total}
use Rattle.nm_statement.specs.Set.{has}
use Rattle.nm_statement.specs.declared.statement.Statement.{Statement}
use Rattle.nm_timeline.proofs.Places.{flips}
use Rattle.nm_timeline.specs.Timeline.{first_break_of}
use Rattle.nm_timeline.specs.declared.part.Part.{Part}

pub least_is_by_order : (bs : List Break) → least_break bs ≡ least break_cmp-total bs
least_is_by_order [] = refl
least_is_by_order (b ∷ bs) = ap (λ l. Some (lesser_break b l)) (least_is_by_order bs)

in_list : (s : Statement) (found : Option (Key × Part)) → breaks_about s found ≡ option_to_list (option_map (break_of s) found)
in_list s None = refl
in_list s (Some at) = refl

-- the first breaks of the timelines of these statements are those of the replay about them
pub firsts_are : (base : List Statement) (steps : List PlainStep) (ss : List Statement)
    → first_breaks_of (map (λ s. (s, timeline_of base steps s)) ss) ≡ firsts break_cmp-total is_break_of (statement_breaks base steps) ss
firsts_are base steps [] = refl
firsts_are base steps (s ∷ ss) =
    (λ i. in_list s (first_break_of (timeline_of base steps s)) i ++ firsts_are base steps ss i)
    ∙ ap (λ found. option_to_list found ++ firsts break_cmp-total is_break_of (statement_breaks base steps) ss) (sym (breaks_about_one s steps base))

-- a statement of the list is one about which the break is
pub about_some : (ss : List Statement) (b : Break) → has ss b.statement ≡ true → list_any (λ s. is_break_of s b) ss ≡ true
about_some ss b e = turned ss ∙ e
  where
    turned : (xs : List Statement) → list_any (λ s. is_break_of s b) xs ≡ has xs b.statement
    turned [] = refl
    turned (x ∷ xs) = λ i. flips statement_cmp-total x b.statement i || turned xs i

-- the first break is the least of those about statements of a list, where all breaks are about such
pub first_of_some : (base : List Statement) (steps : List PlainStep) (ss : List Statement) → AreSteps steps
    → AllByRecursion (λ b. has ss b.statement ≡ true) (statement_breaks base steps)
    → first_statement_break base steps ≡ least_break (first_breaks_of (map (λ s. (s, timeline_of base steps s)) ss))
first_of_some base steps ss are named =
    first_is_least break_cmp-total is_break_of (statement_breaks base steps) ss (rising_breaks steps base are.order are.sets)
    (all_weaker (λ b. has ss b.statement ≡ true) (λ b. list_any (λ s. is_break_of s b) ss ≡ true) (about_some ss) (statement_breaks base steps) named)
    ∙ ap (least break_cmp-total) (sym (firsts_are base steps ss))
    ∙ sym (least_is_by_order (first_breaks_of (map (λ s. (s, timeline_of base steps s)) ss)))

pub first_break_is_the_least : FirstBreakIsTheLeast
first_break_is_the_least base steps are =
    first_of_some base steps (named_by base steps) are
    (named_breaks (λ s. has (named_by base steps) s ≡ true) steps base
    (λ s e. has-named_by base steps s ∙ or_more (has base s) (is_named_in steps s) e))
