-- The timelines of a base without steps, and what timelines tell of a day.
use Rattle.std.proofs.Common.{◌≡◌, ◌∙◌, ℕ, List, [], ◌∷◌, length, Bool, true, false, cond, map, IfOk, Result, Ok, Err, refl, sym, ap}
use Rattle.std.proofs.lemmas.List.Kept.{IsStrictlySortedBy-filter}
use Rattle.std.proofs.lemmas.List.{append-nil}
use Rattle.std.specs.List.{AllByRecursion, filter}
use Rattle.std.specs.List.Sorted.{IsStrictlySortedBy}
use Rattle.nm_check.proofs.Named.{rising-after_changes, statements_are_of_timelines}
use Rattle.nm_check.proofs.Rising.{own_members}
use Rattle.nm_check.proofs.Values.{rising_given}
use Rattle.nm_check.specs.Kept.{AreKept, AreTimelinesOf}
use Rattle.nm_check.specs.Replay.{changes_of, in_service, statements_at}
use Rattle.nm_check.specs.Subject.{is_about, lines_of, object_at}
use Rattle.nm_check.specs.Timelines.{present_of, timelines_of}
use Rattle.nm_check.specs.Touched.{unchanged}
use Rattle.nm_check.proofs.Derived.{rising_derived}
use Rattle.nm_ident.specs.declared.ident.Ident.{Ident}
use Rattle.nm_stage.specs.Project.{PlainStep}
use Rattle.nm_statement.proofs.Sets.{set_of-rising}
use Rattle.nm_statement.specs.Order.{statement_cmp}
use Rattle.nm_statement.specs.Set.{IsRising, has, set_of}
use Rattle.nm_statement.specs.contracts.statement.StatementOrd.TheImpl as statement_ord
use Rattle.nm_statement.specs.declared.statement.Statement.{Statement}
use Rattle.nm_timeline.specs.Timeline.{PlainTimeline, present_at}
use Rattle.nm_tree.specs.Pairs as pairs

abbrev with_unchanged : List Statement → List (Statement × PlainTimeline)
with_unchanged statements = map (λ statement. (statement, unchanged)) statements

of_members : (base ss : List Statement) → AllByRecursion (λ s. has base s ≡ true) ss
    → with_unchanged ss ≡ map (λ (s : Statement). (s, record { base = has base s; entries = [] })) ss
of_members base [] a = refl
of_members base (s ∷ ss) a = λ i. (s, record { base = sym a.0 i; entries = [] }) ∷ of_members base ss a.1 i

pub timelines-base : (base : List Statement) → IsRising base → with_unchanged base ≡ timelines_of base []
timelines-base base rising =
    of_members base base (own_members base)
    ∙ ap (map (λ (s : Statement). (s, record { base = has base s; entries = [] }))) (sym (ap set_of (append-nil base) ∙ set_of-rising base rising))

pub rising_base : (base : List Statement) (ps : List (Statement × PlainTimeline)) → IsRising base → ps ≡ with_unchanged base → pairs.IsRising statement_ord.ghosts.cmp ps
rising_base base ps rising e = rw e (rising_derived (with_unchanged base) (rising_given (λ (s : Statement). unchanged) base rising))

pub kept_base : (base : List Statement) (timelines : List (Statement × PlainTimeline)) → IsRising base → timelines ≡ timelines_of base [] → AreKept timelines
unfolding IsStrictlySortedBy
kept_base base timelines rising e = record {
  base = base;
  steps = [];
  those = record { rising = rising; are = record { order = tt; sets = tt }; timelines_are = e };
  unbroken = refl;
}

-- ---- a day

present_told : (told timelines : List (Statement × PlainTimeline)) (day : List ℕ) (base : List Statement) (steps : List PlainStep) → told ≡ timelines → AreTimelinesOf base steps timelines
    → present_of told day ≡ statements_at base steps day
present_told told timelines day base steps e those =
    ap (λ ts. present_of ts day) (e ∙ those.timelines_are) ∙ sym (statements_are_of_timelines base steps day those.rising)

pub set_told : (set : List Statement) (told timelines : List (Statement × PlainTimeline)) (day : List ℕ) → set ≡ set_of (present_of told day) → told ≡ timelines
    → (base : List Statement) (steps : List PlainStep) → AreTimelinesOf base steps timelines → set ≡ statements_at base steps day
set_told set told timelines day f e base steps those =
    f ∙ ap set_of (present_told told timelines day base steps e those)
    ∙ set_of-rising (statements_at base steps day) (rising-after_changes (changes_of (in_service steps day)) base those.rising)

pub count_told : (count : ℕ) (told timelines : List (Statement × PlainTimeline)) (day : List ℕ) → count ≡ length (present_of told day) → told ≡ timelines
    → (base : List Statement) (steps : List PlainStep) → AreTimelinesOf base steps timelines → count ≡ length (statements_at base steps day)
count_told count told timelines day f e base steps those = f ∙ ap length (present_told told timelines day base steps e those)

pub set_due : {E : Type 0} (result : Result (List Statement) E) (told timelines : List (Statement × PlainTimeline)) (day : List ℕ) → IfOk result (λ set. set ≡ set_of (present_of told day)) → told ≡ timelines
    → IfOk result (λ set. (base : List Statement) (steps : List PlainStep) → AreTimelinesOf base steps timelines → set ≡ statements_at base steps day)
set_due (Ok set) told timelines day f e = set_told set told timelines day f e
set_due (Err error) told timelines day f e = tt

-- ---- a subject of a day

-- of those that a test of their views passes, the ones that are there
module _ {X Y : Type 0} (view : X → Y) (about : Y → Bool) (there : X → Bool) where
  abbrev those : List X → List X
  those xs = filter (λ x. about (view x)) xs

  there_about : (xs : List X) → map view (filter there (those xs)) ≡ filter about (map view (filter there xs))
  there_about [] = refl
  there_about (x ∷ xs) = by (there_about xs) (about (view x)) refl (there x) refl
    where
      passed : List Y
      passed = filter about (map view (filter there xs))

      by : map view (filter there (those xs)) ≡ passed → (b : Bool) → about (view x) ≡ b → (t : Bool) → there x ≡ t
          → map view (filter there (cond (about (view x)) (x ∷ those xs) (those xs))) ≡ filter about (map view (cond (there x) (x ∷ filter there xs) (filter there xs)))
      by h true e true f =
          (λ i. map view (filter there (cond (e i) (x ∷ those xs) (those xs))))
          ∙ (λ i. map view (cond (f i) (x ∷ filter there (those xs)) (filter there (those xs))))
          ∙ (λ i. view x ∷ h i)
          ∙ sym ((λ i. filter about (map view (cond (f i) (x ∷ filter there xs) (filter there xs)))) ∙ (λ i. cond (e i) (view x ∷ passed) passed))
      by h true e false f =
          (λ i. map view (filter there (cond (e i) (x ∷ those xs) (those xs))))
          ∙ (λ i. map view (cond (f i) (x ∷ filter there (those xs)) (filter there (those xs))))
          ∙ h
          ∙ sym (λ i. filter about (map view (cond (f i) (x ∷ filter there xs) (filter there xs))))
      by h false e true f =
          (λ i. map view (filter there (cond (e i) (x ∷ those xs) (those xs))))
          ∙ h
          ∙ sym ((λ i. filter about (map view (cond (f i) (x ∷ filter there xs) (filter there xs)))) ∙ (λ i. cond (e i) (view x ∷ passed) passed))
      by h false e false f =
          (λ i. map view (filter there (cond (e i) (x ∷ those xs) (those xs))))
          ∙ h
          ∙ sym (λ i. filter about (map view (cond (f i) (x ∷ filter there xs) (filter there xs))))

rising-statements_at : (base : List Statement) (steps : List PlainStep) (day : List ℕ) → IsRising base → IsRising (statements_at base steps day)
rising-statements_at base steps day rising = rising-after_changes (changes_of (in_service steps day)) base rising

object_told : (set : List Statement) (told timelines : List (Statement × PlainTimeline)) (day : List ℕ) (subject : Ident) → set ≡ set_of (present_of told day)
    → told ≡ lines_of subject timelines → (base : List Statement) (steps : List PlainStep) → AreTimelinesOf base steps timelines → set ≡ object_at base steps day subject
object_told set told timelines day subject f e base steps those =
    f ∙ ap set_of
    (ap (λ ts. present_of ts day) e
    ∙ there_about (λ (p : Statement × PlainTimeline). p.0) (is_about subject) (λ p. present_at p.1 day) timelines
    ∙ ap (filter (is_about subject)) (present_told timelines timelines day base steps refl those))
    ∙ set_of-rising (object_at base steps day subject)
    (IsStrictlySortedBy-filter statement_cmp (is_about subject) (statements_at base steps day) (rising-statements_at base steps day those.rising))

pub object_due : {E : Type 0} (result : Result (List Statement) E) (told timelines : List (Statement × PlainTimeline)) (day : List ℕ) (subject : Ident)
    → IfOk result (λ set. set ≡ set_of (present_of told day)) → told ≡ lines_of subject timelines
    → IfOk result (λ set. (base : List Statement) (steps : List PlainStep) → AreTimelinesOf base steps timelines → set ≡ object_at base steps day subject)
object_due (Ok set) told timelines day subject f e = object_told set told timelines day subject f e
object_due (Err error) told timelines day subject f e = tt
