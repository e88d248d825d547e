-- Filing numbers are numbers of accepted commands, so that a project that is filed stands behind all others.
use Rattle.std.proofs.Common.{◌≡◌, ◌∙◌, ℕ, ◌+◌, ◌<◌, ◌≤◌, List, [], ◌∷◌, ◌++◌, Bool, true, false, cond, length-append, Option, None, Some, Ordering, ◌==◌, refl, sym, ap, subst, arith}
use Rattle.std.specs.Cmp.{nat_cmp_is}
use Rattle.std.specs.List.{AllByRecursion, filter, find}
use Rattle.std.specs.Ordering.{match_ordering}
use Rattle.std.specs.declared.cmp.Ordering.TheVariants.{Less, Equal, Greater}
use Rattle.nm_ident.proofs.Rising.{all_weaker}
use Rattle.nm_model.specs.declared.document.Document.{Document}
use Rattle.nm_model.specs.declared.document.Document.TheVariants as document
use Rattle.nm_stage.specs.Live.{filing_cmp, project_of, with_project}
use Rattle.nm_stage.specs.Project.{PlainProject, id_of}
use Rattle.nm_version.specs.After.{IsReached, accepted, after, after_all, or_before, result_of}
use Rattle.nm_version.specs.Changed.{live_after, live_redated, live_revised, live_withdrawn, project_filed}
use Rattle.nm_version.specs.Command.{entry_of}
use Rattle.nm_version.specs.Kept.{Kept, number_of, opened}
use Rattle.nm_version.specs.Laws.{FiledProjectsComeLast}
use Rattle.nm_version.specs.Refusal.{refusal_of}
use Rattle.nm_version.specs.declared.command.Command.{Command}
use Rattle.nm_version.specs.declared.command.Command.TheVariants.{File, Revise, Redate, Withdraw}
use Rattle.nm_version.specs.declared.refusal.Refusal.{Refusal}

module _ (P : PlainProject → Type 0) where
  pub all_replaced : (project : PlainProject) (live : List PlainProject) → AllByRecursion P live → P project → AllByRecursion P (with_project project live)
  all_replaced project [] a p = (p, tt)
  all_replaced project (x ∷ xs) a p = by (all_replaced project xs a.1 p) (filing_cmp project x)
    where
      by : AllByRecursion P (with_project project xs) → (r : Ordering) → AllByRecursion P (match_ordering r (project ∷ x ∷ xs) (project ∷ xs) (x ∷ with_project project xs))
      by h Less = (p, a)
      by h Equal = (p, a.1)
      by h Greater = (a.0, h)

  pub all_filtered : (test : PlainProject → Bool) (live : List PlainProject) → AllByRecursion P live → AllByRecursion P (filter test live)
  all_filtered test [] a = tt
  all_filtered test (x ∷ xs) a = by (all_filtered test xs a.1) (test x)
    where
      by : AllByRecursion P (filter test xs) → (b : Bool) → AllByRecursion P (cond b (x ∷ filter test xs) (filter test xs))
      by h true = (a.0, h)
      by h false = h

  pub of_found : (test : PlainProject → Bool) (live : List PlainProject) (project : PlainProject) → AllByRecursion P live → find test live ≡ Some project → P project
  of_found test [] project a e = absurd (let wrong = e in cc)
  of_found test (x ∷ xs) project a e = by (of_found test xs project a.1) (test x) e
    where
      by : (find test xs ≡ Some project → P project) → (b : Bool) → cond b (Some x) (find test xs) ≡ Some project → P project
      by h true f = let same : x ≡ project = cc in subst P same a.0
      by h false f = h f

-- a project of a new number stands behind all others
pub last_of_all : (project : PlainProject) (live : List PlainProject) → AllByRecursion (λ one. one.filing < project.filing) live → with_project project live ≡ live ++ project ∷ []
last_of_all project [] a = refl
last_of_all project (x ∷ xs) a =
    (λ i. match_ordering (sym (nat_cmp_is project.filing x.filing Greater a.0) i) (project ∷ x ∷ xs) (project ∷ xs) (x ∷ with_project project xs))
    ∙ ap (λ l. x ∷ l) (last_of_all project xs a.1)

abbrev pub UpTo : ℕ → List PlainProject → Type 0
UpTo number live = AllByRecursion (λ one. one.filing ≤ number) live

module _ (number : ℕ) (live : List PlainProject) (a : UpTo number live) where
  more : UpTo (number + 1) live
  more = all_weaker (λ one. one.filing ≤ number) (λ one. one.filing ≤ number + 1) (λ one h. omega arith) live a

  put_again : (project : PlainProject) → project.filing ≤ number → UpTo (number + 1) (with_project project live)
  put_again project h = all_replaced (λ one. one.filing ≤ number + 1) project live more (omega arith)

  was_up_to : (id : ℕ) (project : PlainProject) → project_of id live ≡ Some project → project.filing ≤ number
  was_up_to id project e = of_found (λ one. one.filing ≤ number) (λ one. id_of one == id) live project a e

  revised : (id : ℕ) (model : Document) (found : Option PlainProject) → project_of id live ≡ found → UpTo (number + 1) (live_revised model found live)
  revised id model None e = more
  revised id (document.Full full) (Some project) e = more
  revised id (document.Difference difference) (Some project) e = put_again _ (was_up_to id project e)

  redated : (id : ℕ) (day : List ℕ) (found : Option PlainProject) → project_of id live ≡ found → UpTo (number + 1) (live_redated day found live)
  redated id day None e = more
  redated id day (Some project) e = put_again _ (was_up_to id project e)

  withdrawn : (found : Option PlainProject) → UpTo (number + 1) (live_withdrawn found live)
  withdrawn None = more
  withdrawn (Some project) = all_filtered (λ one. one.filing ≤ number + 1) _ live more

pub changed : (kept : Kept) (command : Command) → UpTo (number_of kept) kept.live → UpTo (number_of kept + 1) (live_after kept command)
changed kept (File day (document.Full full) bytes) a = more (number_of kept) kept.live a
changed kept (File day (document.Difference difference) bytes) a =
    all_replaced (λ one. one.filing ≤ number_of kept + 1) (project_filed (number_of kept + 1) day difference) kept.live (more (number_of kept) kept.live a) (omega arith)
changed kept (Revise id model bytes) a = revised (number_of kept) kept.live a id model (project_of id kept.live) refl
changed kept (Redate id day) a = redated (number_of kept) kept.live a id day (project_of id kept.live) refl
changed kept (Withdraw id) a = withdrawn (number_of kept) kept.live a (project_of id kept.live)

abbrev AreNumbers : Kept → Type 0
AreNumbers kept = UpTo (number_of kept) kept.live

after_one : (kept : Kept) (command : Command) → AreNumbers kept → AreNumbers (after kept command)
after_one kept command a = by (refusal_of kept command)
  where
    number : number_of kept + 1 ≡ number_of (accepted kept command)
    number = omega (arith, length-append kept.log (entry_of command ∷ []))

    by : (r : Option Refusal) → AreNumbers (or_before kept (result_of r (accepted kept command)))
    by None = subst (λ n. UpTo n (live_after kept command)) number (changed kept command a)
    by (Some refusal) = a

after_them : (kept : Kept) (commands : List Command) → AreNumbers kept → AreNumbers (after_all kept commands)
after_them kept [] a = a
after_them kept (command ∷ commands) a = after_them (after kept command) commands (after_one kept command a)

-- of what has been reached
pub are_numbers : (kept : Kept) → IsReached kept → AllByRecursion (λ one. one.filing ≤ number_of kept) kept.live
are_numbers kept r = subst AreNumbers r.reached (after_them (opened kept.base kept.bytes) r.commands tt)

pub filed_projects_come_last : FiledProjectsComeLast
filed_projects_come_last kept day difference bytes r =
    last_of_all (project_filed (number_of kept + 1) day difference) kept.live
    (all_weaker (λ one. one.filing ≤ number_of kept) (λ one. one.filing < number_of kept + 1) (λ one h. omega arith) kept.live (are_numbers kept r))
