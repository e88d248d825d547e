-- A command leaves the projects of the other filing numbers.
use Rattle.std.proofs.Common.{◌≡◌, ℕ, List, Option, None, Some, refl}
use Rattle.nm_model.specs.declared.document.Document.{Document}
use Rattle.nm_model.specs.declared.document.Document.TheVariants as document
use Rattle.nm_stage.proofs.Filings.{with_leaves, without_leaves}
use Rattle.nm_stage.specs.Live.{IsLive, project_of, without_filing}
use Rattle.nm_stage.specs.Project.{PlainProject}
use Rattle.nm_version.specs.ByTimelines.{filing_changed, filing_or}
use Rattle.nm_version.specs.Changed.{live_after, live_redated, live_revised, live_withdrawn}
use Rattle.nm_version.specs.Kept.{Kept}
use Rattle.nm_version.specs.declared.command.Command.{Command}
use Rattle.nm_version.specs.declared.command.Command.TheVariants.{File, Revise, Redate, Withdraw}

module _ (next : ℕ) (live : List PlainProject) (l : IsLive live) where
  others_revised : (model : Document) (found : Option PlainProject) → without_filing (filing_or next found) (live_revised model found live) ≡ without_filing (filing_or next found) live
  others_revised model None = refl
  others_revised (document.Full full) (Some project) = refl
  others_revised (document.Difference difference) (Some project) = with_leaves _ live l.rising

  others_redated : (day : List ℕ) (found : Option PlainProject) → without_filing (filing_or next found) (live_redated day found live) ≡ without_filing (filing_or next found) live
  others_redated day None = refl
  others_redated day (Some project) = with_leaves _ live l.rising

  others_withdrawn : (found : Option PlainProject) → without_filing (filing_or next found) (live_withdrawn found live) ≡ without_filing (filing_or next found) live
  others_withdrawn None = refl
  others_withdrawn (Some project) = without_leaves project.filing live

pub others_stay : (kept : Kept) (command : Command) → IsLive kept.live → without_filing (filing_changed kept command) (live_after kept command) ≡ without_filing (filing_changed kept command) kept.live
others_stay kept (File day (document.Full full) bytes) l = refl
others_stay kept (File day (document.Difference difference) bytes) l = with_leaves _ kept.live l.rising
others_stay kept (Revise id model bytes) l = others_revised _ kept.live l model (project_of id kept.live)
others_stay kept (Redate id day) l = others_redated _ kept.live l day (project_of id kept.live)
others_stay kept (Withdraw id) l = others_withdrawn _ kept.live l (project_of id kept.live)
