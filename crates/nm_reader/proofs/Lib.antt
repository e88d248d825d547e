pub mod Spellings
mod Tags
mod Pieces
pub mod Join
mod Split
mod Headed
mod Documents
mod Examples
mod InputExamples
pub mod Scopes
pub mod Options
pub mod Inputs
pub mod JudgedCuts
pub mod Rests
pub mod Ends
pub mod Made
pub mod ClassIris
pub mod KeptTags
pub mod KeptCounts
pub mod KeptContexts
pub mod KeptModels
pub mod SoundPieces
pub mod Readings
pub mod Joined
pub mod Judged
pub mod Entered
pub mod Drafts
pub mod Sorting
pub mod Leading
