pub mod Breaks
pub mod Commits
pub mod Logs
pub mod Filings
pub mod Lists
pub mod Unnumbered
mod Examples
mod ExamplesOfTimelines
mod ExamplesOfEdits
mod ExamplesOfAssemblies
pub mod Reached
pub mod Beside
pub mod Withdrawals
pub mod Determined
pub mod Lesser
pub mod Fitting
pub mod Edited
pub mod Others
pub mod Crossing
pub mod ByTimelines
