pub mod Lists
pub mod Lives
pub mod Sorting
pub mod Orders
pub mod Missing
pub mod Joins
pub mod Changes
pub mod Found
pub mod Filings
pub mod Beside
pub mod FirstUnmet
pub mod AfterChange
pub mod Needs
mod Examples
