pub mod CountedDays
pub mod Names
pub mod Parts
mod Examples
