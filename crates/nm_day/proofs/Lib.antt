pub mod Dates
pub mod Orders
pub mod Numbers
pub mod OnLiterals
mod Examples
