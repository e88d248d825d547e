mod Readings
mod Texts
mod Marks
mod Segments
mod Names
mod OpenReferences
mod Ampersands
mod Meanings
mod Values
mod Tags
mod Starts
mod Pieces
pub mod Cuttings
mod Fronts
mod Splits
mod Scans
mod BetweenQuotes
mod Meant
mod NextInside
pub mod AsSpelt
mod Examples
