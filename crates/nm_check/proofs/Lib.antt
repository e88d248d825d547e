pub mod Presence
pub mod Named
pub mod About
pub mod Least
pub mod Rising
pub mod FirstBreak
pub mod Edits
mod Examples
pub mod Lookups
pub mod Values
pub mod CanAdds
pub mod EditsDue
pub mod Ticks
pub mod Turns
pub mod Ordered
pub mod Derived
pub mod Told
