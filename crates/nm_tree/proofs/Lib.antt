pub mod Around
pub mod Depths
mod Examples
pub mod Fulls
pub mod Heights
pub mod Kept
pub mod Rising
pub mod Spans
