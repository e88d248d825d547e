pub mod Part
pub mod Timeline
pub mod Examples
