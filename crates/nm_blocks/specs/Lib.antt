pub mod Blocks
pub mod Cut
pub mod Examples
pub mod Items
