pub mod Balance
pub mod Change
pub mod Depth
pub mod Examples
pub mod Node
pub mod Pairs
pub mod Sight
pub mod Span
