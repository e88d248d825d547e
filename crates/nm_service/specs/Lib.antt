pub mod Limits
pub mod Arguments
-- Connections, and where they come from
pub mod Link
pub mod MemoryLink
pub mod Door
pub mod MemoryDoor
pub mod Tcp
-- Examples, computed
pub mod Examples
