pub mod Bytes
pub mod Due
pub mod Examples
