pub mod Namespaces
pub mod Canonical
pub mod Passing
