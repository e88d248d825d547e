pub mod Calendar
pub mod Fields
pub mod Day
pub mod Key
pub mod Laws
pub mod Examples
