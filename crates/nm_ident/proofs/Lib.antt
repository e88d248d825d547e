pub mod UuidTexts
pub mod Idents
pub mod Orders
pub mod Rising
pub mod Examples
