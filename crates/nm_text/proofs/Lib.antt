mod Examples
pub mod EndsOfLines
pub mod Fronts
pub mod Meanings
pub mod Numbers
pub mod Places
pub mod ReferenceNames
pub mod References
pub mod Spaces
pub mod Spellings
pub mod Splits
pub mod Strays
pub mod Meant
pub mod TextsAgain
pub mod Unread
pub mod Utf8Texts
