pub mod Tens
pub mod Edits
