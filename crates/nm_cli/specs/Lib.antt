pub mod CommandLine
pub mod Report
pub mod Failures
pub mod Reported
pub mod Forms
