pub mod ExamplesOfReports
pub mod Reports
pub mod Forms
