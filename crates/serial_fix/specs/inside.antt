pub mod Cases
pub mod Jobs
pub mod Found
pub mod Looked
pub mod Run
