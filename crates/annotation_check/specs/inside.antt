pub mod Cases
pub mod Proving
