pub mod TreeCode
pub mod Flat
pub mod Growing
