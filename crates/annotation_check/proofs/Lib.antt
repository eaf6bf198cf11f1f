pub mod Lists
pub mod Homes
pub mod Cases
pub mod HeldAtoms
pub mod Groups
pub mod Checked
