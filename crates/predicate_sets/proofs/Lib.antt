pub mod Atoms
pub mod Homes
