pub mod Grown
pub mod inside
