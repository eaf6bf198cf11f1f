pub mod Stages
pub mod Going
pub mod Insertions
