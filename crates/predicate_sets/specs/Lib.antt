pub mod HomeSet
pub mod Sets
