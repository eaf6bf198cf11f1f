pub mod Kinds
pub mod JobRows
pub mod Lines
pub mod Worked
