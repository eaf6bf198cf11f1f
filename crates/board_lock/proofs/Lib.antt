pub mod Prefixes
pub mod Kept
pub mod Steps
pub mod Appended
