pub mod Comments
pub mod Numbers
pub mod Cuts
pub mod Steps
pub mod Places
pub mod Longest
