pub mod Reading
pub mod Places
pub mod Listing
pub mod Printing
