pub mod Found
pub mod Main
pub mod Operations
pub mod Tests
pub mod Used
pub mod Walked
pub mod Words
