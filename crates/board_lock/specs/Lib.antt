pub mod inside
pub mod Seats
pub mod Turns
