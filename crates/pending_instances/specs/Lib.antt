pub mod Open
pub mod Layout
pub mod Pending
pub mod Laws
pub mod Calls
pub mod inside
