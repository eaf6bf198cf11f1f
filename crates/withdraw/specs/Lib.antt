pub mod Withdrawal
pub mod inside
