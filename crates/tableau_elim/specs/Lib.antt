pub mod Tableau
pub mod Rounds
pub mod Decision
pub mod inside
