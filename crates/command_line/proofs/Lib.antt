pub mod One
pub mod WordsGiven
pub mod Allowed
mod WordsSay
mod WordsSaid
pub mod StandsOnce
pub mod AllIsGiven
