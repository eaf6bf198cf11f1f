pub mod Stops
pub mod Looks
pub mod Loops
pub mod Outcomes
pub mod Order
pub mod InitialStates
pub mod KnownEdges
pub mod AddingProgram
