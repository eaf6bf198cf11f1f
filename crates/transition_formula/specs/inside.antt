pub mod AtomReading
pub mod FormParts
pub mod Worked
