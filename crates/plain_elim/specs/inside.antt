-- What no public clause cites.
pub mod Held
pub mod PointParts
pub mod LineParts
pub mod Combined
pub mod Stages
