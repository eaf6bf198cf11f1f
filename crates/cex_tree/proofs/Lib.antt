pub mod KeptTrees
pub mod Shapes
pub mod PushAnswers
