pub mod Entailment
