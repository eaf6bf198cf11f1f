pub mod AnswerLemmas
pub mod SafetyLemmas
pub mod WordsLemmas
