-- How an outcome is told: by an answer, and by what stands in the buffer for the next state.
use Rattle.std.specs.Prelude.{ℤ, List}
use Rattle.step_meaning.specs.Outcome.{Outcome, Goes, Blocks, Overflows}
use Rattle.step_meaning.specs.declared.step_answer.StepAnswer.{StepAnswer}
use Rattle.step_meaning.specs.declared.step_answer.StepAnswer.TheVariants as answer

-- the answer that tells an outcome
abbrev pub answer_in : Outcome → StepAnswer
answer_in (Goes after) = answer.Next
answer_in Blocks = answer.Blocked
answer_in Overflows = answer.Overflow

-- what is in the buffer then: the state after, or what was there
abbrev pub buffer_in : Outcome → List ℤ → List ℤ
buffer_in (Goes after) buffer = after
buffer_in Blocks buffer = buffer
buffer_in Overflows buffer = buffer
