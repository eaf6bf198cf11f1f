-- What a refine answers and adds.
use Rattle.std.specs.Prelude.{◌≡◌, ◌≤◌, List}
use Rattle.derivation_tree.specs.Kept.{Lesson, HasTree}
use Rattle.derivation_tree.specs.Tree.{Tree, size_of}
use Rattle.core_steps.specs.declared.answers.Refined.{Refined}
use Rattle.core_steps.specs.declared.answers.Refined.TheVariants as told
use Rattle.core_steps.specs.State.{Opening}
use Rattle.core_steps.specs.Event.{Event}
use Rattle.core_steps.specs.Ends.{RefineAnswer, Done, StaleClaim, NotHeld, Stopped, IsRefineAnswer}
use Rattle.core_steps.specs.Course.{Course, opening_of, state_of, with_events}
use Rattle.core_steps.specs.Claims.{KeptAgrees}

-- The tree of the claim is not too large for the run.
abbrev pub IsSmall : Opening → Lesson → Type 0
IsSmall opening lesson = (tree : Tree) → HasTree lesson.kept tree → size_of tree ≤ opening.limits.tree

-- the code's answer tells this one
abbrev pub TellsRefined : RefineAnswer → Refined → Type 0
TellsRefined (Done n) (told.Done gone) = n ≡ gone
TellsRefined StaleClaim told.Stale = Unit {0}
TellsRefined NotHeld told.NotHeld = Unit {0}
TellsRefined Stopped told.Stopped = Unit {0}
TellsRefined answer code = ⊥

-- What a refine by what a claim's tree teaches answers and adds.
pub record Refines (old : Course) (lesson : Lesson) (stored : Refined) (new : Course) : Type 0 where
  pub answer : RefineAnswer
  pub events : List Event
  pub is_answer : IsRefineAnswer (opening_of old) (state_of old) lesson.kept.worker lesson.kept.root (KeptAgrees (state_of old) lesson.kept) lesson.scope lesson.predicates answer events
  pub tells : TellsRefined answer stored
  pub course : new ≡ with_events old events
