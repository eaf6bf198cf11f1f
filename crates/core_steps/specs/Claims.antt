-- Claims as a core hands them out, and takes them back.
use Rattle.std.specs.Prelude.{◌≡◌, ◌↔◌, ℕ, List}
use Rattle.std.specs.List.{Contains}
use Rattle.horn_rules.specs.Instance.{premises_of}
use Rattle.derivation_tree.specs.Facts.{KeptFact}
use Rattle.derivation_tree.specs.Kept.{KeptTree}
use Rattle.core_steps.specs.declared.answers.Claimed.{Claimed}
use Rattle.core_steps.specs.declared.answers.Claimed.TheVariants as told
use Rattle.core_steps.specs.State.{Opening, State}
use Rattle.core_steps.specs.Event.{Event}
use Rattle.core_steps.specs.Answers.{ClaimAnswer, GivesClaim, NothingClaimable, HoldsAlready, Stopped, IsClaimAnswer}
use Rattle.core_steps.specs.Course.{Course, opening_of, state_of, with_events}

-- The fact is that of the root, or a premise of one that is below it.
pub data IsBelow (live : List KeptFact) (root : ℕ) : KeptFact → Type 0 where
  itself : (f : KeptFact) → Contains live f → f.id ≡ root → IsBelow live root f
  premise : (f g : KeptFact) → IsBelow live root f → Contains (premises_of f.kept) g.id → Contains live g → IsBelow live root g

-- The claim agrees with the run: it keeps exactly the live facts below its root, with their kept instances.
abbrev pub KeptAgrees : State → KeptTree → Type 0
KeptAgrees state kept = (f : KeptFact) → Contains kept.facts f ↔ IsBelow state.live kept.root f

-- ---- the call

-- Worker w is handed the claim of this fact.
pub record IsClaimFor (opening : Opening) (state : State) (w id : ℕ) (kept : KeptTree) : Type 0 where
  pub program_is : kept.program ≡ opening.program
  pub worker_is : kept.worker ≡ w
  pub root_is : kept.root ≡ id
  pub agrees : KeptAgrees state kept

-- the code's answer tells this one
abbrev pub TellsClaimed : Opening → State → ℕ → ClaimAnswer → Claimed → Type 0
TellsClaimed opening state w (GivesClaim id) (told.Kept kept) = IsClaimFor opening state w id kept
TellsClaimed opening state w NothingClaimable told.NothingClaimable = Unit {0}
TellsClaimed opening state w HoldsAlready told.HoldsAlready = Unit {0}
TellsClaimed opening state w Stopped told.Stopped = Unit {0}
TellsClaimed opening state w answer code = ⊥

-- What a claim by worker w answers and adds.
pub record MakesClaim (old : Course) (w : ℕ) (stored : Claimed) (new : Course) : Type 0 where
  pub answer : ClaimAnswer
  pub events : List Event
  pub is_answer : IsClaimAnswer (opening_of old) (state_of old) w answer events
  pub tells : TellsClaimed (opening_of old) (state_of old) w answer stored
  pub course : new ≡ with_events old events
