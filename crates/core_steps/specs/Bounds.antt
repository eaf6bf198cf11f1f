-- What a stop tells of the least set, where no predicate was added.
use Rattle.std.specs.Prelude.{◌≡◌, ◌≢◌, ◌<◌, ℕ, List, length, AllPairs, Some}
use Rattle.std.specs.List.{AllByRecursion}
use Rattle.horn_rules.specs.Fact.{Fact, statement_of}
use Rattle.horn_rules.specs.Instance.{Instance, HasKind, premises_of, map_instance}
use Rattle.horn_rules.specs.Case.{Case, IsCaseOf}
use Rattle.horn_rules.specs.Least.{Least}
use Rattle.abstract_post.specs.Left.{Leaves}
use Rattle.core_steps.specs.State.{Opening, IsOpening, Reason, Facts, Jobs, Refinements, Predicates, JobLeft, RootLeft, Unsafe, Memory}
use Rattle.core_steps.specs.Event.{History}
use Rattle.core_steps.specs.After.{after}
use Rattle.core_steps.specs.Legal.{IsLegal}

-- the least set under the predicates that the run opens with
abbrev pub IsLeast : Opening → Fact → Type 0
IsLeast opening fact = Least opening.program opening.rule opening.sets fact

-- More than so many different elements are of this kind.
pub record AreMoreThan {A : Type 0} (most : ℕ) (IsOne : A → Type 0) : Type 0 where
  pub elements : List A
  pub none_twice : AllPairs (λ a b. a ≢ b) elements
  pub are : AllByRecursion IsOne elements
  pub more : most < length elements

-- An instance of the rule over the least set, which comes to a case of the program. Two edges with the same content make two instances.
pub record IsLeastInstance (opening : Opening) (instance : Instance Fact) : Type 0 where
  pub given : Case
  pub has_kind : HasKind opening.rule instance
  pub is_case : IsCaseOf opening.program (map_instance (statement_of opening.sets) instance) given
  pub stand : AllByRecursion (IsLeast opening) (premises_of instance)

-- What the reason says of the least set: it has more facts than so many, or more instances are over it; an instance over it is left.
abbrev pub TellsOfLeast : Opening → Reason → Type 0
TellsOfLeast opening (Facts n) = AreMoreThan n (IsLeast opening)
TellsOfLeast opening (Jobs n) = AreMoreThan n (IsLeastInstance opening)
TellsOfLeast opening (JobLeft instance kind) = Leaves opening.program opening.rule opening.sets (IsLeast opening)
TellsOfLeast opening reason = Unit {0}

-- Where a run stopped, and was never refined, so it is with the least set under the predicates that it opened with.
abbrev pub StopsTellOfLeast : Type 0
StopsTellOfLeast = (opening : Opening) (history : History) (reason : Reason) → IsOpening opening → IsLegal opening history → (after opening history).refined ≡ 0
    → (after opening history).stop ≡ Some reason → TellsOfLeast opening reason
