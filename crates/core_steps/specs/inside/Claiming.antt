-- Which fact is claimed, and what is kept of it.
use Rattle.std.specs.Prelude.{◌≡◌, ◌≢◌, ℕ, ◌==◌, ◌||◌, Bool, false, if◌then◌else◌, List, [], ◌∷◌, ◌++◌, Option, Some, None, MatchOption}
use Rattle.std.specs.List.{AllByRecursion, Contains, list_any}
use Rattle.thr_base.specs.declared.names.FactId.{FactId}
use Rattle.thr_base.specs.declared.names.Fact.{Fact as StoredFact}
use Rattle.thr_base.specs.declared.names.Instance.{Instance as StoredInstance}
use Rattle.transition_formula.specs.Program.{Program}
use Rattle.fact_table.specs.declared.live_fact.LiveFact.{LiveFact}
use Rattle.horn_rules.specs.Home.{State as AtLocation}
use Rattle.horn_rules.specs.Fact.{Fact}
use Rattle.horn_rules.specs.Stored.{home_numbered}
use Rattle.derivation_tree.specs.Facts.{fact_at}
use Rattle.core_steps.specs.State.{State, Claimed}
use Rattle.core_steps.specs.inside.Quiet.{IsFailing}
use Rattle.core_steps.specs.inside.Standing.{names_any}

-- Nobody has claimed the fact of this id.
abbrev pub IsUnclaimed : State → ℕ → Type 0
IsUnclaimed state id = (claim : Claimed) → Contains state.claims claim → claim.root ≢ id

-- The fact may be claimed.
abbrev pub MayBeClaimed : Program → State → LiveFact → Type 0
MayBeClaimed program state f = IsFailing (home_numbered program f.fact.home.0) × IsUnclaimed state f.id.0

-- So may the live fact of this id.
pub record IsClaimable (state : State) (id : ℕ) : Type 0 where
  pub fact : Fact
  pub i : ℕ
  pub is_live : fact_at state.live id ≡ Some fact
  pub fails : fact.home ≡ AtLocation i 0
  pub unclaimed : IsUnclaimed state id

-- One of the facts that may be claimed, if there is one.
abbrev pub IsOneToClaim : Program → State → List LiveFact → Option LiveFact → Type 0
IsOneToClaim program state facts one = MatchOption one (AllByRecursion (λ f. ¬ MayBeClaimed program state f) facts) (λ f. Contains facts f × MayBeClaimed program state f)

-- some of the roots is this one
abbrev pub is_root : FactId → Option FactId → Bool
is_root id None = false
is_root id (Some root) = root.0 == id.0

abbrev pub any_root : List (Option FactId) → FactId → Bool
any_root claims id = list_any (is_root id) claims

-- ---- what is kept

-- the facts found so far with a fact that is the root, or a premise of one of them
abbrev pub with_picked : ℕ → List (FactId × StoredFact × StoredInstance) → LiveFact → List (FactId × StoredFact × StoredInstance)
with_picked root found f = if f.id.0 == root || names_any found f.id.0 then found ++ (f.id, f.fact, f.kept) ∷ [] else found

-- so with each fact of a list
abbrev pub with_all_picked : ℕ → List (FactId × StoredFact × StoredInstance) → List LiveFact → List (FactId × StoredFact × StoredInstance)
with_all_picked root found [] = found
with_all_picked root found (f ∷ facts) = with_all_picked root (with_picked root found f) facts
