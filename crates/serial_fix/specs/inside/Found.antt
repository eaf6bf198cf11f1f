-- The facts that a run has found. No public clause cites this file.
use Rattle.std.specs.Prelude.{◌≡◌, ◌⊎◌, ℕ, suc, ◌^◌, ◌<◌, ◌≤◌, ◌==◌, List, [], ◌∷◌, ◌++◌, length, map, filter, slice_get, Option, Some, None, Contains}
use Rattle.thr_base.specs.declared.names.HomeNo.{HomeNo}
use Rattle.thr_base.specs.declared.names.Fact.{Fact as StoredFact}
use Rattle.serial_fix.specs.declared.step.Step.{Step}
use Rattle.serial_fix.specs.declared.step.Step.TheVariants.{Done, Stopped}
use Rattle.serial_fix.specs.declared.step.Ending.TheVariants.{TooManyFacts as FactsEnd}

-- the facts in the order in which they came, over so many homes, and how many jobs were counted
pub record FoundFacts : Type 0 where
  pub homes : ℕ
  pub facts : List StoredFact
  pub jobs : ℕ

-- the words that are held at the home of a number
abbrev pub held_at : ℕ → List StoredFact → List ℕ
held_at n facts = map (λ fact. fact.held) (filter (λ fact. fact.home.0 == n) facts)

-- Each home has the words that are held there; facts are few enough that each has a number.
pub record IsIndex (words : List (List ℕ)) (facts : List StoredFact) : Type 0 where
  pub few : length facts < 2 ^ 32
  pub at_home : (place : ℕ) (held : List ℕ) → slice_get words place ≡ Some held → held ≡ held_at (suc place) facts

-- What becomes of a fact at the home with what is held, where there may be so many facts: it was there already, it is now the last, or
-- there is no room for it. Or nothing is held.
abbrev pub IsInserted : FoundFacts → ℕ → HomeNo → Option ℕ → FoundFacts → Step → Type 0
IsInserted old most home None new step = (step ≡ Done) × (new ≡ old)
IsInserted old most home (Some held) new Done =
    let fact : StoredFact = record { home = home; held = held } in
    (Contains old.facts fact × (new ≡ old)) ⊎ ((¬ Contains old.facts fact) × (new ≡ record old { facts = old.facts ++ fact ∷ [] }))
IsInserted old most home (Some held) new (Stopped ending) =
    let fact : StoredFact = record { home = home; held = held } in
    (ending ≡ FactsEnd) × (¬ Contains old.facts fact) × (most ≤ length old.facts)
