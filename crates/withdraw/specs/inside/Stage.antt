-- The marks after so many facts were looked at, in order.
use Rattle.std.specs.Prelude.{◌≡◌, ℕ, zero, suc, ◌⊎◌, true, List, [], ◌∷◌}
use Rattle.fact_table.specs.declared.live_fact.LiveFact.{LiveFact}

-- the fact, marked
abbrev pub with_its_mark : LiveFact → LiveFact
with_its_mark f = record f { marked = true }

-- The first n facts are marked where this holds of them, and else as they were; all others are as they were.
abbrev pub IsStage : (LiveFact → Type 0) → ℕ → List LiveFact → List LiveFact → Type 0
IsStage Goes n [] now = now ≡ []
IsStage Goes zero (f ∷ live) now = now ≡ f ∷ live
IsStage Goes (suc n) (f ∷ live) now =
    (g : LiveFact) × (rest : List LiveFact) × (now ≡ g ∷ rest) × ((Goes f × (g ≡ with_its_mark f)) ⊎ ((¬ Goes f) × (g ≡ f))) × IsStage Goes n live rest
