-- How a table holds its facts.
use Rattle.std.specs.Prelude.{◌≡◌, ℕ, zero, suc, ◌≤◌, List, [], ◌∷◌, length, true}
use Rattle.std.specs.Vec.{vec_capacity}
use Rattle.fact_table.specs.declared.live_fact.LiveFact.{LiveFact}
use Rattle.fact_table.specs.declared.table.Table.TheInside.{Inside}
use Rattle.fact_table.specs.Table.{FactTable, IsTable}
use Rattle.fact_table.specs.inside.Index.{IsIndexOf}

abbrev pub seen : Inside → FactTable
seen inside = record { homes = inside.homes; limit = inside.limit; given = inside.given; live = inside.facts.items }

pub record IsStored (inside : Inside) : Type 0 where
  pub table : IsTable (seen inside)
  pub facts_room : inside.limit ≤ vec_capacity inside.facts
  pub room : inside.index.by_fact.room ≡ inside.limit
  pub homes : length inside.index.by_home.lists ≡ inside.homes
  pub index : IsIndexOf inside.facts.items inside.index

-- the facts, of which the one at a place is marked
abbrev pub marked_at : List LiveFact → ℕ → List LiveFact
marked_at [] place = []
marked_at (f ∷ live) zero = record f { marked = true } ∷ live
marked_at (f ∷ live) (suc place) = f ∷ marked_at live place
