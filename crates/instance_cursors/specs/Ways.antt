-- What cursors know of a program.
use Rattle.std.specs.Prelude.{◌≡◌, ℕ, List, slice_get, Some}
use Rattle.thr_base.specs.declared.names.RuleName.{RuleName}
use Rattle.instance_cursors.specs.declared.layout.EdgeHomes.{EdgeHomes}
use Rattle.instance_cursors.specs.declared.layout.HomeOf.{HomeOf}

-- a program as cursors see it: its rule, its homes by number, and all edges
pub record Layout : Type 0 where
  pub rule : RuleName
  pub homes : List HomeOf
  pub edges : List EdgeHomes

-- No two edges lead on from one home with one number.
abbrev pub AreApart : List EdgeHomes → Type 0
AreApart edges = (k n : ℕ) (one other : EdgeHomes) → slice_get edges k ≡ Some one → slice_get edges n ≡ Some other → one.source ≡ other.source → one.edge ≡ other.edge → k ≡ n
