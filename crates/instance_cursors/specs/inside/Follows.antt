-- What becomes of heads where a fact comes.
use Rattle.std.specs.Prelude.{◌≡◌, ℕ, ◌<◌, ◌≤◌, List, [], ◌∷◌, ◌++◌, slice_get, Option, Some}
use Rattle.std.specs.List.{Contains}
use Rattle.fact_table.specs.declared.live_fact.LiveFact.{LiveFact}
use Rattle.instance_cursors.specs.declared.early.Early.{Early}
use Rattle.instance_cursors.specs.declared.key.Head.{Head}
use Rattle.instance_cursors.specs.declared.turns.Cursor.{Cursor}
use Rattle.instance_cursors.specs.Cursors.{IsHeadOf}
use Rattle.instance_cursors.specs.Ways.{Layout}

-- What was the head before a fact came, above all ids that the cursor has passed, is followed by its head with the fact.
abbrev pub HeadFollows : Layout → List Early → List LiveFact → LiveFact → Cursor → Option Head → Option Head → Type 0
HeadFollows layout early live f cursor old new =
    (before : List LiveFact) → live ≡ before ++ f ∷ [] → cursor.passed.id.0 < f.id.0 → ((g : LiveFact) → Contains before g → g.id.0 < f.id.0)
    → IsHeadOf layout early before cursor old → IsHeadOf layout early live cursor new

-- So it is with the heads of the first cursors, and the others are as before.
pub record HeadsFollow (layout : Layout) (early : List Early) (live : List LiveFact) (f : LiveFact) (cursors : List Cursor) (old new : List (Option Head)) (place : ℕ) : Type 0 where
  pub below : (k : ℕ) (cursor : Cursor) (one other : Option Head) → k < place → slice_get cursors k ≡ Some cursor → slice_get old k ≡ Some one → slice_get new k ≡ Some other
      → HeadFollows layout early live f cursor one other
  pub others : (k : ℕ) → place ≤ k → slice_get new k ≡ slice_get old k
