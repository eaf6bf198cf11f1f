-- Which instances are open.
use Rattle.std.specs.Prelude.{◌≡◌, ◌≢◌, ◌↔◌, ℕ, ◌<◌, ◌⊎◌, nat_eq, true, false, List, [], ◌∷◌, ◌++◌, length, map, slice_get, Some}
use Rattle.std.specs.List.{Contains, list_any}
use Rattle.thr_base.specs.declared.names.HomeNo.{HomeNo}
use Rattle.thr_base.specs.declared.names.Instance.{Instance}
use Rattle.thr_base.specs.declared.names.Instance.TheVariants.{Init}
use Rattle.thr_base.specs.declared.names.ThreadNo.{ThreadNo}
use Rattle.fact_table.specs.declared.live_fact.LiveFact.{LiveFact}
use Rattle.fact_table.specs.Live.{premises_of}
use Rattle.instance_cursors.specs.declared.choosing.Next.{Next}
use Rattle.instance_cursors.specs.declared.early.Early.{Early}
use Rattle.instance_cursors.specs.declared.start.Start.{Start}
use Rattle.instance_cursors.specs.declared.turns.Cursor.{Cursor}
use Rattle.instance_cursors.specs.declared.turns.Series.{Series}
use Rattle.instance_cursors.specs.declared.turns.Series.TheVariants.{Own, Told, Beside}
use Rattle.instance_cursors.specs.Instances.{instance_of}
use Rattle.instance_cursors.specs.Layout.{has_step, target_of, thread_at}
use Rattle.instance_cursors.specs.Turns.{has_turn, turn_at, IsPassed}
use Rattle.instance_cursors.specs.Ways.{Layout}

-- The program as cursors see it; how many facts may be live, how many ids were given, and the live facts by rising id; the starts and
-- the cursors of all series; and the turns that were taken early.
pub record Waiting : Type 0 where
  pub layout : Layout
  pub room : ℕ
  pub given : ℕ
  pub live : List LiveFact
  pub starts : List Start
  pub cursors : List Cursor
  pub early : List Early

-- ---- what leads, by the layout

-- The layout has this series, over these live facts.
abbrev pub IsSeries : Layout → List LiveFact → Series → Type 0
IsSeries layout live (Own edge) = edge < length layout.edges
IsSeries layout live (Told edge) = edge < length layout.edges
IsSeries layout live (Beside home id) = (f : LiveFact) × Contains live f × (f.fact.home ≡ home) × (f.id ≡ id)

-- A live fact's step in the series is this instance.
pub record IsTurn (layout : Layout) (live : List LiveFact) (series : Series) (instance : Instance) : Type 0 where
  pub fact : LiveFact
  pub step : ℕ
  pub is_live : Contains live fact
  pub has_step_there : has_step layout series fact.fact.home.0 step ≡ true
  pub instance_is : instance_of layout series (turn_at fact step) ≡ instance

-- A start is this instance, and leads to the home; or a series has it, and does.
pub data LeadsTo (layout : Layout) (starts : List Start) (live : List LiveFact) (instance : Instance) (home : HomeNo) : Type 0 where
  begins : (start : Start) → Contains starts start → Init start.thread ≡ instance → start.home ≡ home → LeadsTo layout starts live instance home
  continues : (series : Series) → IsSeries layout live series → IsTurn layout live series instance → target_of layout series ≡ home → LeadsTo layout starts live instance home

-- ---- what is open

-- A live fact's turn in the cursor's series is this instance; it was neither passed nor taken early.
pub record IsAhead (layout : Layout) (early : List Early) (live : List LiveFact) (cursor : Cursor) (instance : Instance) : Type 0 where
  pub fact : LiveFact
  pub step : ℕ
  pub is_live : Contains live fact
  pub has_turn_there : has_turn layout early cursor.series fact step ≡ true
  pub instance_is : instance_of layout cursor.series (turn_at fact step) ≡ instance
  pub not_passed : IsPassed cursor.passed fact.id.0 step → ⊥

-- The instance is open, and leads to the home: a start that was not taken is it, or it is ahead of a cursor.
pub data OpensTo (waiting : Waiting) (instance : Instance) (home : HomeNo) : Type 0 where
  begins : (start : Start) → Contains waiting.starts start → start.taken ≡ false → Init start.thread ≡ instance → start.home ≡ home → OpensTo waiting instance home
  continues : (place : ℕ) (cursor : Cursor) → slice_get waiting.cursors place ≡ Some cursor
      → IsAhead waiting.layout waiting.early waiting.live cursor instance → target_of waiting.layout cursor.series ≡ home → OpensTo waiting instance home

-- It is open.
abbrev pub IsOpen : Waiting → Instance → Type 0
IsOpen waiting instance = (home : HomeNo) × OpensTo waiting instance home

-- What is open leads.
abbrev pub OpenLead : Waiting → Type 0
OpenLead waiting = (instance : Instance) (home : HomeNo) → OpensTo waiting instance home → LeadsTo waiting.layout waiting.starts waiting.live instance home

-- ---- what is chosen

abbrev pub NoneIsOpen : Waiting → Type 0
NoneIsOpen waiting = (instance : Instance) (home : HomeNo) → OpensTo waiting instance home → ⊥

-- No open instance leads to a home of the thread.
abbrev pub NoneIsOpenIn : Waiting → ThreadNo → Type 0
NoneIsOpenIn waiting thread = (instance : Instance) (home : HomeNo) → OpensTo waiting instance home → (thread_at waiting.layout home).0 ≡ thread.0 → ⊥

-- It is open, and leads to the home; and that is one of the thread, unless no open instance leads to one.
pub record IsNext (waiting : Waiting) (thread : ThreadNo) (next : Next) : Type 0 where
  pub opens : OpensTo waiting next.instance next.home
  pub prefers : ((thread_at waiting.layout next.home).0 ≡ thread.0) ⊎ NoneIsOpenIn waiting thread

-- ---- what changes

-- a start that was not taken
abbrev pub untaken : Start → Start
untaken start = record start { taken = false }

-- The layout and the starts are the same, but for which are taken.
pub record Stays (old new : Waiting) : Type 0 where
  pub layout : new.layout ≡ old.layout
  pub starts : map untaken new.starts ≡ map untaken old.starts
  pub room : new.room ≡ old.room

-- Nothing is live, and exactly what leads is open.
pub record Begins (layout : Layout) (starts : List Start) (facts : ℕ) (made : Waiting) : Type 0 where
  pub layout_is : made.layout ≡ layout
  pub starts_are : map untaken made.starts ≡ map untaken starts
  pub room : made.room ≡ facts
  pub given : made.given ≡ 0
  pub live : made.live ≡ []
  pub opens : (instance : Instance) (home : HomeNo) → OpensTo made instance home ↔ LeadsTo layout starts [] instance home

-- Exactly this instance is no longer open.
pub record Closes (old : Waiting) (instance : Instance) (new : Waiting) : Type 0 where
  pub stays : Stays old new
  pub given : new.given ≡ old.given
  pub live : new.live ≡ old.live
  pub opens : (other : Instance) (home : HomeNo) → OpensTo new other home ↔ (OpensTo old other home × (other ≢ instance))

-- The fact is live, and exactly what leads from it is open besides.
pub record Opens (old : Waiting) (fact : LiveFact) (new : Waiting) : Type 0 where
  pub stays : Stays old new
  pub given : new.given ≡ fact.id.0
  pub live : new.live ≡ old.live ++ fact ∷ []
  pub opens : (instance : Instance) (home : HomeNo)
      → OpensTo new instance home ↔ (OpensTo old instance home ⊎ (LeadsTo new.layout new.starts new.live instance home × Contains (premises_of instance) fact.id))

-- These facts are live; open is of what leads from them exactly what was open or leads to one of these homes.
pub record Reopens (old : Waiting) (left : List LiveFact) (homes : List HomeNo) (new : Waiting) : Type 0 where
  pub stays : Stays old new
  pub given : new.given ≡ old.given
  pub live : new.live ≡ left
  pub opens : (instance : Instance) (home : HomeNo)
      → OpensTo new instance home ↔ (LeadsTo new.layout new.starts new.live instance home × (OpensTo old instance home ⊎ (list_any (λ other. nat_eq other.0 home.0) homes ≡ true)))
