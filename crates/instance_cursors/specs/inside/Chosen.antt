-- What is chosen of one thread, or of all.
use Rattle.std.specs.Prelude.{◌≡◌, Bool, true, false, List, Option, Some, None}
use Rattle.std.specs.List.{Contains}
use Rattle.thr_base.specs.declared.names.HomeNo.{HomeNo}
use Rattle.thr_base.specs.declared.names.Instance.{Instance}
use Rattle.thr_base.specs.declared.names.Instance.TheVariants.{Init}
use Rattle.thr_base.specs.declared.names.ThreadNo.{ThreadNo}
use Rattle.instance_cursors.specs.declared.choosing.Next.{Next}
use Rattle.instance_cursors.specs.declared.early.Early.{Early}
use Rattle.instance_cursors.specs.declared.key.Head.{Head}
use Rattle.instance_cursors.specs.declared.start.Start.{Start}
use Rattle.instance_cursors.specs.declared.turns.Cursor.{Cursor}
use Rattle.instance_cursors.specs.declared.turns.Turn.{Turn}
use Rattle.instance_cursors.specs.Choice.{is_wanted}
use Rattle.instance_cursors.specs.Instances.{instance_of}
use Rattle.instance_cursors.specs.Layout.{target_of, thread_at}
use Rattle.instance_cursors.specs.Turns.{IsPassed, is_early, same_turn}
use Rattle.instance_cursors.specs.Waiting.{OpensTo, Waiting}
use Rattle.instance_cursors.specs.Ways.{Layout}

-- Nothing that is wanted is open.
abbrev pub NoneIsWanted : Option ThreadNo → Waiting → Type 0
NoneIsWanted only waiting = (instance : Instance) (home : HomeNo) → OpensTo waiting instance home → is_wanted only (thread_at waiting.layout home) ≡ true → ⊥

-- It is open, and wanted.
pub record IsWanted (only : Option ThreadNo) (waiting : Waiting) (next : Next) : Type 0 where
  pub opens : OpensTo waiting next.instance next.home
  pub wanted : is_wanted only (thread_at waiting.layout next.home) ≡ true

abbrev pub next_start : Start → Next
next_start start = record { instance = Init start.thread; home = start.home }

abbrev pub next_turn : Layout → Cursor → Turn → Next
next_turn layout cursor turn = record { instance = instance_of layout cursor.series turn; home = target_of layout cursor.series }

-- No start of the thread is open; or this home is that of one that is.
abbrev pub HasNoStart : List Start → ThreadNo → Type 0
HasNoStart starts thread = (start : Start) → Contains starts start → start.taken ≡ false → Init start.thread ≡ Init thread → ⊥

pub record HasStart (starts : List Start) (thread : ThreadNo) (home : HomeNo) : Type 0 where
  pub start : Start
  pub is_there : Contains starts start
  pub not_taken : start.taken ≡ false
  pub thread_is : Init start.thread ≡ Init thread
  pub home_is : start.home ≡ home

-- the head is this turn
abbrev pub is_head : Option Head → Turn → Bool
is_head None turn = false
is_head (Some head) turn = same_turn turn head.turn

-- a turn at a cursor, as one that was taken early
abbrev pub early_at : Cursor → Turn → Early
early_at cursor turn = record { series = cursor.series; turn = turn }

-- A turn at a cursor was neither passed nor taken early.
abbrev pub IsAheadOf : List Early → Cursor → Turn → Type 0
IsAheadOf early cursor turn = (IsPassed cursor.passed turn.id.0 turn.step → ⊥) × (is_early early cursor.series turn ≡ false)

-- The home to which it leads, or nothing where it was.
abbrev pub IsHomeAhead : Layout → List Early → Cursor → Turn → Option HomeNo → Type 0
IsHomeAhead layout early cursor turn None = IsAheadOf early cursor turn → ⊥
IsHomeAhead layout early cursor turn (Some home) = IsAheadOf early cursor turn × (target_of layout cursor.series ≡ home)
