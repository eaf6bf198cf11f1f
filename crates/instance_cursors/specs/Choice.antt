-- What is looked at for a choice.
use Rattle.std.specs.Prelude.{◌≡◌, ℕ, ◌<◌, nat_eq, Bool, true, false, not, ◌&&◌, List, length, slice_index_or, slice_get, Option, Some, None}
use Rattle.thr_base.specs.declared.names.ThreadNo.{ThreadNo}
use Rattle.instance_cursors.specs.declared.key.Head.{Head}
use Rattle.instance_cursors.specs.declared.start.Start.{Start}
use Rattle.instance_cursors.specs.declared.turns.Cursor.{Cursor}
use Rattle.instance_cursors.specs.declared.turns.Series.{Series}
use Rattle.instance_cursors.specs.Layout.{target_of, thread_at}
use Rattle.instance_cursors.specs.Ways.{Layout}

-- the homes of one thread are wanted, or of all
abbrev pub is_wanted : Option ThreadNo → ThreadNo → Bool
is_wanted None thread = true
is_wanted (Some only) thread = nat_eq thread.0 only.0

-- ---- starts

-- the start is wanted, and was not taken
abbrev pub is_open : Layout → Option ThreadNo → Start → Bool
is_open layout only start = not start.taken && is_wanted only (thread_at layout start.home)

abbrev pub AllAreTaken : Layout → Option ThreadNo → List Start → Type 0
AllAreTaken layout only starts = (k : ℕ) (d : Start) → k < length starts → is_open layout only (slice_index_or starts k d) ≡ false

abbrev pub IsOpenStart : Layout → Option ThreadNo → List Start → ℕ → Type 0
IsOpenStart layout only starts place = (place < length starts) × ((d : Start) → is_open layout only (slice_index_or starts place d) ≡ true)

-- ---- heads

-- the series leads to a home that is wanted
abbrev pub leads_there : Layout → Option ThreadNo → Series → Bool
leads_there layout only series = is_wanted only (thread_at layout (target_of layout series))

-- The cursor at a place, where it is wanted, has no head.
abbrev pub HasNoHead : Layout → Option ThreadNo → List Cursor → List (Option Head) → ℕ → Type 0
HasNoHead layout only cursors heads place =
    (cursor : Cursor) (head : Head) → slice_get cursors place ≡ Some cursor → leads_there layout only cursor.series ≡ true → slice_get heads place ≡ Some (Some head) → ⊥

abbrev pub NoneHasHead : Layout → Option ThreadNo → List Cursor → List (Option Head) → Type 0
NoneHasHead layout only cursors heads = (place : ℕ) → place < length cursors → HasNoHead layout only cursors heads place

-- The cursor at a place is wanted, and has this head.
pub record HasHead (layout : Layout) (only : Option ThreadNo) (cursors : List Cursor) (heads : List (Option Head)) (place : ℕ) (head : Head) : Type 0 where
  pub cursor : Cursor
  pub cursor_at : slice_get cursors place ≡ Some cursor
  pub wanted : leads_there layout only cursor.series ≡ true
  pub head_at : slice_get heads place ≡ Some (Some head)
