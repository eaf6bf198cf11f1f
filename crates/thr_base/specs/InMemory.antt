-- Stores and sinks in memory, as contracts see them.
use Rattle.std.specs.Prelude.{◌≡◌, ℕ, ◌+◌, min, List, Contains, map, Some, Vec, String, string_bytes}
use Rattle.std.specs.declared.alloc.Global.{Global}
use Rattle.thr_base.specs.Outside.{Files, StoreMeaning, SinkMeaning, count_end}

-- the bytes of each name and file
abbrev pub files_of : List (String Global × Vec ℕ Global) → Files
files_of files = map (λ f. (string_bytes f.0, f.1.items)) files

-- calls that are counted, and the numbers of those that fail
pub record FailingCallsView : Type 0 where
  -- how many calls were made, up to `count_end`
  pub made : ℕ
  pub failing : List ℕ

-- The next call is one of those that fail.
abbrev pub NextFails : FailingCallsView → Type 0
NextFails calls = Contains calls.failing (calls.made + 1)

-- One more call was made, and those that fail are the same.
abbrev pub CountsCall : FailingCallsView → FailingCallsView → Type 0
CountsCall old new = new ≡ record old { made = min (old.made + 1) count_end }

-- a store in memory of which chosen calls fail
pub record MemStoreView : Type 0 where
  pub store : StoreMeaning
  pub calls : FailingCallsView

-- a sink of so many bytes
pub record RoomSinkView : Type 0 where
  pub written : List ℕ
  pub room : ℕ
  pub faults : ℕ

abbrev pub room_sink_meaning : RoomSinkView → SinkMeaning
room_sink_meaning s = record { written = Some s.written; faults = s.faults }

-- a sink of so many bytes of which chosen calls fail
pub record MemSinkView : Type 0 where
  pub written : List ℕ
  pub room : ℕ
  pub faults : ℕ
  pub calls : FailingCallsView

abbrev pub mem_sink_meaning : MemSinkView → SinkMeaning
mem_sink_meaning s = record { written = Some s.written; faults = s.faults }
