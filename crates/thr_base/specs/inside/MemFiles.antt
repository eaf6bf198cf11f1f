-- How files in memory, and what is written to memory, are kept.
use Rattle.std.specs.Prelude.{ℕ, ◌<◌, ◌≤◌, List, [], drop, length, slice_index_or, Option, Some, None}
use Rattle.thr_base.specs.Outside.{Files, OpenFile, Closed, Left}

-- files in memory, and what is left of the one that is open
pub record MemFilesView : Type 0 where
  pub told : Files
  pub file : OpenFile

-- what was written to a room of so many bytes
pub record RoomView : Type 0 where
  pub written : List ℕ
  pub room : ℕ

-- the bytes of the file at this place of the list
abbrev pub file_at : Files → ℕ → List ℕ
file_at files i = (slice_index_or files i ([], [])).1

-- what is left of the file at this index, of which so many bytes were read
abbrev pub rest_of : Files → Option ℕ → ℕ → OpenFile
rest_of files None read = Closed
rest_of files (Some i) read = Left (drop read (file_at files i))

-- The index is that of a file, which has as many bytes as were read.
abbrev pub IsOpenAt : Files → Option ℕ → ℕ → Type 0
IsOpenAt files None read = Unit {0}
IsOpenAt files (Some i) read = (i < length files) × (read ≤ length (file_at files i))
