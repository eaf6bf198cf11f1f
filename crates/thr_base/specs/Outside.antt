-- What contracts know of the outside: stores that files are read from, and sinks that bytes are written to.
use Rattle.std.specs.Prelude.{◌≡◌, ℕ, ◌+◌, ◌^◌, ◌-◌, ◌<◌, ◌≤◌, min, Bool, List, [], ◌++◌, take, drop, length, Option, Some, None, option_map, bytes_eq, MatchOption}
use Rattle.std.specs.Map.{lookup}

-- where counts stand still
abbrev pub count_end : ℕ
count_end = 2 ^ 64 - 1

-- A count rose in a call: it is greater after than before, or stands at its end.
pub record Rose (old new : ℕ) : Type 0 where
  pub kept : old ≤ new
  pub rose : min (old + 1) count_end ≤ new

-- names with the bytes of their files; of two files with one name the first counts
abbrev pub Files : Type 0
Files = List (List ℕ × List ℕ)

abbrev pub file_named : List ℕ → Files → Option (List ℕ)
file_named name files = lookup (bytes_eq name) files

-- The file that is open: none, one whose bytes are not told, or what is left of one.
pub data OpenFile : Type 0 where
  Closed : OpenFile
  Untold : OpenFile
  Left : List ℕ → OpenFile

-- the meanings of a store
pub record StoreMeaning : Type 0 where
  -- the files, where they are told
  pub files : Option Files
  pub file : OpenFile
  -- how many bytes were read, up to `count_end`
  pub taken : ℕ
  -- how many calls failed, up to `count_end`
  pub faults : ℕ
  -- It fails at nothing but a name that it lacks and a read with no file open.
  pub honest : Bool

-- The files are told, and none has this name.
abbrev pub Lacks : Option Files → List ℕ → Type 0
Lacks files name = MatchOption files ⊥ (λ told. file_named name told ≡ None)

-- what a name that is not lacking opens
abbrev pub opened_file : Option Files → List ℕ → Option OpenFile
opened_file None name = Some Untold
opened_file (Some told) name = option_map Left (file_named name told)

-- A name was opened, and a file stays open.
pub record Opens (old : StoreMeaning) (name : List ℕ) (new : StoreMeaning) : Type 0 where
  pub found : opened_file old.files name ≡ Some new.file
  pub kept : old.faults ≤ new.faults
  pub same : new ≡ record old { file = new.file; faults = new.faults }

-- The first n bytes of a file come to stand at the front of a buffer. None do only at the end, where the buffer has room.
abbrev pub FillsFront : OpenFile → List ℕ → ℕ → List ℕ → OpenFile → Type 0
FillsFront Closed buffer n filled rest = ⊥
FillsFront Untold buffer n filled rest = (n ≤ length buffer) × (rest ≡ Untold)
FillsFront (Left bytes) buffer n filled rest =
    (n ≤ length buffer) × (n ≤ length bytes) × (filled ≡ take n bytes ++ drop n buffer)
    × (rest ≡ Left (drop n bytes)) × (n ≡ 0 → 0 < length buffer → bytes ≡ [])

-- n bytes were read from the open file.
pub record Reads (old : StoreMeaning) (buffer : List ℕ) (n : ℕ) (filled : List ℕ) (new : StoreMeaning) : Type 0 where
  pub front : FillsFront old.file buffer n filled new.file
  pub counted : new.taken ≡ min (old.taken + n) count_end
  pub grew : old.taken ≤ new.taken
  pub kept : old.faults ≤ new.faults
  pub same : new ≡ record old { file = new.file; taken = new.taken; faults = new.faults }

-- A call of a store failed: the fault is counted, and nothing else changes.
pub record StoreFails (old new : StoreMeaning) : Type 0 where
  pub rose : Rose old.faults new.faults
  pub same : new ≡ record old { faults = new.faults }

-- the meanings of a sink
pub record SinkMeaning : Type 0 where
  -- all that was written, where it is told
  pub written : Option (List ℕ)
  -- how many calls failed, up to `count_end`
  pub faults : ℕ

-- Bytes were appended to what was written.
pub record Appends (old : SinkMeaning) (bytes : List ℕ) (new : SinkMeaning) : Type 0 where
  pub written : new.written ≡ option_map (λ so_far. so_far ++ bytes) old.written
  pub kept : old.faults ≤ new.faults

-- The first n bytes were written: all of nothing, else at least one.
pub record Writes (old : SinkMeaning) (bytes : List ℕ) (n : ℕ) (new : SinkMeaning) : Type 0 where
  pub within : n ≤ length bytes
  pub some : 0 < length bytes → 0 < n
  pub appended : Appends old (take n bytes) new

-- A call of a sink failed: the fault is counted, and nothing else changes.
pub record SinkFails (old new : SinkMeaning) : Type 0 where
  pub rose : Rose old.faults new.faults
  pub same : new ≡ record old { faults = new.faults }

-- Writing all of the bytes failed: a front of them was written.
pub record WritesFront (old : SinkMeaning) (bytes : List ℕ) (new : SinkMeaning) : Type 0 where
  pub rose : Rose old.faults new.faults
  pub front : (n : ℕ) × (n ≤ length bytes) × Appends old (take n bytes) new
