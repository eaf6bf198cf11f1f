-- Reading a whole file: what came of it, and why it may have stopped.
use Rattle.std.specs.Prelude.{◌≡◌, ℕ, ◌+◌, ◌<◌, ◌≤◌, min, IsTrue, List, length, Option, Some, MatchOption}
use Rattle.thr_base.specs.Outside.{StoreMeaning, Files, file_named, Lacks, Rose, count_end}
use Rattle.thr_base.specs.declared.stops.ReadStop.{ReadStop}
use Rattle.thr_base.specs.declared.stops.ReadStop.TheVariants.{Fault, TooLong, Memory}

-- Where the files are told, these bytes are the file of this name.
abbrev pub IsFileNamed : Option Files → List ℕ → List ℕ → Type 0
IsFileNamed files name bytes = MatchOption files (Unit {0}) (λ told. file_named name told ≡ Some bytes)

-- Where the files are told, the file of this name has more than `limit` bytes.
abbrev pub IsLonger : Option Files → List ℕ → ℕ → Type 0
IsLonger files name limit =
    MatchOption files (Unit {0}) (λ told.
    (bytes : List ℕ) × (file_named name told ≡ Some bytes) × (limit < length bytes))

-- Why a file was not read whole. Want of memory has no cause here.
abbrev pub StopsReading : StoreMeaning → List ℕ → ℕ → ReadStop → StoreMeaning → Type 0
StopsReading old name limit Fault new =
    Rose old.faults new.faults × (IsTrue old.honest → Lacks old.files name)
StopsReading old name limit TooLong new =
    (min (old.taken + limit + 1) count_end ≤ new.taken) × IsLonger old.files name limit
StopsReading old name limit Memory new = Unit {0}

-- The files and the honesty of a store stay, and no count of it falls.
pub record KeepsFiles (old new : StoreMeaning) : Type 0 where
  pub files : new.files ≡ old.files
  pub honest : new.honest ≡ old.honest
  pub taken : old.taken ≤ new.taken
  pub faults : old.faults ≤ new.faults
