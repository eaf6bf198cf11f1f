-- Initial states are those in which the variables have values that they may start with, and each thread is at location 1.
use Rattle.std.proofs.Common.{◌≡◌, ℕ, zero, suc, ◌+◌, ℤ, pos, List, [], ◌∷◌, ◌++◌, length, map, Some, refl, sym, ap, slice_get}
use Rattle.c_check.specs.declared.plan.Column as stored
use Rattle.c_check.specs.Columns.{counters_from}
use Rattle.transition_formula.specs.Step.{IsInitial}
use Rattle.thread_cfg.specs.Columns.{program_column}
use Rattle.thread_cfg.proofs.Numbered.{none-some, some-same}

-- ---- starts

-- the locations at the start
abbrev pub ones : List ℕ → List ℕ
ones created = map (λ x. 1) created

-- there is a 1 for each creation
pub length-ones : (created : List ℕ) → length (ones created) ≡ length created
length-ones [] = refl
length-ones (n ∷ ns) = ap suc (length-ones ns)

-- each of them is 1
pub get-ones : (created : List ℕ) (j l : ℕ) → slice_get (ones created) j ≡ Some l → l ≡ 1
get-ones [] j l e = absurd (none-some l e)
get-ones (n ∷ ns) zero l e = sym (some-same 1 l e)
get-ones (n ∷ ns) (suc j) l e = get-ones ns j l e

-- counters start at 1, each of them
pub counters-start : (i : ℕ) (created : List ℕ) (state : List ℤ) → IsInitial (map program_column (counters_from i created)) state → state ≡ map pos (ones created)
counters-start i [] [] h = refl
counters-start i [] (v ∷ state) h = absurd h
counters-start i (n ∷ ns) [] h = absurd h
counters-start i (n ∷ ns) (v ∷ state) h = rw (h.0, counters-start (i + 1) ns state h.1) refl

-- counters at 1 are at their start
pub start-counters : (i : ℕ) (created : List ℕ) → IsInitial (map program_column (counters_from i created)) (map pos (ones created))
start-counters i [] = tt
start-counters i (n ∷ ns) = (refl, start-counters (i + 1) ns)

-- The state has values that the variables may start with, and each thread at location 1.
pub record StartsAs (front : List stored.Column) (created : List ℕ) (state : List ℤ) : Type 0 where
  pub values : List ℤ
  pub may_start : IsInitial (map program_column front) values
  pub state_is : state ≡ values ++ map pos (ones created)

-- an initial state has its counters at 1 behind initial values
pub initial-starts : (front : List stored.Column) (i : ℕ) (created : List ℕ) (state : List ℤ) → IsInitial (map program_column (front ++ counters_from i created)) state → StartsAs front created state
initial-starts [] i created state h = record { values = []; may_start = tt; state_is = counters-start i created state h }
initial-starts (c ∷ front) i created [] h = absurd h
initial-starts (c ∷ front) i created (v ∷ state) h =
    let more = initial-starts front i created state h.1 in
    record { values = v ∷ more.values; may_start = (h.0, more.may_start); state_is = ap (λ l. v ∷ l) more.state_is }

-- initial values with the counters at 1 behind them are an initial state
pub starts-initial : (front : List stored.Column) (i : ℕ) (created : List ℕ) (values : List ℤ) → IsInitial (map program_column front) values → IsInitial (map program_column (front ++ counters_from i created)) (values ++ map pos (ones created))
starts-initial [] i created [] h = start-counters i created
starts-initial [] i created (v ∷ values) h = absurd h
starts-initial (c ∷ front) i created [] h = absurd h
starts-initial (c ∷ front) i created (v ∷ values) h = (h.0, starts-initial front i created values h.1)

-- there is an initial value for each column
pub start-length : (front : List stored.Column) (values : List ℤ) → IsInitial (map program_column front) values → length values ≡ length front
start-length [] [] h = refl
start-length [] (v ∷ values) h = absurd h
start-length (c ∷ front) [] h = absurd h
start-length (c ∷ front) (v ∷ values) h = ap suc (start-length front values h.1)

-- there is a counter for each creation
pub length-counters : (i : ℕ) (created : List ℕ) → length (counters_from i created) ≡ length created
length-counters i [] = refl
length-counters i (n ∷ ns) = ap suc (length-counters (i + 1) ns)
