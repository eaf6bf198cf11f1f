-- Homes: where facts stand.
use Rattle.std.specs.Prelude.{ℕ, suc, ◌+◌, ◌<◌, List, [], ◌∷◌, ◌++◌, length, map}
use Rattle.std.specs.List.{range_with_len, Contains}
use Rattle.transition_formula.specs.Program.{Program, Thread, IsThreadOf}

-- a home, with the number of its thread
pub data Home : Type 0 where
  -- a location of a thread: what holds of the states in which the thread is there
  State : ℕ → ℕ → Home
  -- an edge of a thread: what holds of its steps, as the other threads see them
  Env : ℕ → ℕ → Home

-- what each element gives with its number, one after another; the first of these has number n
abbrev pub by_number : {X Y : Type 0} → (ℕ → X → List Y) → ℕ → List X → List Y
by_number give n [] = []
by_number give n (x ∷ xs) = give n x ++ by_number give (suc n) xs

-- the homes at the locations of thread i
abbrev pub state_homes : ℕ → Thread → List Home
state_homes i thread = map (State i) (range_with_len 0 thread.locations)

-- the homes at the edges of thread i
abbrev pub env_homes : ℕ → Thread → List Home
env_homes i thread = map (Env i) (range_with_len 1 (length thread.edges))

-- all homes, in the order of their numbers
abbrev pub homes : Program → List Home
homes program = by_number state_homes 1 program.threads ++ by_number env_homes 1 program.threads

-- The program has this home.
abbrev pub IsHomeOf : Program → Home → Type 0
IsHomeOf program home = Contains (homes program) home

-- Thread k of the program, which is this one, has location l.
pub record IsLocationOf (program : Program) (k l : ℕ) (thread : Thread) : Type 0 where
  pub thread_is : IsThreadOf program k thread
  pub within : l < thread.locations

-- how many columns the atoms of a home are over, where a state has n
abbrev pub home_width : ℕ → Home → ℕ
home_width n (State i l) = n
home_width n (Env i e) = n + n
