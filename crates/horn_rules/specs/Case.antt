-- What instances come to: the home of which a fact may follow, and the rows that decide what it holds.
use Rattle.std.specs.Prelude.{◌≡◌, ◌≢◌, ℕ, ◌+◌, ◌-◌, pos, List, ◌∷◌, ◌++◌, length, map}
use Rattle.lin_rows.specs.Row.{Row}
use Rattle.lin_rows.specs.System.{System}
use Rattle.transition_formula.specs.Program.{Program, Thread, Edge, IsThreadOf, IsEdgeOf}
use Rattle.transition_formula.specs.Rows.{zeros, column_is, kept_row, kept_columns, edge_width, edge_rows, init_system}
use Rattle.horn_rules.specs.Home.{Home, State, Env, IsLocationOf}
use Rattle.horn_rules.specs.Fact.{Statement}
use Rattle.horn_rules.specs.Instance.{Instance, Init, Own, Guar, Env as Environment, Inter}

-- ---- rows over further columns

-- the row over k more columns, which stand behind
abbrev pub wider_row : ℕ → Row → Row
wider_row k row = record row { coefficients = row.coefficients ++ zeros k }

-- the row of a state, over the state after a step: n columns stand before, and m inputs behind
abbrev pub moved_row : ℕ → ℕ → Row → Row
moved_row n m row = record row { coefficients = zeros n ++ (row.coefficients ++ zeros m) }

-- ---- rows of facts

-- a fact at location l, over its state and k columns behind: the thread is there, and the atoms hold
abbrev pub state_rows : Program → Thread → ℕ → Statement → ℕ → List Row
state_rows program thread l f k = column_is (length program.columns + k) thread.counter (pos l) ∷ map (wider_row k) f.atoms

-- a fact at an edge, over the states before and after: the thread steps by it, so that other columns stay, and the atoms hold
abbrev pub env_rows : Program → Thread → Edge → Statement → List Row
env_rows program thread edge t =
    let n = length program.columns in
    column_is (n + n) thread.counter (pos edge.from)
    ∷ column_is (n + n) (n + thread.counter) (pos edge.to)
    ∷ (map (kept_row n 0) (kept_columns n thread.counter edge) ++ t.atoms)

-- ---- systems

-- rows before those of an edge, over the states before and after and the inputs
abbrev pub with_edge : Program → Thread → Edge → List Row → System
with_edge program thread edge rows =
    let n = length program.columns in
    record { columns = edge_width n edge.inputs; rows = rows ++ edge_rows n thread.counter edge }

-- how many columns stand behind the state before a step by an edge
abbrev pub behind : Program → Edge → ℕ
behind program edge = length program.columns + edge.inputs

-- what an instance comes to: the home of its fact, the system of its rows, and how an atom of the home stands over them
pub record Case : Type 0 where
  pub target : Home
  pub system : System
  pub place : Row → Row

-- thread i is at its start
abbrev pub init_case : Program → ℕ → Case
init_case program i = record { target = State i 1; system = init_system program; place = λ atom. atom }

-- a step of thread i by the edge, from fact f
abbrev pub own_case : Program → ℕ → Thread → Edge → Statement → Case
own_case program i thread edge f = record {
  target = State i edge.to;
  system = with_edge program thread edge (state_rows program thread edge.from f (behind program edge));
  place = moved_row (length program.columns) edge.inputs;
}

-- a step of thread i by its edge e, from fact f, as the other threads see it
abbrev pub guar_case : Program → ℕ → ℕ → Thread → Edge → Statement → Case
guar_case program i e thread edge f = record {
  target = Env i e;
  system = with_edge program thread edge (state_rows program thread edge.from f (behind program edge));
  place = wider_row edge.inputs;
}

-- thread k, at location l, stays there in a step of the thread by the edge, of which t tells
abbrev pub env_case : Program → ℕ → ℕ → Thread → Thread → Edge → Statement → Statement → Case
env_case program k l other thread edge f t =
    let n = length program.columns in
    record {
      target = State k l;
      system = record { columns = n + n; rows = state_rows program other l f n ++ env_rows program thread edge t };
      place = moved_row n 0;
    }

-- thread k, at location l, stays there in a step of the thread by the edge, from a state of which g tells
abbrev pub inter_case : Program → ℕ → ℕ → Thread → Thread → Edge → Statement → Statement → Case
inter_case program k l other thread edge f g =
    let k_rows = state_rows program other l f (behind program edge) in
    let i_rows = state_rows program thread edge.from g (behind program edge) in
    record {
      target = State k l;
      system = with_edge program thread edge (k_rows ++ i_rows);
      place = moved_row (length program.columns) edge.inputs;
    }

-- The case of an instance over what its premises say. A thread's own step leads on from a fact at the edge's source; a step of another
-- thread leads on a fact at any location of the fact's thread.
pub data IsCaseOf (program : Program) : Instance Statement → Case → Type 0 where
  init : (i : ℕ) (thread : Thread) → IsThreadOf program i thread → IsCaseOf program (Init i) (init_case program i)
  own : (i e : ℕ) (thread : Thread) (edge : Edge) (f : Statement) → IsEdgeOf program i e thread edge → f.home ≡ State i edge.from
      → IsCaseOf program (Own f e) (own_case program i thread edge f)
  guar : (i e : ℕ) (thread : Thread) (edge : Edge) (f : Statement) → IsEdgeOf program i e thread edge → f.home ≡ State i edge.from
      → IsCaseOf program (Guar f e) (guar_case program i e thread edge f)
  env : (k l i e : ℕ) (other thread : Thread) (edge : Edge) (f t : Statement) → k ≢ i → IsLocationOf program k l other → IsEdgeOf program i e thread edge
      → f.home ≡ State k l → t.home ≡ Env i e → IsCaseOf program (Environment f t) (env_case program k l other thread edge f t)
  inter : (k l i e : ℕ) (other thread : Thread) (edge : Edge) (f g : Statement) → k ≢ i → IsLocationOf program k l other → IsEdgeOf program i e thread edge
      → f.home ≡ State k l → g.home ≡ State i edge.from → IsCaseOf program (Inter f g e) (inter_case program k l other thread edge f g)

-- ---- placing an atom by numbers

-- the atom over so many columns, of which `before` stand in front of its own
abbrev pub placed_at : ℕ → ℕ → Row → Row
placed_at before columns atom = moved_row before (columns - (before + length atom.coefficients)) atom

-- how many columns of an instance's system stand in front of those of its fact's atoms, where a state has n
abbrev pub in_front : {F : Type 0} → ℕ → Instance F → ℕ
in_front n (Init i) = 0
in_front n (Own f e) = n
in_front n (Guar f e) = 0
in_front n (Environment f t) = n
in_front n (Inter f g e) = n
