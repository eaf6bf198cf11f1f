-- The actions of a thread: what happens at each of its locations, and where it leads. Locations are numbered from 1 in the order of
-- the text; at 0 the thread has failed, and behind the last action it has ended.
use Rattle.std.specs.Prelude.{ℕ, ◌+◌, pos, Bool, true, false, List, [], ◌∷◌, ◌++◌, map, length, Option, Some, None}
use Rattle.c_check.specs.declared.meaning.Variable.{Variable}
use Rattle.c_check.specs.declared.meaning.Variable.TheVariants as variable
use Rattle.c_check.specs.declared.operation.Mark.{Mark}
use Rattle.c_check.specs.Plan.{Arithmetic, Test, Condition, Stmt, Stmts}
use Rattle.c_check.specs.Items.{few, over_temporaries, reads, shared_in, written}
use Rattle.thread_cfg.specs.declared.relation.Relation.{Relation}
use Rattle.thread_cfg.specs.declared.relation.Relation.TheVariants as related
use Rattle.thread_cfg.specs.Source.{Frame, lock_column}
use Rattle.thread_cfg.specs.Path.{Event, Path, block_paths, when_false, when_true}

-- one way on from a location: what happens, and the location that it leads to
pub record Alternative : Type 0 where
  pub events : List Event
  pub to : ℕ

-- what may happen at a location, at the place of its first token
pub record Action : Type 0 where
  pub from : ℕ
  pub alternatives : List Alternative

-- one event, whatever the values
abbrev pub simple : ℕ → Event → ℕ → Action
simple from event next = record { from = from; alternatives = record { events = event ∷ []; to = next } ∷ [] }

-- nothing happens
abbrev pub jump : ℕ → ℕ → Action
jump from to = record { from = from; alternatives = record { events = []; to = to } ∷ [] }

-- ---- reads of shared variables into temporaries, where the accesses are more than one

-- where the accesses are few, none
abbrev reads_if : Bool → ℕ → List Variable → List (Variable × Variable)
reads_if true temporary vs = []
reads_if false temporary vs = reads temporary vs

-- the reads into temporaries, the first of which has this number, in front of so many accesses
abbrev pub reads_before : ℕ → ℕ → List Variable → List (Variable × Variable)
reads_before temporary accesses vs = reads_if (few accesses) temporary vs

-- where the accesses are few, the expression itself
abbrev over_if : Bool → ℕ → Arithmetic → Arithmetic
over_if true temporary a = a
over_if false temporary a = over_temporaries temporary a

-- an expression, over the temporaries where it was read into them
abbrev pub over_reads : ℕ → ℕ → Arithmetic → Arithmetic
over_reads temporary accesses a = over_if (few accesses) temporary a

-- the actions of reads, the first of which is at this location
abbrev pub read_actions : ℕ → List (Variable × Variable) → ℕ → List Action
read_actions from [] at = []
read_actions from (r ∷ rs) at = simple from (Event.Sets from r.0 (Arithmetic.Value r.1)) (at + 1) ∷ read_actions from rs (at + 1)

-- ---- tests; a side that leads nowhere has no location

-- each relation leads to the location
abbrev pub requiring : ℕ → List Relation → Arithmetic → Arithmetic → Option ℕ → List Alternative
requiring from relations a b None = []
requiring from relations a b (Some to) = map (λ r. record { events = Event.Requires from r a b ∷ []; to = to }) relations

-- a test of two numbers: what its mark asks for leads to its true side, what it denies to its false side
abbrev pub test_action : ℕ → Mark → Arithmetic → Arithmetic → Option ℕ → Option ℕ → Action
test_action from m a b t f = record { from = from; alternatives = requiring from (when_true m) a b t ++ requiring from (when_false m) a b f }

-- how many accesses a comparison makes
abbrev pub compare_accesses : Arithmetic → Arithmetic → ℕ
compare_accesses a b = length (shared_in a ++ shared_in b)

-- its reads into temporaries, where it makes more than one access
abbrev pub compare_reads : ℕ → Arithmetic → Arithmetic → List (Variable × Variable)
compare_reads temporary a b = reads_before temporary (compare_accesses a b) (shared_in a ++ shared_in b)

-- its test, over the temporaries where it was read into them
abbrev pub compare_action : ℕ → ℕ → Mark → Arithmetic → Arithmetic → Option ℕ → Option ℕ → Action
compare_action temporary from m a b t f =
    test_action from m (over_reads temporary (compare_accesses a b) a) (over_reads (temporary + length (shared_in a)) (compare_accesses a b) b) t f

-- how many locations a test has
abbrev pub test_size : Test → ℕ
test_size (Test.Compare from m a b) = length (compare_reads 0 a b) + 1
test_size (Test.Not t) = test_size t
test_size (Test.And t u) = test_size t + test_size u
test_size (Test.Or t u) = test_size t + test_size u

-- The actions of a test from this location on, with the locations of its true and its false side: `&&` and `||` test the left
-- operand first and the right one only where it matters, and `!` exchanges the sides.
abbrev pub test_actions : ℕ → ℕ → Option ℕ → Option ℕ → Test → List Action
test_actions temporary at t f (Test.Compare from m a b) =
    read_actions from (compare_reads temporary a b) at ++ compare_action temporary from m a b t f ∷ []
test_actions temporary at t f (Test.Not u) = test_actions temporary at f t u
test_actions temporary at t f (Test.And u v) =
    test_actions temporary at (Some (at + test_size u)) f u ++ test_actions temporary (at + test_size u) t f v
test_actions temporary at t f (Test.Or u v) =
    test_actions temporary at t (Some (at + test_size u)) u ++ test_actions temporary (at + test_size u) t f v

-- how many locations a condition has
abbrev pub condition_size : Condition → ℕ
condition_size (Condition.Choice from) = 1
condition_size (Condition.Tested from t) = test_size t

-- either side may be gone to
abbrev pub choice : ℕ → ℕ → ℕ → Action
choice from t f = record { from = from; alternatives = record { events = []; to = t } ∷ record { events = []; to = f } ∷ [] }

-- the actions of a condition from this location on, with the locations of its two sides
abbrev pub condition_actions : ℕ → ℕ → ℕ → ℕ → Condition → List Action
condition_actions temporary at t f (Condition.Choice from) = choice from t f ∷ []
condition_actions temporary at t f (Condition.Tested from test) = test_actions temporary at (Some t) (Some f) test

-- ---- assignments

-- how many accesses an assignment makes
abbrev pub assign_accesses : Variable → Arithmetic → ℕ
assign_accesses v e = written v (length (shared_in e))

-- its reads into temporaries, where it makes more than one access
abbrev pub assign_reads : ℕ → Variable → Arithmetic → List (Variable × Variable)
assign_reads temporary v e = reads_before temporary (assign_accesses v e) (shared_in e)

-- the actions of an assignment from this location on: its reads, and then what it sets
abbrev pub assign_actions : ℕ → ℕ → ℕ → ℕ → ℕ → Variable → Arithmetic → List Action
assign_actions temporary at next from place v e =
    read_actions from (assign_reads temporary v e) at
    ++ simple from (Event.Sets place v (over_reads temporary (assign_accesses v e) e)) next ∷ []

-- ---- locks

-- the value of a lock
abbrev pub lock_variable : Frame → ℕ → Arithmetic
lock_variable frame n = Arithmetic.Value (variable.Shared (lock_column frame n))

-- a lock that is free is taken: it has the number of the thread then
abbrev pub lock_action : Frame → ℕ → ℕ → ℕ → Action
lock_action frame from lock next = record {
  from = from;
  alternatives = record {
    events = Event.Requires from related.Equal (lock_variable frame lock) (Arithmetic.Number (pos 0))
        ∷ Event.Sets from (variable.Shared (lock_column frame lock)) (Arithmetic.Number (pos frame.thread)) ∷ [];
    to = next;
  } ∷ [];
}

-- an unlock of a lock that the thread does not hold fails
abbrev pub unlock_action : Frame → ℕ → ℕ → ℕ → Action
unlock_action frame from lock next = record {
  from = from;
  alternatives = record {
    events = Event.Requires from related.Equal (lock_variable frame lock) (Arithmetic.Number (pos frame.thread))
        ∷ Event.Sets from (variable.Shared (lock_column frame lock)) (Arithmetic.Number (pos 0)) ∷ [];
    to = next;
  } ∷ requiring from (related.Less ∷ related.Greater ∷ []) (lock_variable frame lock) (Arithmetic.Number (pos frame.thread)) (Some 0);
}

-- ---- atomic blocks

-- where a path leads: where it fails, to location 0
abbrev pub path_target : ℕ → Bool → ℕ
path_target next true = 0
path_target next false = next

-- a path, as one way on
abbrev pub path_alternative : ℕ → Path → Alternative
path_alternative next path = record { events = path.events; to = path_target next path.fails }

-- an atomic block: one way on for each of its paths
abbrev pub block_action : ℕ → Stmts → ℕ → Action
block_action from inner next = record { from = from; alternatives = map (path_alternative next) (block_paths inner) }

-- ---- statements

abbrev mutual
  -- how many locations a statement has
  pub stmt_size : Stmt → ℕ
  stmt_size (Stmt.Assign from at v e) = length (assign_reads 0 v e) + 1
  stmt_size (Stmt.AssignAny from v) = 1
  stmt_size (Stmt.If from c ts es) = condition_size c + (size ts + size es)
  stmt_size (Stmt.Loop from c body last) = condition_size c + (size body + size last)
  stmt_size (Stmt.Break from) = 1
  stmt_size (Stmt.Exit from) = 1
  stmt_size (Stmt.Lock from lock) = 1
  stmt_size (Stmt.Unlock from lock) = 1
  stmt_size (Stmt.Assert from t) = test_size t
  stmt_size (Stmt.Assume from t) = test_size t
  stmt_size (Stmt.Atomic from inner) = 1

  -- how many locations statements have
  pub size : Stmts → ℕ
  size Stmts.End = 0
  size (Stmts.Then s rest) = stmt_size s + size rest

-- where statements begin that stand at this location, in front of the next one
abbrev pub entry : Stmts → ℕ → ℕ → ℕ
entry Stmts.End at next = next
entry (Stmts.Then s rest) at next = at

-- What stands around statements: the thread, the number of its first temporary, its last location, and the one behind the innermost
-- loop.
pub record Around : Type 0 where
  pub frame : Frame
  pub temporary : ℕ
  pub exit : ℕ
  pub out : ℕ

abbrev mutual
  -- the actions of a statement at this location, with the one that comes next
  pub stmt_actions : Around → ℕ → ℕ → Stmt → List Action
  stmt_actions around at next (Stmt.Assign from place v e) = assign_actions around.temporary at next from place v e
  stmt_actions around at next (Stmt.AssignAny from v) = simple from (Event.SetsAny v) next ∷ []
  stmt_actions around at next (Stmt.If from c ts es) =
      condition_actions around.temporary at (entry ts (at + condition_size c) next) (entry es (at + condition_size c + size ts) next) c
      ++ (actions around (at + condition_size c) next ts ++ actions around (at + condition_size c + size ts) next es)
  stmt_actions around at next (Stmt.Loop from c body last) =
      condition_actions around.temporary at (entry body (at + condition_size c) (entry last (at + condition_size c + size body) at)) next c
      ++ (actions (record around { out = next }) (at + condition_size c) (entry last (at + condition_size c + size body) at) body
      ++ actions (record around { out = next }) (at + condition_size c + size body) at last)
  stmt_actions around at next (Stmt.Break from) = jump from around.out ∷ []
  stmt_actions around at next (Stmt.Exit from) = jump from around.exit ∷ []
  stmt_actions around at next (Stmt.Lock from lock) = lock_action around.frame from lock next ∷ []
  stmt_actions around at next (Stmt.Unlock from lock) = unlock_action around.frame from lock next ∷ []
  stmt_actions around at next (Stmt.Assert from t) = test_actions around.temporary at (Some next) (Some 0) t
  stmt_actions around at next (Stmt.Assume from t) = test_actions around.temporary at (Some next) None t
  stmt_actions around at next (Stmt.Atomic from inner) = block_action from inner next ∷ []

  -- the actions of statements from this location on, with the one that comes next
  pub actions : Around → ℕ → ℕ → Stmts → List Action
  actions around at next Stmts.End = []
  actions around at next (Stmts.Then s rest) =
      stmt_actions around at (entry rest (at + stmt_size s) next) s ++ actions around (at + stmt_size s) next rest

-- ---- threads

-- where a thread ends that does these statements
abbrev pub exit_of : Stmts → ℕ
exit_of body = size body + 1

-- the actions of a thread, from location 1 on
abbrev pub thread_actions : Frame → ℕ → Stmts → List Action
thread_actions frame temporary body =
    actions (record { frame = frame; temporary = temporary; exit = exit_of body; out = exit_of body }) 1 (exit_of body) body
