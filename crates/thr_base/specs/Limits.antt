-- The limits of what is read, held and done, each once.
use Rattle.std.specs.Prelude.{ℕ, ◌≤◌}
use Rattle.thr_base.specs.declared.limits.Limits.{Limits}

-- ---- texts, in bytes

-- a program, predicates, or a schedule
abbrev pub text_limit : ℕ
text_limit = 1048576

-- an annotation
abbrev pub annotation_limit : ℕ
annotation_limit = 67108864

-- ---- programs

-- levels of statements, parentheses and unary operators
abbrev pub most_levels : ℕ
most_levels = 64

abbrev pub most_threads : ℕ
most_threads = 8

-- columns of a program that is read
abbrev pub most_columns : ℕ
most_columns = 64

-- locations of a thread, the failing one and the exit among them
abbrev pub most_locations : ℕ
most_locations = 256

-- paths of an atomic block
abbrev pub most_paths : ℕ
most_paths = 64

-- edges of a thread
abbrev pub most_edges : ℕ
most_edges = 65536

-- inputs of an edge
abbrev pub most_inputs : ℕ
most_inputs = 1048576

-- tests of an edge
abbrev pub most_tests : ℕ
most_tests = 1048576

-- ---- solving

-- predicates of a home
abbrev pub most_predicates : ℕ
most_predicates = 128

-- columns and rows of the system of a counterexample tree
abbrev pub most_tree_columns : ℕ
most_tree_columns = 512

abbrev pub most_tree_rows : ℕ
most_tree_rows = 2048

-- rows that are given to one elimination and made by it
abbrev pub most_elimination_rows : ℕ
most_elimination_rows = 8192

-- ---- what a run may use at most

-- live facts, at least 1
abbrev pub most_facts : ℕ
most_facts = 65536

-- publishes that were not stale, at least 1
abbrev pub most_jobs : ℕ
most_jobs = 2000000

abbrev pub most_refinements : ℕ
most_refinements = 10000

-- nodes of a counterexample tree, at least 1
abbrev pub most_nodes : ℕ
most_nodes = 1000

-- workers, at least 1
abbrev pub most_workers : ℕ
most_workers = 65536

-- What a run may use is within these.
pub record AreAllowed (limits : Limits) : Type 0 where
  pub some_facts : 1 ≤ limits.facts
  pub few_facts : limits.facts ≤ most_facts
  pub some_jobs : 1 ≤ limits.jobs
  pub few_jobs : limits.jobs ≤ most_jobs
  pub few_refinements : limits.refinements ≤ most_refinements
  pub some_nodes : 1 ≤ limits.tree
  pub few_nodes : limits.tree ≤ most_nodes

-- statements of a thread of a generated program, at least 1
abbrev pub most_generated : ℕ
most_generated = 250

-- ---- what it may use where nothing else is asked

abbrev pub default_facts : ℕ
default_facts = 4096

abbrev pub default_jobs : ℕ
default_jobs = 200000

abbrev pub default_refinements : ℕ
default_refinements = 200

abbrev pub default_nodes : ℕ
default_nodes = 200
