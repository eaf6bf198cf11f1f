-- Small trees with their systems, written by hand: of one thread; of two by rely-guarantee; of two by the rule of Owicki and Gries.
use Rattle.std.proofs.Common.{◌≡◌, ℕ, List, [], ◌∷◌, Some, None, pos, negsuc, refl, arith}
use Rattle.std.proofs.lemmas.Int.{ints}
use Rattle.lin_rows.specs.Row.{Row, sum_of}
use Rattle.lin_rows.specs.Atom.{inequality}
use Rattle.lin_rows.specs.System.{IsPoint}
use Rattle.farkas_cert.specs.Cert.{Refutes, weighted_sum}
use Rattle.transition_formula.specs.Program.{Program, Column, Edge}
use Rattle.transition_formula.specs.Rows.{zeros, unit, equality, column_is}
use Rattle.horn_rules.specs.Home.{State}
use Rattle.derivation_tree.specs.Tree.{Tree, Init, Own, Guar, Env, Inter, home_of}
use Rattle.derivation_tree.specs.Nodes.{tree_nodes}
use Rattle.derivation_tree.specs.System.{full_system, cut_system, chain_system, share_scope}
use Rattle.derivation_tree.specs.Sums.{predicates_of}
use Rattle.derivation_tree.specs.Chain.{chain_run}

-- ---- the program: g is shared and starts at 0, a is the first thread's, then come the counters

abbrev worked_columns : List Column
worked_columns = record { text = 103 ∷ []; owner = None; start = Some (pos 0) }
    ∷ record { text = 97 ∷ []; owner = Some 1; start = None }
    ∷ record { text = 98 ∷ []; owner = Some 1; start = Some (pos 1) }
    ∷ record { text = 99 ∷ []; owner = Some 2; start = Some (pos 1) }
    ∷ []

-- a is set to g
abbrev reading : Edge
reading = record { from = 1; to = 2; inputs = 0; tests = []; sets = (1, record { coefficients = pos 1 ∷ zeros 3; constant = pos 0 }) ∷ [] }

-- a is at least 1: it fails
abbrev failing : Edge
failing = record { from = 2; to = 0; inputs = 0; tests = inequality (unit 4 1 (negsuc 0)) (negsuc 0) ∷ []; sets = [] }

-- g is set to any integer
abbrev writing : Edge
writing = record { from = 1; to = 2; inputs = 1; tests = []; sets = (0, record { coefficients = unit 5 4 (pos 1); constant = pos 0 }) ∷ [] }

abbrev pub worked_program : Program
worked_program = record {
  columns = worked_columns;
  threads = record { counter = 2; locations = 3; edges = reading ∷ failing ∷ [] } ∷ record { counter = 3; locations = 3; edges = writing ∷ [] } ∷ [];
}

-- ---- rows

-- over so many variables, variable c has coefficient 1 and variable b the coefficient -1; their difference is 0
abbrev same_as : ℕ → ℕ → ℕ → Row
same_as width c b = equality (sum_of (unit width c (pos 1)) (unit width b (negsuc 0))) (pos 0)

abbrev at_least_one : ℕ → ℕ → Row
at_least_one width c = inequality (unit width c (negsuc 0)) (negsuc 0)

-- ---- one thread: g, a before, the counters and then, as the steps name them, the counter, a and the counter

abbrev alone : Tree
alone = Own (Own (Init 1) 1) 2

alone-home : home_of worked_program alone ≡ Some (State 1 0)
alone-home = refl

abbrev alone_rows : List Row
alone_rows = column_is 6 0 (pos 0) ∷ column_is 6 1 (pos 1) ∷ column_is 6 2 (pos 1)
    ∷ column_is 6 1 (pos 1) ∷ column_is 6 1 (pos 1) ∷ column_is 6 3 (pos 2) ∷ same_as 6 4 0
    ∷ column_is 6 3 (pos 2) ∷ column_is 6 3 (pos 2) ∷ column_is 6 5 (pos 0) ∷ at_least_one 6 4
    ∷ []

alone-full : full_system worked_program alone ≡ record { columns = 6; rows = alone_rows }
alone-full = refl

alone-cut : cut_system worked_program alone ≡ record { columns = 6; rows = alone_rows }
alone-cut = refl

alone-chain : chain_system worked_program alone
    ≡ record {
      columns = 6;
      rows = column_is 6 0 (pos 0) ∷ column_is 6 1 (pos 1) ∷ column_is 6 2 (pos 1)
          ∷ column_is 6 1 (pos 1) ∷ column_is 6 3 (pos 2) ∷ same_as 6 4 0
          ∷ column_is 6 3 (pos 2) ∷ column_is 6 5 (pos 0) ∷ at_least_one 6 4
          ∷ [];
    }
alone-chain = refl

-- g is 0, a is g, a is at least 1: refuted. At the start g is at most 0, after the first step a is.
alone-refuted : weighted_sum alone_rows ((1, pos 1) ∷ (7, pos 1) ∷ (11, pos 1) ∷ []) ≡ inequality (zeros 6) (negsuc 0)
alone-refuted = refl

alone-refutes : Refutes (cut_system worked_program alone) ((1, pos 1) ∷ (7, pos 1) ∷ (11, pos 1) ∷ [])
alone-refutes = record {
  in_order = (omega arith, tt, (omega arith, tt, (omega arith, omega (arith, ints), tt)));
  contradicts = record { cancels = (refl, (refl, (refl, (refl, (refl, (refl, tt)))))); negative = omega (arith, ints) };
}

alone-predicates : predicates_of (tree_nodes worked_program share_scope alone) ((1, pos 1) ∷ (7, pos 1) ∷ (11, pos 1) ∷ [])
    ≡ record { home = State 1 1; atom = inequality (unit 4 0 (pos 1)) (pos 0) }
    ∷ record { home = State 1 2; atom = inequality (unit 4 1 (pos 1)) (pos 0) }
    ∷ []
alone-predicates = refl

-- ---- two threads, by rely-guarantee: the second one's step is told to the first

abbrev told : Tree
told = Own (Own (Env (Init 1) (Guar (Init 2) 1)) 1) 2

told-home : home_of worked_program told ≡ Some (State 1 0)
told-home = refl

told-full : full_system worked_program told
    ≡ record {
      columns = 9;
      rows = column_is 9 0 (pos 0) ∷ column_is 9 1 (pos 1) ∷ column_is 9 2 (pos 1)
          ∷ column_is 9 0 (pos 0) ∷ column_is 9 1 (pos 1) ∷ column_is 9 2 (pos 1)
          ∷ column_is 9 2 (pos 1) ∷ column_is 9 2 (pos 1) ∷ column_is 9 3 (pos 2) ∷ same_as 9 4 5
          ∷ column_is 9 1 (pos 1) ∷ column_is 9 2 (pos 1) ∷ column_is 9 3 (pos 2)
          ∷ column_is 9 1 (pos 1) ∷ column_is 9 1 (pos 1) ∷ column_is 9 6 (pos 2) ∷ same_as 9 7 4
          ∷ column_is 9 6 (pos 2) ∷ column_is 9 6 (pos 2) ∷ column_is 9 8 (pos 0) ∷ at_least_one 9 7
          ∷ [];
    }
told-full = refl

-- Each node has counters of its own where they are not its thread's: those of the second thread are known at nodes 1, 2, 3 and 4 apart.
told-cut : cut_system worked_program told
    ≡ record {
      columns = 13;
      rows = column_is 13 0 (pos 0) ∷ column_is 13 1 (pos 1) ∷ column_is 13 2 (pos 1)
          ∷ column_is 13 0 (pos 0) ∷ column_is 13 3 (pos 1) ∷ column_is 13 4 (pos 1)
          ∷ column_is 13 4 (pos 1) ∷ column_is 13 4 (pos 1) ∷ column_is 13 5 (pos 2) ∷ same_as 13 6 7
          ∷ column_is 13 1 (pos 1) ∷ column_is 13 8 (pos 1) ∷ column_is 13 9 (pos 2)
          ∷ column_is 13 1 (pos 1) ∷ column_is 13 1 (pos 1) ∷ column_is 13 10 (pos 2) ∷ same_as 13 11 6
          ∷ column_is 13 10 (pos 2) ∷ column_is 13 10 (pos 2) ∷ column_is 13 12 (pos 0) ∷ at_least_one 13 11
          ∷ [];
    }
told-cut = refl

told-chain : chain_system worked_program told
    ≡ record {
      columns = 9;
      rows = column_is 9 0 (pos 0) ∷ column_is 9 1 (pos 1) ∷ column_is 9 2 (pos 1)
          ∷ column_is 9 2 (pos 1) ∷ column_is 9 3 (pos 2) ∷ same_as 9 4 5
          ∷ column_is 9 1 (pos 1) ∷ column_is 9 6 (pos 2) ∷ same_as 9 7 4
          ∷ column_is 9 6 (pos 2) ∷ column_is 9 8 (pos 0) ∷ at_least_one 9 7
          ∷ [];
    }
told-chain = refl

-- A whole point of the chain.
told-point : IsPoint (chain_system worked_program told) (pos 0 ∷ pos 1 ∷ pos 1 ∷ pos 2 ∷ pos 5 ∷ pos 5 ∷ pos 2 ∷ pos 5 ∷ pos 0 ∷ [])
told-point = record { whole = refl; meets = (refl, (refl, (refl, (refl, (refl, (refl, (refl, (refl, (refl, (refl, (refl, (omega (arith, ints), tt)))))))))))) }

-- It tells a run in which the second thread writes 5.
told-run : chain_run worked_program told (pos 0 ∷ pos 1 ∷ pos 1 ∷ pos 2 ∷ pos 5 ∷ pos 5 ∷ pos 2 ∷ pos 5 ∷ pos 0 ∷ [])
    ≡ record {
      start = pos 0 ∷ pos 0 ∷ pos 1 ∷ pos 1 ∷ [];
      steps = record { thread = 2; edge = 1; inputs = pos 5 ∷ [] } ∷ record { thread = 1; edge = 1; inputs = [] } ∷ record { thread = 1; edge = 2; inputs = [] } ∷ [];
    }
told-run = refl

-- ---- the same by the rule of Owicki and Gries: the second thread's step stands at the node itself

abbrev beside : Tree
beside = Own (Own (Inter (Init 1) (Init 2) 1) 1) 2

beside-home : home_of worked_program beside ≡ Some (State 1 0)
beside-home = refl

beside-cut : cut_system worked_program beside
    ≡ record {
      columns = 11;
      rows = column_is 11 0 (pos 0) ∷ column_is 11 1 (pos 1) ∷ column_is 11 2 (pos 1)
          ∷ column_is 11 0 (pos 0) ∷ column_is 11 3 (pos 1) ∷ column_is 11 4 (pos 1)
          ∷ column_is 11 1 (pos 1) ∷ column_is 11 4 (pos 1) ∷ column_is 11 4 (pos 1) ∷ column_is 11 5 (pos 2) ∷ same_as 11 6 7
          ∷ column_is 11 1 (pos 1) ∷ column_is 11 1 (pos 1) ∷ column_is 11 8 (pos 2) ∷ same_as 11 9 6
          ∷ column_is 11 8 (pos 2) ∷ column_is 11 8 (pos 2) ∷ column_is 11 10 (pos 0) ∷ at_least_one 11 9
          ∷ [];
    }
beside-cut = refl

beside-full : full_system worked_program beside
    ≡ record {
      columns = 9;
      rows = column_is 9 0 (pos 0) ∷ column_is 9 1 (pos 1) ∷ column_is 9 2 (pos 1)
          ∷ column_is 9 0 (pos 0) ∷ column_is 9 1 (pos 1) ∷ column_is 9 2 (pos 1)
          ∷ column_is 9 1 (pos 1) ∷ column_is 9 2 (pos 1) ∷ column_is 9 2 (pos 1) ∷ column_is 9 3 (pos 2) ∷ same_as 9 4 5
          ∷ column_is 9 1 (pos 1) ∷ column_is 9 1 (pos 1) ∷ column_is 9 6 (pos 2) ∷ same_as 9 7 4
          ∷ column_is 9 6 (pos 2) ∷ column_is 9 6 (pos 2) ∷ column_is 9 8 (pos 0) ∷ at_least_one 9 7
          ∷ [];
    }
beside-full = refl

-- ---- a step that does not lead on from its premise is no instance

no-home : home_of worked_program (Own (Init 1) 2) ≡ None
no-home = refl
