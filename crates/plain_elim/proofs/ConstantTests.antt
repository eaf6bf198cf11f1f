-- The constant test: what a false line refutes by, and which lines stay.
use Rattle.std.proofs.Common.{◌≡◌, ℕ, refl, List, map, true, false, Option, Some, None}
use Rattle.std.specs.Prelude.{pos, neg_ℤ, ◌&&◌, int_lt, filter, find}
use Rattle.std.specs.Option.{option_map}
use Rattle.lin_rows.specs.System.{System}
use Rattle.farkas_cert.specs.Cert.{Pairs}
use Rattle.farkas_cert.specs.Line.{Line, bound_of, multipliers_of, refuting_multipliers, nonzero_pairs, is_false, has_variable}
use Rattle.farkas_cert.specs.Elimination.{Work, Goes, Ends, constant_test, constant_test_by}
use Rattle.plain_elim.specs.inside.Held.{refuted_by}
use Rattle.plain_elim.specs.inside.Stages.{refutation_of}

-- ---- the multipliers of a false line
pub refuting-turned : (n : ℕ) (line : Line) → (line.equal && int_lt (pos 0) (bound_of n line)) ≡ true → refuting_multipliers n line ≡ map neg_ℤ (multipliers_of n line)
unfolding refuting_multipliers
refuting-turned n line e = rw e refl

pub refuting-plain : (n : ℕ) (line : Line) → (line.equal && int_lt (pos 0) (bound_of n line)) ≡ false → refuting_multipliers n line ≡ multipliers_of n line
unfolding refuting_multipliers
refuting-plain n line e = rw e refl

-- ---- the test
refutes_by : (system : System) (number : ℕ) (work : Work) (cert : Pairs) (o : Option Line)
    → Some cert ≡ option_map (λ line. nonzero_pairs 1 (refuting_multipliers system.columns line)) o → Ends (refuted_by system cert number) ≡ constant_test_by system number work o
refutes_by system number work cert None e = absurd cc
refutes_by system number work cert (Some line) e = let same : cert ≡ nonzero_pairs 1 (refuting_multipliers system.columns line) = cc in rw same refl

pub constant_test-refutes : (system : System) (number : ℕ) (work : Work) (cert : Pairs) → Some cert ≡ refutation_of system work.lines
    → Ends (refuted_by system cert number) ≡ constant_test system number work
unfolding constant_test
constant_test-refutes system number work cert e = refutes_by system number work cert (find (is_false system.columns) work.lines) e

goes_by : (system : System) (number : ℕ) (work : Work) (lines : List Line) (o : Option Line)
    → None ≡ option_map (λ line. nonzero_pairs 1 (refuting_multipliers system.columns line)) o → lines ≡ filter (has_variable system.columns) work.lines
    → Goes (record work { lines = lines }) ≡ constant_test_by system number work o
goes_by system number work lines None e h = rw h refl
goes_by system number work lines (Some line) e h = absurd cc

pub constant_test-goes : (system : System) (number : ℕ) (work : Work) (lines : List Line) → None ≡ refutation_of system work.lines
    → lines ≡ filter (has_variable system.columns) work.lines → Goes (record work { lines = lines }) ≡ constant_test system number work
unfolding constant_test
constant_test-goes system number work lines e h = goes_by system number work lines (find (is_false system.columns) work.lines) e h
