-- As many stages as there are columns are enough.
use Rattle.std.proofs.Common.{◌≡◌, ℕ, zero, suc, ◌≤◌, refl, sym, arith, subst, List, [], ◌∷◌, length, Bool, true, Some, None, Option}
use Rattle.std.specs.Prelude.{⊤, find}
use Rattle.lin_rows.specs.System.{System}
use Rattle.farkas_cert.specs.Line.{Line, given_lines, is_false, has_variable, lowest_column, lowest_of}
use Rattle.farkas_cert.specs.Elimination.{Outcome, Work, Next, Goes, Ends, constant_test, constant_test_by, take_column_out, take_column_out_by, stage, then_constant_test, or_ends, goes_on, stages, beginning, outcome_of, outcome_within}
use Rattle.farkas_cert.proofs.OpenColumns.{count_open, close, close_falls, IsWithin, AllWithin, AllVary, IsOpen, lowest_open, lowest_of_open, Closes, ClosesTested, equality_stage_closes, pair_stage_closes}
use Rattle.farkas_cert.proofs.Lists.{all_filter, filter_all, all_both, found}

-- The test for false lines closes what the stage before closed.
constant_test-closes : (system : System) (f : ℕ → Bool) (number : ℕ) (work : Work) → Closes system.columns f (Goes work)
    → ClosesTested system.columns f (constant_test system number work)
unfolding constant_test
constant_test-closes system f number work h = by_found (find (is_false system.columns) work.lines) where
  by_found : (o : Option Line) → ClosesTested system.columns f (constant_test_by system number work o)
  by_found None = (h.0, h.1, all_filter (IsWithin system.columns (close h.0 f)) (has_variable system.columns) work.lines h.2, filter_all (has_variable system.columns) work.lines)
  by_found (Some line) = tt

-- The test behind a stage closes what the stage did.
then_constant_test-closes : (system : System) (f : ℕ → Bool) (next : Next) → Closes system.columns f next
    → ClosesTested system.columns f (then_constant_test system next)
then_constant_test-closes system f (Goes work) h = constant_test-closes system f (length work.kept) work h
then_constant_test-closes system f (Ends outcome) h = tt

-- To take a column out closes an open one.
take_column_out-closes : (system : System) (f : ℕ → Bool) (work : Work) (line : Line) (lines : List Line) → work.lines ≡ line ∷ lines
    → AllWithin system.columns f work.lines → AllVary system.columns work.lines → Closes system.columns f (take_column_out system work)
unfolding take_column_out
take_column_out-closes system f work line lines s h v = by_found (find (λ line. line.equal) work.lines) refl where
  n : ℕ
  n = system.columns

  by_found : (o : Option Line) → find (λ line. line.equal) work.lines ≡ o → Closes system.columns f (take_column_out_by system work o)
  by_found None e = pair_stage_closes system f work
      (subst (λ (all : List Line). IsOpen n f (lowest_of n all)) (sym s)
      (lowest_of_open n f line lines (subst (λ (all : List Line). AllWithin n f all) s h) (subst (λ (all : List Line). AllVary n all) s v))) h
  by_found (Some equality) e =
      let at = found (λ l. IsWithin n f l × (has_variable n l ≡ true)) (λ line. line.equal) work.lines equality (all_both (IsWithin n f) (λ l. has_variable n l ≡ true) work.lines h v) e in
      equality_stage_closes system f work equality at.0.0 at.0.1 h

-- A stage closes an open column.
pub stage_closes : (system : System) (f : ℕ → Bool) (work : Work) (line : Line) (lines : List Line) → work.lines ≡ line ∷ lines
    → AllWithin system.columns f work.lines → AllVary system.columns work.lines → ClosesTested system.columns f (stage system work)
unfolding stage
stage_closes system f work line lines s h v = then_constant_test-closes system f (take_column_out system work) (take_column_out-closes system f work line lines s h v)

-- No line is left where no column is open.
pub none_left : (n : ℕ) (f : ℕ → Bool) (lines : List Line) → AllWithin n f lines → AllVary n lines → count_open n f ≤ 0 → lines ≡ []
none_left n f [] h v l = refl
none_left n f (line ∷ lines) h v l = let o = lowest_open n f line h.0 v.0 in absurd (omega (arith, close_falls n (lowest_column n line) f o.0 o.1))

-- ---- more stages change nothing

-- What goes on alike ends alike.
same_ends : (system : System) (f : ℕ → Bool) (more other : Work → Outcome) (next : Next)
    → ((work : Work) (c : ℕ) → IsOpen system.columns f c → AllWithin system.columns (close c f) work.lines → AllVary system.columns work.lines → more work ≡ other work)
    → ClosesTested system.columns f next → or_ends more next ≡ or_ends other next
same_ends system f more other (Goes work) same h = same work h.0 h.1 h.2 h.3
same_ends system f more other (Ends outcome) same h = refl

-- With enough stages, more change nothing.
same_stages : (fuel other : ℕ) (system : System) (f : ℕ → Bool) (work : Work) → count_open system.columns f ≤ fuel
    → count_open system.columns f ≤ other → AllWithin system.columns f work.lines → AllVary system.columns work.lines
    → stages fuel system work ≡ stages other system work
unfolding stages
same_stages zero zero system f work l m h v = refl
same_stages zero (suc other) system f work l m h v = rw (none_left system.columns f work.lines h v l) refl
same_stages (suc fuel) zero system f work l m h v = rw (none_left system.columns f work.lines h v m) refl
same_stages (suc fuel) (suc other) system f work l m h v = by_lines (same_stages fuel other system) work.lines refl where
  by_lines : ((g : ℕ → Bool) (next : Work) → count_open system.columns g ≤ fuel → count_open system.columns g ≤ other → AllWithin system.columns g next.lines → AllVary system.columns next.lines → stages fuel system next ≡ stages other system next)
      → (lines : List Line) → work.lines ≡ lines → goes_on system work (stages fuel system) lines ≡ goes_on system work (stages other system) lines
  by_lines rest [] s = refl
  by_lines rest (line ∷ lines) s =
      same_ends system f (stages fuel system) (stages other system) (stage system work)
      (λ next c o w y. let less = close_falls system.columns c f o.0 o.1 in rest (close c f) next (omega arith) (omega arith) w y)
      (stage_closes system f work line lines s h v)

-- ---- from the given rows on

-- every column is open
abbrev pub all_open : ℕ → Bool
all_open j = true

-- All lines are within all columns.
pub all_within : (n : ℕ) (lines : List Line) → AllWithin n all_open lines
all_within n [] = tt
all_within n (line ∷ lines) = ((λ j l e. absurd cc), all_within n lines)

-- No more columns are open than there are.
pub count_all : (n : ℕ) → count_open n all_open ≤ n
unfolding count_open
count_all zero = omega arith
count_all (suc n) = omega (arith, count_all n)

-- what begins has a variable in each line
abbrev pub Varies : System → Next → Type 0
Varies system (Goes work) = AllVary system.columns work.lines
Varies system (Ends outcome) = ⊤

-- At the beginning each line that is left varies.
pub beginning-varies : (system : System) → Varies system (beginning system)
unfolding beginning constant_test
beginning-varies system = by_found (find (is_false system.columns) (given_lines (length system.rows) 0 system.rows)) where
  by_found : (o : Option Line)
      → Varies system (constant_test_by system 0 (record { lines = given_lines (length system.rows) 0 system.rows; kept = []; made = 0 }) o)
  by_found None = filter_all (has_variable system.columns) (given_lines (length system.rows) 0 system.rows)
  by_found (Some line) = tt

-- From the beginning, as many stages as columns are enough.
same_from : (fuel : ℕ) (system : System) (next : Next) → system.columns ≤ fuel → Varies system next
    → or_ends (stages fuel system) next ≡ or_ends (stages system.columns system) next
same_from fuel system (Goes work) l v =
    let c = count_all system.columns in
    same_stages fuel system.columns system all_open work (omega arith) c (all_within system.columns work.lines) v
same_from fuel system (Ends outcome) l v = refl

-- With as many stages as columns the outcome is the outcome.
pub same_outcome : (fuel : ℕ) (system : System) → system.columns ≤ fuel → outcome_within fuel system ≡ outcome_of system
unfolding outcome_within
same_outcome fuel system l = same_from fuel system (beginning system) l (beginning-varies system)
