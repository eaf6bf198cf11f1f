-- The point with which the elimination ends is a point of the system.
use Rattle.std.proofs.Common.{◌≡◌, ℕ, zero, suc, ◌+◌, ◌*◌, ◌<◌, ◌≤◌, refl, sym, ap, ◌∙◌, arith, subst, List, [], ◌∷◌, ◌++◌, map, take, length, Bool, true, false, cond, Some, None, Option}
use Rattle.std.specs.Prelude.{is_none, ℤ, pos, ◌≤ℤ◌, ◌<ℤ◌, ◌*ℤ◌, ◌-ℤ◌, find, filter, not, replicate, MatchBool, ◌&&◌}
use Rattle.std.specs.Option.{option_map}
use Rattle.std.specs.List.{AllByRecursion}
use Rattle.std.proofs.lemmas.Int.{ints}
use Rattle.std.proofs.lemmas.List.{length-replicate}
use Rattle.lin_rows.specs.Row.{Row, product_of, MeetsOver}
use Rattle.lin_rows.specs.System.{System, HasWidths, IsRationalPoint}
use Rattle.farkas_cert.specs.Line.{Line, given_line, given_lines, coefficient_at, bound_of, is_nonzero, is_false, fails, has_variable, lowest_column, lowest_of, refuting_multipliers, nonzero_pairs}
use Rattle.farkas_cert.specs.Proof.{overflow_of}
use Rattle.farkas_cert.specs.BackSubstitution.{RationalPoint, Fraction, Kept, Solved, Bounded, bound_on, bounds_from, chosen_value, assigned_point, set_column}
use Rattle.farkas_cert.specs.Elimination.{Outcome, Refuted, Point, Leaves, Work, Next, Goes, Ends, every, refutation_outcome, constant_test, constant_test_by, follows, without_equality, substituted_line, equality_stage, with_column, without_column, positives, negatives, pairs_at, are_too_many, pair_stage, take_column_out, take_column_out_by, stage, then_constant_test, or_leaves, point_from, point_of, or_ends, goes_on, stages, beginning, outcome_of, outcome_within}
use Rattle.farkas_cert.specs.declared.answers.LeaveKind.TheVariants.{Overflow, Rows}
use Rattle.lin_rows.proofs.Integers.{zero-mul_ℤ}
use Rattle.lin_rows.proofs.Points.{product_of-AllZero}
use Rattle.lin_rows.proofs.Lists.{AllByRecursion-front, AllByRecursion-rest}
use Rattle.farkas_cert.proofs.Integers.{linear, mul_right_le_ℤ}
use Rattle.farkas_cert.proofs.Fractions.{not_negative}
use Rattle.farkas_cert.proofs.Refuting.{not_true, no_variable, given_parts}
use Rattle.farkas_cert.proofs.Lists.{all_from, all_parts, all_back, all_unfilter, found, none_found, all_both, filter_all}
use Rattle.farkas_cert.proofs.Certificates.{appended}
use Rattle.farkas_cert.proofs.OpenColumns.{count_open, close, close_falls, IsWithin, AllWithin, AllVary, IsOpen, lowest_is, lowest_of_open, substituted_closes, closed_here, zero_by_test, ClosesTested}
use Rattle.farkas_cert.proofs.Fuel.{stage_closes, none_left, all_open, all_within, count_all, Varies, beginning-varies}
use Rattle.farkas_cert.proofs.Slack.{slack, Holds, MeetsLine, and_then_is}
use Rattle.farkas_cert.proofs.Moves.{Moved, assigned_moved, moved_length, moved_positive, still_meets}
use Rattle.farkas_cert.proofs.Sides.{bound_is, solved_meets, substituted_back}
use Rattle.farkas_cert.proofs.Between.{no_bounds, chosen_has_positive, all_kept_meet}

-- the point meets each line
abbrev pub AllMeet : ℕ → RationalPoint → List Line → Type 0
AllMeet n point lines = AllByRecursion (MeetsLine n point) lines

-- a point over n columns
pub record IsOver (n : ℕ) (point : RationalPoint) : Type 0 where
  pub whole : length point.numerators ≡ n
  pub positive : pos 0 <ℤ point.denominator

-- Each point that meets the lines leads, over the columns that were kept, to a point of the system.
abbrev pub Leads : System → List Line → List Kept → Type 0
Leads system lines kept = (point : RationalPoint) (x : List ℤ) (d : ℤ) → IsOver system.columns point → AllMeet system.columns point lines → point_from system.columns kept point ≡ Point x d → IsRationalPoint system x d

-- ---- the constant test

-- A line without a column that is not false holds.
true_meets : (n : ℕ) (point : RationalPoint) (line : Line) (equal : Bool) → line.equal ≡ equal → pos 0 <ℤ point.denominator
    → product_of (take n line.numbers) point.numerators ≡ pos 0 → fails equal (bound_of n line) ≡ false → Holds equal (slack n point line.numbers)
true_meets n point line true e d z f =
    let none = zero_by_test (bound_of n line) f in
    let product : bound_of n line *ℤ point.denominator ≡ pos 0 = ap (λ t. t *ℤ point.denominator) none ∙ zero-mul_ℤ point.denominator in
    omega (arith, linear)
true_meets n point line false e d z f =
    omega (arith, ints, mul_right_le_ℤ (pos 0) (bound_of n line) point.denominator (not_negative point.denominator d) (omega (arith, ints)), zero-mul_ℤ point.denominator)

-- Where both do not hold and the first does, the second does not.
second_false : (a b : Bool) → a ≡ true → (a && b) ≡ false → b ≡ false
second_false true b t e = e
second_false false b t e = absurd cc

-- A constant line that is not false holds at each point.
constant_meets : (n : ℕ) (point : RationalPoint) (line : Line) → pos 0 <ℤ point.denominator → is_false n line ≡ false → has_variable n line ≡ false
    → MeetsLine n point line
unfolding is_false
constant_meets n point line d f v =
    let test : not (has_variable n line) ≡ true = rw v refl in
    true_meets n point line line.equal refl d (product_of-AllZero (take n line.numbers) point.numerators (no_variable n line v))
    (second_false (not (has_variable n line)) (fails line.equal (bound_of n line)) test f)

-- A line that is not false holds, where it does so if it varies.
by_variable : (n : ℕ) (point : RationalPoint) (line : Line) → pos 0 <ℤ point.denominator → is_false n line ≡ false
    → (has_variable n line ≡ true → MeetsLine n point line) → MeetsLine n point line
by_variable n point line d f h = at (has_variable n line) refl where
  at : (b : Bool) → has_variable n line ≡ b → MeetsLine n point line
  at true v = h v
  at false v = constant_meets n point line d f v

-- Where the lines that vary hold and none is false, all hold.
constant_test-holds : (n : ℕ) (point : RationalPoint) (lines : List Line) → pos 0 <ℤ point.denominator → find (is_false n) lines ≡ None
    → AllMeet n point (filter (has_variable n) lines) → AllMeet n point lines
constant_test-holds n point lines d e h =
    all_from (λ line. (is_false n line ≡ false) × (has_variable n line ≡ true → MeetsLine n point line)) (MeetsLine n point) lines
    (λ line k. by_variable n point line d k.0 k.1)
    (all_both (λ line. is_false n line ≡ false) (λ line. has_variable n line ≡ true → MeetsLine n point line) lines
    (none_found (is_false n) lines e) (all_unfilter (MeetsLine n point) (has_variable n) lines h))

-- An outcome is no point.
abbrev pub NoPoint : Outcome → Type 0
NoPoint outcome = (x : List ℤ) (d : ℤ) → ¬ (outcome ≡ Point x d)

-- the lines that are left lead to a point of the system, or the end is no point
abbrev pub NextLeads : System → Next → Type 0
NextLeads system (Goes work) = Leads system work.lines work.kept
NextLeads system (Ends outcome) = NoPoint outcome

-- A refutation gives no point.
no_point_refuted : (system : System) (number : ℕ) (ms : List ℤ) → NoPoint (refutation_outcome system number ms)
no_point_refuted system number ms x d = at (is_none (overflow_of system.rows (nonzero_pairs 1 ms))) where
  at : (b : Bool) → ¬ (cond b (Refuted (nonzero_pairs 1 ms)) (Leaves number Overflow) ≡ Point x d)
  at true e = cc
  at false e = cc

-- The test for false lines keeps where a point leads.
constant_test-leads : (system : System) (number : ℕ) (work : Work) → Leads system work.lines work.kept → NextLeads system (constant_test system number work)
unfolding constant_test
constant_test-leads system number work h = at (find (is_false system.columns) work.lines) refl where
  at : (o : Option Line) → find (is_false system.columns) work.lines ≡ o → NextLeads system (constant_test_by system number work o)
  at None e = λ point x d over meets. h point x d over (constant_test-holds system.columns point work.lines over.positive e meets)
  at (Some line) e = no_point_refuted system number (refuting_multipliers system.columns line)

-- ---- the step of the point

-- A step that leads to a point gives one.
step_is : (k : ℕ) (more : RationalPoint → Outcome) (o : Option RationalPoint) (x : List ℤ) (d : ℤ) → or_leaves k more o ≡ Point x d
    → (next : RationalPoint) × (o ≡ Some next) × (more next ≡ Point x d)
step_is k more None x d e = absurd cc
step_is k more (Some next) x d e = (next, refl, e)

-- A moved point is over the columns.
moved_over : (n c : ℕ) (point : RationalPoint) (f : Fraction) (next : RationalPoint) → Moved c point f next → IsOver n point → IsOver n next
moved_over n c point f next m o = record { whole = moved_length n c point f next m o.whole; positive = moved_positive c point f next m o.positive }

-- ---- a stage with an equality

-- What holds of the equality and of the others holds of all.
with_equality : (P : Line → Type 0) (lines : List Line) (equality : Line) → find (λ line. line.equal) lines ≡ Some equality → P equality
    → AllByRecursion P (without_equality lines) → AllByRecursion P lines
unfolding without_equality
with_equality P [] equality e h k = tt
with_equality P (line ∷ lines) equality e h k = at (with_equality P lines equality) line.equal e k where
  at : (find (λ line. line.equal) lines ≡ Some equality → P equality → AllByRecursion P (without_equality lines) → AllByRecursion P lines)
      → (b : Bool)
      → cond b (Some line) (find (λ line. line.equal) lines) ≡ Some equality → AllByRecursion P (cond b lines (line ∷ without_equality lines))
      → P line × AllByRecursion P lines
  at rest true e k = let same : equality ≡ line = cc in (subst P same h, k)
  at rest false e k = (k.0, rest e h k.1)

-- A line within the other columns has no coefficient at the closed one.
lost_column : (n c : ℕ) (line : Line) → c < n → IsWithin n (close c all_open) line → coefficient_at c line ≡ pos 0
lost_column n c line l h = h c l (closed_here c all_open)

-- A point of the lines with the equality put in, moved, meets all lines.
equality_leads : (system : System) (work : Work) (equality : Line) (lines : List Line) → find (λ line. line.equal) work.lines ≡ Some equality
    → equality.equal ≡ true → has_variable system.columns equality ≡ true
    → every (map (substituted_line (lowest_column system.columns equality) equality) (without_equality work.lines)) ≡ Some lines
    → Leads system work.lines work.kept → Leads system lines (Solved (lowest_column system.columns equality) equality ∷ work.kept)
unfolding point_from set_column
equality_leads system work equality lines found_it t v made h point x d over meets e =
    let n = system.columns in
    let c = lowest_column n equality in
    let low = lowest_is n equality v in
    let step = step_is (suc (length work.kept)) (point_from n work.kept) (set_column n point (Solved c equality)) x d e in
    let next = step.0 in
    let set = and_then_is (assigned_point c point) (bound_on n c point equality) next step.1 in
    let bound = bound_is n c point equality set.0 low.1 over.positive set.1 in
    let moved = assigned_moved c point set.0 next over.positive bound.positive set.2 in
    let solved = solved_meets n c point set.0 next equality moved low.0 over.whole over.positive low.1 t set.1 in
    h next x d (moved_over n c point set.0 next moved over)
    (with_equality (MeetsLine n next) work.lines equality found_it solved
    (all_back (MeetsLine n next) (MeetsLine n point) (substituted_line c equality) (without_equality work.lines) lines
    (λ line other s m. substituted_back n c next equality line other low.1 t solved s
    (still_meets n c point set.0 next other moved low.0 over.whole
    (lost_column n c other low.0 (substituted_closes n c all_open equality line other (λ j l e. absurd cc) (λ j l e. absurd cc) s)) m))
    made meets))
    step.2

-- ---- a stage without one

-- A point of the pairs, moved between the bounds, meets all lines.
pair_leads : (system : System) (work : Work) (c : ℕ) (pairs : List Line) → c < system.columns → AllByRecursion (λ line. line.equal ≡ false) work.lines
    → pairs_at c work.lines ≡ Some pairs → Leads system work.lines work.kept
    → Leads system (without_column c work.lines ++ pairs) (Bounded c (with_column c work.lines) ∷ work.kept)
unfolding point_from set_column
pair_leads system work c pairs l q made h point x d over meets e =
    let n = system.columns in
    let step = step_is (suc (length work.kept)) (point_from n work.kept) (set_column n point (Bounded c (with_column c work.lines))) x d e in
    let next = step.0 in
    let set = and_then_is (λ b. assigned_point c point (chosen_value b.lower b.upper)) (bounds_from n c point no_bounds (with_column c work.lines)) next step.1 in
    let bounds = set.0 in
    let w = chosen_value bounds.lower bounds.upper in
    let moved = assigned_moved c point w next over.positive (chosen_has_positive n c point work.lines bounds over.positive set.1) set.2 in
    let kept = all_kept_meet n c point next work.lines pairs bounds moved l over.whole over.positive q made (AllByRecursion-rest (MeetsLine n point) (without_column c work.lines) pairs meets) set.1 in
    let others = all_from (λ line. MeetsLine n point line × (not (is_nonzero (coefficient_at c line)) ≡ true)) (MeetsLine n next) (without_column c work.lines)
    (λ line k. still_meets n c point w next line moved l over.whole (zero_by_test (coefficient_at c line) (not_true (is_nonzero (coefficient_at c line)) k.1)) k.0)
    (all_both (MeetsLine n point) (λ line. not (is_nonzero (coefficient_at c line)) ≡ true) (without_column c work.lines)
    (AllByRecursion-front (MeetsLine n point) (without_column c work.lines) pairs meets)
    (filter_all (λ line. not (is_nonzero (coefficient_at c line))) work.lines)) in
    h next x d (moved_over n c point w next moved over) (all_parts (MeetsLine n next) (λ line. is_nonzero (coefficient_at c line)) work.lines kept others) step.2

-- ---- a stage

-- What follows a stage leads where its lines do.
follows_leads : (system : System) (work : Work) (kept : Kept) (made : ℕ) (o : Option (List Line))
    → ((lines : List Line) → o ≡ Some lines → Leads system lines (kept ∷ work.kept)) → NextLeads system (follows work kept made o)
follows_leads system work kept made None h = λ x d e. absurd cc
follows_leads system work kept made (Some lines) h = h lines refl

-- A stage with an equality leads back.
equality_stage_leads : (system : System) (work : Work) (equality : Line) → find (λ line. line.equal) work.lines ≡ Some equality
    → equality.equal ≡ true → has_variable system.columns equality ≡ true → Leads system work.lines work.kept
    → NextLeads system (equality_stage system work equality)
unfolding equality_stage
equality_stage_leads system work equality e t v h =
    let c = lowest_column system.columns equality in
    follows_leads system work (Solved c equality) work.made (every (map (substituted_line c equality) (without_equality work.lines)))
    (λ lines m. equality_leads system work equality lines e t v m h)

-- A stage with pairs leads back.
pair_stage_leads : (system : System) (work : Work) → lowest_of system.columns work.lines < system.columns
    → AllByRecursion (λ line. line.equal ≡ false) work.lines → Leads system work.lines work.kept → NextLeads system (pair_stage system work)
unfolding pair_stage
pair_stage_leads system work l q h = by_limit (are_too_many system made) where
  c : ℕ
  c = lowest_of system.columns work.lines

  made : ℕ
  made = work.made + length (positives c work.lines) * length (negatives c work.lines)

  by_limit : (b : Bool) → NextLeads system (cond b (Ends (Leaves (suc (length work.kept)) Rows))
      (follows work (Bounded c (with_column c work.lines)) made (option_map (λ pairs. without_column c work.lines ++ pairs) (pairs_at c work.lines))))
  by_limit true = λ x d e. absurd cc
  by_limit false = follows_leads system work (Bounded c (with_column c work.lines)) made (option_map (λ pairs. without_column c work.lines ++ pairs) (pairs_at c work.lines))
      (λ lines e. let split = appended (without_column c work.lines) (pairs_at c work.lines) lines e in
      subst (λ (all : List Line). Leads system all (Bounded c (with_column c work.lines) ∷ work.kept)) split.2 (pair_leads system work c split.0 l q split.1 h))

-- To take a column out leads back.
take_column_out-leads : (system : System) (work : Work) (line : Line) (lines : List Line) → work.lines ≡ line ∷ lines → AllVary system.columns work.lines
    → Leads system work.lines work.kept → NextLeads system (take_column_out system work)
unfolding take_column_out
take_column_out-leads system work line lines s v h = at (find (λ line. line.equal) work.lines) refl where
  n : ℕ
  n = system.columns

  at : (o : Option Line) → find (λ line. line.equal) work.lines ≡ o → NextLeads system (take_column_out_by system work o)
  at None e = pair_stage_leads system work
      (subst (λ (all : List Line). IsOpen n all_open (lowest_of n all)) (sym s)
      (lowest_of_open n all_open line lines (all_within n (line ∷ lines)) (subst (λ (all : List Line). AllVary n all) s v))).0
      (none_found (λ line. line.equal) work.lines e) h
  at (Some equality) e =
      let k = found (λ l. has_variable n l ≡ true) (λ line. line.equal) work.lines equality v e in
      equality_stage_leads system work equality e k.1 k.0 h

-- The test behind a stage leads back.
then_constant_test-leads : (system : System) (next : Next) → NextLeads system next → NextLeads system (then_constant_test system next)
then_constant_test-leads system (Goes work) h = constant_test-leads system (length work.kept) work h
then_constant_test-leads system (Ends outcome) h = h

-- A stage leads back.
stage_leads : (system : System) (work : Work) (line : Line) (lines : List Line) → work.lines ≡ line ∷ lines → AllVary system.columns work.lines
    → Leads system work.lines work.kept → NextLeads system (stage system work)
unfolding stage
stage_leads system work line lines s v h = then_constant_test-leads system (take_column_out system work) (take_column_out-leads system work line lines s v h)

-- ---- the whole

-- where no line is left, the point at 0 is a start
start_leads : (system : System) (kept : List Kept) (x : List ℤ) (d : ℤ) → Leads system [] kept → point_of system.columns kept ≡ Point x d
    → IsRationalPoint system x d
start_leads system kept x d h e =
    h (record { numerators = replicate system.columns (pos 0); denominator = pos 1 }) x d (record { whole = length-replicate system.columns (pos 0); positive = omega (arith, linear) }) tt e

-- An end with a point leads back, or what goes on does.
ends_lead : (system : System) (f : ℕ → Bool) (more : Work → Outcome) (next : Next) (x : List ℤ) (d : ℤ)
    → ((work : Work) (c : ℕ) → IsOpen system.columns f c → AllWithin system.columns (close c f) work.lines → AllVary system.columns work.lines → Leads system work.lines work.kept → more work ≡ Point x d → IsRationalPoint system x d)
    → ClosesTested system.columns f next → NextLeads system next → or_ends more next ≡ Point x d → IsRationalPoint system x d
ends_lead system f more (Goes work) x d rest c h e = rest work c.0 c.1 c.2 c.3 h e
ends_lead system f more (Ends outcome) x d rest c h e = absurd (h x d e)

-- A point at the end of the stages leads back to one of the system.
stages_lead : (fuel : ℕ) (system : System) (f : ℕ → Bool) (work : Work) (x : List ℤ) (d : ℤ) → count_open system.columns f ≤ fuel
    → AllWithin system.columns f work.lines → AllVary system.columns work.lines → Leads system work.lines work.kept
    → stages fuel system work ≡ Point x d → IsRationalPoint system x d
unfolding stages
stages_lead zero system f work x d l w v h e =
    start_leads system work.kept x d (subst (λ (lines : List Line). Leads system lines work.kept) (none_left system.columns f work.lines w v l) h) e
stages_lead (suc fuel) system f work x d l w v h e = at (stages_lead fuel system) work.lines refl e where
  at : ((g : ℕ → Bool) (next : Work) (x : List ℤ) (d : ℤ) → count_open system.columns g ≤ fuel → AllWithin system.columns g next.lines → AllVary system.columns next.lines → Leads system next.lines next.kept → stages fuel system next ≡ Point x d → IsRationalPoint system x d)
      → (lines : List Line) → work.lines ≡ lines → goes_on system work (stages fuel system) lines ≡ Point x d → IsRationalPoint system x d
  at rest [] s e = start_leads system work.kept x d (subst (λ (lines : List Line). Leads system lines work.kept) s h) e
  at rest (line ∷ lines) s e =
      ends_lead system f (stages fuel system) (stage system work) x d
      (λ next c o a b m i. let less = close_falls system.columns c f o.0 o.1 in rest (close c f) next x d (omega arith) a b m i)
      (stage_closes system f work line lines s w v) (stage_leads system work line lines s v h) e

-- ---- the given rows

-- A difference that is right says that the sides are.
holds_over : (equal : Bool) (a b : ℤ) → Holds equal (a -ℤ b) → MatchBool equal (a ≡ b) (a ≤ℤ b)
holds_over true a b h = omega (arith, linear)
holds_over false a b h = omega (arith, linear)

-- A point that meets a given line meets its row.
given_meets : (system : System) (total k : ℕ) (row : Row) (point : RationalPoint) → length row.coefficients ≡ system.columns
    → MeetsLine system.columns point (given_line total k row) → MeetsOver row point.numerators point.denominator
given_meets system total k row point w h =
    let parts = given_parts system.columns total k row w in
    let moved : Holds row.equal (product_of row.coefficients point.numerators -ℤ row.bound *ℤ point.denominator) =
    subst (λ (xs : List ℤ). Holds row.equal (product_of xs point.numerators -ℤ row.bound *ℤ point.denominator)) parts.0
    (subst (λ t. Holds row.equal (product_of (take system.columns (given_line total k row).numbers) point.numerators -ℤ t *ℤ point.denominator)) parts.1 h) in
    holds_over row.equal (product_of row.coefficients point.numerators) (row.bound *ℤ point.denominator) moved

-- A point that meets all given lines meets all rows.
given_meet : (system : System) (total k : ℕ) (rows : List Row) (point : RationalPoint)
    → AllByRecursion (λ row. length row.coefficients ≡ system.columns) rows → AllMeet system.columns point (given_lines total k rows)
    → AllByRecursion (λ row. MeetsOver row point.numerators point.denominator) rows
unfolding given_lines
given_meet system total k [] point w h = tt
given_meet system total k (row ∷ rows) point w h = (given_meets system total k row point w.0 h.0, given_meet system total (suc k) rows point w.1 h.1)

-- A point of the given lines is one of the system.
given_leads : (system : System) → HasWidths system → Leads system (given_lines (length system.rows) 0 system.rows) []
unfolding point_from
given_leads system w point x d over meets e =
    let same_x : point.numerators ≡ x = cc in
    let same_d : point.denominator ≡ d = cc in
    subst (λ (z : List ℤ). IsRationalPoint system z d) same_x (subst (λ (k : ℤ). IsRationalPoint system point.numerators k) same_d
    (record { whole = over.whole; positive = over.positive; meets = given_meet system (length system.rows) 0 system.rows point w meets }))

-- A point as the outcome from the beginning is one of the system.
outcome_by : (system : System) (next : Next) (x : List ℤ) (d : ℤ) → Varies system next → NextLeads system next
    → or_ends (stages system.columns system) next ≡ Point x d → IsRationalPoint system x d
outcome_by system (Goes work) x d v h e = stages_lead system.columns system all_open work x d (count_all system.columns) (all_within system.columns work.lines) v h e
outcome_by system (Ends outcome) x d v h e = absurd (h x d e)

-- A point as the outcome is one of the system.
pub point_is_sound : (system : System) (x : List ℤ) (d : ℤ) → HasWidths system → outcome_of system ≡ Point x d → IsRationalPoint system x d
unfolding outcome_within beginning
point_is_sound system x d w e =
    outcome_by system (beginning system) x d (beginning-varies system)
    (constant_test-leads system 0 (record { lines = given_lines (length system.rows) 0 system.rows; kept = []; made = 0 }) (given_leads system w)) e
