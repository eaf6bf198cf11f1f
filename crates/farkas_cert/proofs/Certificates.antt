-- The certificate with which the elimination ends refutes the system, and is reduced.
use Rattle.std.proofs.Common.{◌≡◌, ℕ, zero, suc, ◌+◌, ◌*◌, refl, arith, subst, List, [], ◌∷◌, ◌++◌, map, length, Bool, true, false, cond, Some, None, Option}
use Rattle.std.specs.Prelude.{is_none, ℤ, pos, negsuc, neg_ℤ, ◌≤ℤ◌, ◌*ℤ◌, ⊤, unsigned_abs, find, filter, int_lt, not, flat_map, replicate}
use Rattle.std.specs.Option.{option_map}
use Rattle.std.proofs.lemmas.Int.{ints}
use Rattle.std.specs.Int.{int_signum}
use Rattle.std.specs.List.{AllByRecursion}
use Rattle.lin_rows.specs.System.{System, HasWidths}
use Rattle.lin_rows.proofs.Lists.{AllByRecursion-append}
use Rattle.farkas_cert.specs.Cert.{Pairs}
use Rattle.farkas_cert.specs.Reduced.{IsReduced}
use Rattle.lin_rows.specs.Gcd.{gcd}
use Rattle.farkas_cert.specs.Divided.{over}
use Rattle.farkas_cert.specs.Line.{Line, coefficient_at, given_lines, is_false, has_variable, refuting_multipliers, nonzero_pairs, is_nonzero, made_line, lowest_column, lowest_of}
use Rattle.farkas_cert.specs.Proof.{Proves, overflow_of}
use Rattle.farkas_cert.specs.BackSubstitution.{RationalPoint, Kept, Solved, Bounded, set_column}
use Rattle.farkas_cert.specs.Elimination.{Outcome, Refuted, Point, Leaves, Work, Next, Goes, Ends, every, refutation_outcome, constant_test, constant_test_by, follows, without_equality, substituted_line, equality_stage, paired_line, positives, negatives, with_column, without_column, pairs_at, are_too_many, pair_stage, take_column_out, take_column_out_by, stage, then_constant_test, point_from, or_leaves, or_ends, goes_on, stages, beginning, outcome_of, outcome_within}
use Rattle.farkas_cert.specs.declared.answers.LeaveKind.TheVariants.{Overflow, Rows}
use Rattle.farkas_cert.proofs.Integers.{linear}
use Rattle.farkas_cert.proofs.Derived.{IsDerived, derived_by_equality, derived_by_pair}
use Rattle.farkas_cert.proofs.Lists.{all_filter, all_map, all_flat_map, found, all_every, filter_all, all_both}
use Rattle.farkas_cert.proofs.Refuting.{IsProvedBy, false_refutes, all_given_derived}

-- each line is derived from the given rows
abbrev pub AllDerived : System → List Line → Type 0
AllDerived system lines = AllByRecursion (IsDerived system) lines

-- what is shown of each outcome
abbrev pub IsSound : System → Outcome → Type 0
IsSound system (Refuted pairs) = Proves system pairs × IsReduced pairs
IsSound system (Point x d) = ⊤
IsSound system (Leaves stage kind) = ⊤

-- the lines that are left are derived, or the end is sound
abbrev pub IsSoundNext : System → Next → Type 0
IsSoundNext system (Goes work) = AllDerived system work.lines
IsSoundNext system (Ends outcome) = IsSound system outcome

-- ---- the constant test

-- A refutation by multipliers that prove is sound.
sound_refuted : (system : System) (number : ℕ) (ms : List ℤ) → IsProvedBy system ms → IsSound system (refutation_outcome system number ms)
sound_refuted system number ms h = by_fit (overflow_of system.rows (nonzero_pairs 1 ms)) refl where
  by_fit : (o : Option (ℕ × ℕ)) → overflow_of system.rows (nonzero_pairs 1 ms) ≡ o → IsSound system (cond (is_none o) (Refuted (nonzero_pairs 1 ms)) (Leaves number Overflow))
  by_fit None e = (record { refutes = h.0; fits = e }, h.1)
  by_fit (Some place) e = tt

-- The test for false lines keeps what is known.
constant_test-sound : (system : System) (number : ℕ) (work : Work) → AllDerived system work.lines → IsSoundNext system (constant_test system number work)
unfolding constant_test
constant_test-sound system number work h = by_found (find (is_false system.columns) work.lines) refl where
  by_found : (o : Option Line) → find (is_false system.columns) work.lines ≡ o → IsSoundNext system (constant_test_by system number work o)
  by_found None e = all_filter (IsDerived system) (has_variable system.columns) work.lines h
  by_found (Some line) e =
      let at = found (IsDerived system) (is_false system.columns) work.lines line h e in
      sound_refuted system number (refuting_multipliers system.columns line) (false_refutes system line at.0 at.1)

-- ---- the stages

-- A quotient of a number from 0 on is from 0 on.
over_not_negative : (g : ℕ) (x : ℤ) → pos 0 ≤ℤ x → pos 0 ≤ℤ over g x
over_not_negative g (pos n) h = omega (arith, linear)
over_not_negative g (negsuc n) h = absurd (omega (arith, linear))

-- The lines without the equality are derived.
without_equality_derived : (system : System) (lines : List Line) → AllDerived system lines → AllDerived system (without_equality lines)
unfolding without_equality
without_equality_derived system [] h = tt
without_equality_derived system (line ∷ lines) h = at (without_equality_derived system lines h.1) line.equal where
  at : AllDerived system (without_equality lines) → (b : Bool) → AllDerived system (cond b lines (line ∷ without_equality lines))
  at rest true = h.1
  at rest false = (h.0, rest)

-- A line in which an equality is put in is derived.
substituted_derived : (system : System) (c : ℕ) (equality line next : Line) → equality.equal ≡ true → IsDerived system equality
    → IsDerived system line → substituted_line c equality line ≡ Some next → IsDerived system next
unfolding substituted_line
substituted_derived system c equality line next t h k e = at (is_nonzero (coefficient_at c line)) e where
  p : ℤ
  p = coefficient_at c equality

  q : ℤ
  q = coefficient_at c line

  g : ℕ
  g = gcd (unsigned_abs p) (unsigned_abs q)

  at : (b : Bool)
      → cond b (made_line line.equal (over g (pos (unsigned_abs p))) line.numbers (neg_ℤ (over g (int_signum p *ℤ q))) equality.numbers) (Some line) ≡ Some next
      → IsDerived system next
  at true e = derived_by_equality system (over g (pos (unsigned_abs p))) line (neg_ℤ (over g (int_signum p *ℤ q))) equality next (over_not_negative g (pos (unsigned_abs p)) (omega (arith, linear))) t k h e
  at false e = let same : line ≡ next = cc in rw (← same) k

-- What follows a stage is known where its lines are derived.
follows_sound : (system : System) (work : Work) (kept : Kept) (made : ℕ) (o : Option (List Line))
    → ((lines : List Line) → o ≡ Some lines → AllDerived system lines) → IsSoundNext system (follows work kept made o)
follows_sound system work kept made None h = tt
follows_sound system work kept made (Some lines) h = h lines refl

-- A stage with an equality keeps what is known.
equality_stage_sound : (system : System) (work : Work) (equality : Line) → equality.equal ≡ true → IsDerived system equality
    → AllDerived system work.lines → IsSoundNext system (equality_stage system work equality)
unfolding equality_stage
equality_stage_sound system work equality t e h =
    let c = lowest_column system.columns equality in
    let rest = without_equality work.lines in
    follows_sound system work (Solved c equality) work.made (every (map (substituted_line c equality) rest))
    (λ lines m. all_every (IsDerived system) (map (substituted_line c equality) rest) lines
    (all_map (IsDerived system) (λ o. (line : Line) → o ≡ Some line → IsDerived system line) (substituted_line c equality) rest
    (λ line d next s. substituted_derived system c equality line next t e d s)
    (without_equality_derived system work.lines h)) m)

-- a derived line with a positive, or with a negative coefficient at c
abbrev IsPositive : System → ℕ → Line → Type 0
IsPositive system c line = IsDerived system line × (int_lt (pos 0) (coefficient_at c line) ≡ true)

-- the line is derived, and its coefficient is negative
abbrev IsNegative : System → ℕ → Line → Type 0
IsNegative system c line = IsDerived system line × (int_lt (coefficient_at c line) (pos 0) ≡ true)

-- What passes a test is known, and passes it.
pub all_kept : {X : Type 0} (P : X → Type 0) (p : X → Bool) (xs : List X) → AllByRecursion P xs
    → AllByRecursion (λ x. P x × (p x ≡ true)) (filter p xs)
all_kept P p xs h = all_both P (λ x. p x ≡ true) (filter p xs) (all_filter P p xs h) (filter_all p xs)

-- A line of a pair is derived.
paired_derived : (system : System) (c : ℕ) (positive negative next : Line) → IsPositive system c positive → IsNegative system c negative
    → paired_line c positive negative ≡ Some next → IsDerived system next
unfolding paired_line
paired_derived system c positive negative next h k e =
    let p = coefficient_at c positive in
    let q = neg_ℤ (coefficient_at c negative) in
    let g = gcd (unsigned_abs p) (unsigned_abs q) in
    let p_positive : pos 0 ≤ℤ p = omega (arith, ints, h.1) in
    let q_positive : pos 0 ≤ℤ q = omega (arith, ints, k.1) in
    derived_by_pair system (over g q) positive (over g p) negative next (over_not_negative g q q_positive) (over_not_negative g p p_positive) h.0 k.0 e

-- The lines of all pairs are derived.
pairs_derived : (system : System) (c : ℕ) (lines pairs : List Line) → AllDerived system lines → pairs_at c lines ≡ Some pairs
    → AllDerived system pairs
unfolding pairs_at
pairs_derived system c lines pairs h e =
    let IsMade : Option Line → Type 0 = λ o. (line : Line) → o ≡ Some line → IsDerived system line in
    all_every (IsDerived system) (flat_map (λ positive. map (paired_line c positive) (negatives c lines)) (positives c lines)) pairs
    (all_flat_map (IsPositive system c) IsMade (λ positive. map (paired_line c positive) (negatives c lines)) (positives c lines)
    (λ positive p. all_map (IsNegative system c) IsMade (paired_line c positive) (negatives c lines)
    (λ negative n next s. paired_derived system c positive negative next p n s)
    (all_kept (IsDerived system) (λ line. int_lt (coefficient_at c line) (pos 0)) lines h))
    (all_kept (IsDerived system) (λ line. int_lt (pos 0) (coefficient_at c line)) lines h))
    e

-- Lists behind a front are given with the front.
pub appended : (front : List Line) (o : Option (List Line)) (lines : List Line) → option_map (λ pairs. front ++ pairs) o ≡ Some lines
    → (pairs : List Line) × (o ≡ Some pairs) × (front ++ pairs ≡ lines)
appended front None lines e = absurd cc
appended front (Some pairs) lines e = (pairs, refl, cc)

-- A stage with pairs keeps what is known.
pair_stage_sound : (system : System) (work : Work) → AllDerived system work.lines → IsSoundNext system (pair_stage system work)
unfolding pair_stage
pair_stage_sound system work h = by_limit (are_too_many system made) where
  c : ℕ
  c = lowest_of system.columns work.lines

  made : ℕ
  made = work.made + length (positives c work.lines) * length (negatives c work.lines)

  by_limit : (b : Bool) → IsSoundNext system (cond b (Ends (Leaves (suc (length work.kept)) Rows))
      (follows work (Bounded c (with_column c work.lines)) made (option_map (λ pairs. without_column c work.lines ++ pairs) (pairs_at c work.lines))))
  by_limit true = tt
  by_limit false = follows_sound system work (Bounded c (with_column c work.lines)) made (option_map (λ pairs. without_column c work.lines ++ pairs) (pairs_at c work.lines))
      (λ lines e. let split = appended (without_column c work.lines) (pairs_at c work.lines) lines e in
      rw (← split.2) (AllByRecursion-append (IsDerived system) (without_column c work.lines) split.0
      (all_filter (IsDerived system) (λ line. not (is_nonzero (coefficient_at c line))) work.lines h)
      (pairs_derived system c work.lines split.0 h split.1)))

-- To take a column out keeps what is known.
take_column_out-sound : (system : System) (work : Work) → AllDerived system work.lines → IsSoundNext system (take_column_out system work)
unfolding take_column_out
take_column_out-sound system work h = by_found (find (λ line. line.equal) work.lines) refl where
  by_found : (o : Option Line) → find (λ line. line.equal) work.lines ≡ o → IsSoundNext system (take_column_out_by system work o)
  by_found None e = pair_stage_sound system work h
  by_found (Some equality) e =
      let at = found (IsDerived system) (λ line. line.equal) work.lines equality h e in
      equality_stage_sound system work equality at.1 at.0 h

-- The test behind a stage keeps what is known.
then_constant_test-sound : (system : System) (next : Next) → IsSoundNext system next → IsSoundNext system (then_constant_test system next)
then_constant_test-sound system (Goes work) h = constant_test-sound system (length work.kept) work h
then_constant_test-sound system (Ends outcome) h = h

-- A stage keeps what is known.
stage_sound : (system : System) (work : Work) → AllDerived system work.lines → IsSoundNext system (stage system work)
unfolding stage
stage_sound system work h = then_constant_test-sound system (take_column_out system work) (take_column_out-sound system work h)

-- ---- the whole

-- A point as the end is sound here, where only refutations are asked of.
point_sound : (system : System) (n : ℕ) (kept : List Kept) (point : RationalPoint) → IsSound system (point_from n kept point)
unfolding point_from
point_sound system n [] point = tt
point_sound system n (kept ∷ earlier) point = at (point_sound system n earlier) (set_column n point kept) where
  at : ((p : RationalPoint) → IsSound system (point_from n earlier p)) → (o : Option RationalPoint)
      → IsSound system (or_leaves (suc (length earlier)) (point_from n earlier) o)
  at rest None = tt
  at rest (Some p) = rest p

-- An end is sound, or what goes on is.
or_ends_sound : (system : System) (more : Work → Outcome) (next : Next) → ((work : Work) → AllDerived system work.lines → IsSound system (more work))
    → IsSoundNext system next → IsSound system (or_ends more next)
or_ends_sound system more (Goes work) f h = f work h
or_ends_sound system more (Ends outcome) f h = h

-- What goes on is sound where each stage behind is.
goes_on_sound : (system : System) (work : Work) (more : Work → Outcome) (lines : List Line)
    → ((next : Work) → AllDerived system next.lines → IsSound system (more next)) → AllDerived system work.lines
    → IsSound system (goes_on system work more lines)
goes_on_sound system work more [] f h = point_sound system system.columns work.kept (record { numerators = replicate system.columns (pos 0); denominator = pos 1 })
goes_on_sound system work more (line ∷ lines) f h = or_ends_sound system more (stage system work) f (stage_sound system work h)

-- The end of the stages is sound.
stages_sound : (fuel : ℕ) (system : System) (work : Work) → AllDerived system work.lines → IsSound system (stages fuel system work)
unfolding stages
stages_sound zero system work h = point_sound system system.columns work.kept (record { numerators = replicate system.columns (pos 0); denominator = pos 1 })
stages_sound (suc fuel) system work h = goes_on_sound system work (stages fuel system) work.lines (stages_sound fuel system) h

-- The outcome within so many stages is sound.
pub outcome_sound : (fuel : ℕ) (system : System) → HasWidths system → IsSound system (outcome_within fuel system)
unfolding outcome_within beginning
outcome_sound fuel system w =
    or_ends_sound system (stages fuel system) (beginning system) (stages_sound fuel system)
    (constant_test-sound system 0 (record { lines = given_lines (length system.rows) 0 system.rows; kept = []; made = 0 }) (all_given_derived system 0 system.rows refl w))

-- The certificate that is found refutes the system, and is reduced.
pub certificate_is_sound : (system : System) (pairs : Pairs) → HasWidths system → outcome_of system ≡ Refuted pairs
    → IsSound system (Refuted pairs)
certificate_is_sound system pairs w e = subst (λ (o : Outcome). IsSound system o) e (outcome_sound system.columns system w)
