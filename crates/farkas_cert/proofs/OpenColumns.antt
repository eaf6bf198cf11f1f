-- Each stage takes a column out of all lines, so that no line is left after as many stages as there are columns.
use Rattle.std.proofs.Common.{◌≡◌, ℕ, zero, suc, ◌+◌, ◌*◌, ◌<◌, ◌≤◌, min, refl, one-add, inl, inr, le_of_lt, ap, ◌∙◌, arith, subst, List, [], ◌∷◌, ◌++◌, map, length, take, get_or, Bool, true, false, cond, eqb, Some, None, Option}
use Rattle.std.specs.Prelude.{ℤ, pos, negsuc, neg_ℤ, ◌+ℤ◌, ◌*ℤ◌, ⊤, unsigned_abs, flat_map, fold, int_lt, not}
use Rattle.std.specs.Int.{int_signum}
use Rattle.std.specs.Option.{option_map}
use Rattle.std.specs.List.{AllByRecursion, list_any, position_or_len}
use Rattle.std.proofs.lemmas.Bool.{eqb-true, eqb-false, cases_lt}
use Rattle.std.proofs.Math.Nat.{min-eq_left, min-eq_right}
use Rattle.std.proofs.lemmas.Int.{ints}
use Rattle.lin_rows.specs.System.{System}
use Rattle.lin_rows.specs.Gcd.{gcd}
use Rattle.lin_rows.proofs.Lists.{AllByRecursion-append}
use Rattle.farkas_cert.specs.Divided.{over}
use Rattle.farkas_cert.specs.Line.{Line, coefficient_at, has_variable, is_nonzero, combination, made_line, lowest_column, lowest_of}
use Rattle.farkas_cert.specs.BackSubstitution.{Kept, Solved, Bounded}
use Rattle.farkas_cert.specs.Elimination.{Leaves, Work, Next, Goes, Ends, every, follows, without_equality, substituted_line, equality_stage, paired_line, positives, negatives, with_column, without_column, pairs_at, are_too_many, pair_stage}
use Rattle.farkas_cert.specs.declared.answers.LeaveKind.TheVariants.{Rows}
use Rattle.farkas_cert.proofs.Linear.{get-linear, of_combination, divided_vanishes}
use Rattle.farkas_cert.proofs.Derived.{made_is, made_vanishes}
use Rattle.farkas_cert.proofs.Eliminates.{substitution_cancels, pairing_cancels}
use Rattle.farkas_cert.proofs.Lists.{all_filter, all_both, all_from, all_map, all_flat_map, all_every}
use Rattle.farkas_cert.proofs.Certificates.{appended, all_kept}

-- ---- how many columns are open

-- how many of the first columns are open
unfoldable pub count_open : ℕ → (ℕ → Bool) → ℕ
count_open zero f = 0
count_open (suc n) f = cond (f n) (suc (count_open n f)) (count_open n f)

-- the open columns without one
abbrev pub close : ℕ → (ℕ → Bool) → ℕ → Bool
close c f j = cond (eqb j c) false (f j)

-- The closed column is not open.
pub closed_here : (c : ℕ) (f : ℕ → Bool) → close c f c ≡ false
closed_here c f = at (eqb c c) refl where
  at : (b : Bool) → eqb c c ≡ b → cond b false (f c) ≡ false
  at true e = refl
  at false e = absurd (eqb-false c c e refl)

-- Another column is open where it was.
closed_elsewhere : (c j : ℕ) (f : ℕ → Bool) → ¬ (j ≡ c) → close c f j ≡ f j
closed_elsewhere c j f n = at (eqb j c) refl where
  at : (b : Bool) → eqb j c ≡ b → cond b false (f j) ≡ f j
  at true e = absurd (n (eqb-true j c e))
  at false e = refl

-- A column above the first n does not count among them.
closed_above : (n c : ℕ) (f : ℕ → Bool) → n ≤ c → count_open n (close c f) ≡ count_open n f
unfolding count_open
closed_above zero c f h = refl
closed_above (suc n) c f h =
    let e = closed_elsewhere c n f (λ e. absurd (omega arith)) in
    let r = closed_above n c f (omega arith) in
    rw (e, r) refl

-- A count of one more, where the last column counts in both.
by_here : (b d : Bool) (m k : ℕ) → d ≡ b → suc m ≡ k → suc (cond d (suc m) m) ≡ cond b (suc k) k
by_here true true m k e r = ap suc r
by_here false false m k e r = r
by_here true false m k e r = absurd cc
by_here false true m k e r = absurd cc

-- An open column below n counts for one.
closed_below : (n c : ℕ) (f : ℕ → Bool) → c < n → f c ≡ true → suc (count_open n (close c f)) ≡ count_open n f
unfolding count_open
closed_below zero c f h t = absurd (omega arith)
closed_below (suc n) c f h t = at (closed_below n c f) (eqb n c) refl where
  at : (c < n → f c ≡ true → suc (count_open n (close c f)) ≡ count_open n f) → (b : Bool) → eqb n c ≡ b
      → suc (count_open (suc n) (close c f)) ≡ count_open (suc n) f
  at rest true e =
      let same = eqb-true n c e in
      let here : f n ≡ true = rw same t in
      let shut : close c f n ≡ false = rw same (closed_here c f) in
      rw (shut, here) (ap suc (closed_above n c f (omega arith)))
  at rest false e =
      let apart = eqb-false n c e in
      let l : c < n = omega (arith, apart) in
      let i = closed_elsewhere c n f apart in
      by_here (f n) (close c f n) (count_open n (close c f)) (count_open n f) i (rest l t)

-- Fewer columns are open after one is closed.
pub close_falls : (n c : ℕ) (f : ℕ → Bool) → c < n → f c ≡ true → count_open n (close c f) < count_open n f
close_falls n c f h t = omega (arith, closed_below n c f h t)

-- ---- lines within the open columns

-- A line has coefficients at open columns alone.
abbrev pub IsWithin : ℕ → (ℕ → Bool) → Line → Type 0
IsWithin n f line = (j : ℕ) → j < n → f j ≡ false → coefficient_at j line ≡ pos 0

-- each line has only open columns
abbrev pub AllWithin : ℕ → (ℕ → Bool) → List Line → Type 0
AllWithin n f lines = AllByRecursion (IsWithin n f) lines

-- each line has a column
abbrev pub AllVary : ℕ → List Line → Type 0
AllVary n lines = AllByRecursion (λ line. has_variable n line ≡ true) lines

-- A line without a column is within the others.
within_closed : (n c : ℕ) (f : ℕ → Bool) (line : Line) → IsWithin n f line → coefficient_at c line ≡ pos 0 → IsWithin n (close c f) line
within_closed n c f line h z j l e = at (eqb j c) refl e where
  at : (b : Bool) → eqb j c ≡ b → cond b false (f j) ≡ false → coefficient_at j line ≡ pos 0
  at true t e = rw (eqb-true j c t) z
  at false t e = h j l e

-- A number that does not pass the test of nonzero is 0.
pub zero_by_test : (x : ℤ) → is_nonzero x ≡ false → x ≡ pos 0
zero_by_test (pos zero) e = refl
zero_by_test (pos (suc n)) e = absurd cc
zero_by_test (negsuc n) e = absurd cc

-- What is not true is false.
not_false : (a : Bool) → not a ≡ true → a ≡ false
not_false true e = absurd cc
not_false false e = refl

-- The first number other than 0 is among the first, and other than 0.
lowest_by : (n : ℕ) (xs : List ℤ) → list_any is_nonzero (take n xs) ≡ true
    → (position_or_len is_nonzero (take n xs) < n) × (is_nonzero (get_or xs (position_or_len is_nonzero (take n xs)) (pos 0)) ≡ true)
lowest_by zero xs e = absurd cc
lowest_by (suc n) [] e = absurd cc
lowest_by (suc n) (pos zero ∷ xs) e = let r = lowest_by n xs e in (omega (arith, r.0), rw one-add r.1)
lowest_by (suc n) (pos (suc m) ∷ xs) e = (omega arith, refl)
lowest_by (suc n) (negsuc m ∷ xs) e = (omega arith, refl)

-- the lowest column of a line with a variable
pub lowest_is : (n : ℕ) (line : Line) → has_variable n line ≡ true
    → (lowest_column n line < n) × (is_nonzero (coefficient_at (lowest_column n line) line) ≡ true)
unfolding has_variable lowest_column
lowest_is n line e = lowest_by n line.numbers e

-- A column where a line has a coefficient is open.
open_where : (n c : ℕ) (f : ℕ → Bool) (line : Line) → IsWithin n f line → c < n → is_nonzero (coefficient_at c line) ≡ true → f c ≡ true
open_where n c f line h l e = at (f c) refl where
  at : (b : Bool) → f c ≡ b → b ≡ true
  at true t = refl
  at false t = let z = h c l t in absurd cc

-- a column that is there and open
abbrev pub IsOpen : ℕ → (ℕ → Bool) → ℕ → Type 0
IsOpen n f c = (c < n) × (f c ≡ true)

-- The lowest column of a line within open columns is open.
pub lowest_open : (n : ℕ) (f : ℕ → Bool) (line : Line) → IsWithin n f line → has_variable n line ≡ true → IsOpen n f (lowest_column n line)
lowest_open n f line h e = let l = lowest_is n line e in (l.0, open_where n (lowest_column n line) f line h l.0 l.1)

-- what holds of both numbers holds of the lesser
min_either : (P : ℕ → Type 0) (a b : ℕ) → P a → P b → P (min a b)
min_either P a b h k = elim (cases_lt a b) [ inl l ↦ rw (min-eq_left (le_of_lt l)) h | inr l ↦ rw (min-eq_right l) k ]

-- What holds of each line's lowest column holds of the least.
folded_keeps : (P : ℕ → Type 0) (n c : ℕ) (lines : List Line) → P c → AllByRecursion (λ line. P (lowest_column n line)) lines
    → P (fold (λ c line. min c (lowest_column n line)) c lines)
folded_keeps P n c [] h k = h
folded_keeps P n c (line ∷ lines) h k = folded_keeps P n (min c (lowest_column n line)) lines (min_either P c (lowest_column n line) h k.0) k.1

-- The lowest column of all lines is open.
pub lowest_of_open : (n : ℕ) (f : ℕ → Bool) (line : Line) (lines : List Line) → AllWithin n f (line ∷ lines) → AllVary n (line ∷ lines)
    → IsOpen n f (lowest_of n (line ∷ lines))
unfolding lowest_of
lowest_of_open n f line lines h v =
    let first = lowest_open n f line h.0 v.0 in
    let least : min n (lowest_column n line) ≡ lowest_column n line = min-eq_right (omega (arith, first.0)) in
    folded_keeps (IsOpen n f) n (min n (lowest_column n line)) lines (rw least first)
    (all_from (λ l. IsWithin n f l × (has_variable n l ≡ true)) (λ l. IsOpen n f (lowest_column n l)) lines (λ l h. lowest_open n f l h.0 h.1)
    (all_both (IsWithin n f) (λ l. has_variable n l ≡ true) lines h.1 v.1))

-- ---- a stage closes a column

-- what a stage leaves: lines within the columns that are open but for one
abbrev pub Closes : ℕ → (ℕ → Bool) → Next → Type 0
Closes n f (Goes work) = (c : ℕ) × IsOpen n f c × AllWithin n (close c f) work.lines
Closes n f (Ends outcome) = ⊤

-- and after the constant test such as have a variable
abbrev pub ClosesTested : ℕ → (ℕ → Bool) → Next → Type 0
ClosesTested n f (Goes work) = (c : ℕ) × IsOpen n f c × AllWithin n (close c f) work.lines × AllVary n work.lines
ClosesTested n f (Ends outcome) = ⊤

-- What follows a stage closes the column where its lines do.
closes_follows : (n : ℕ) (f : ℕ → Bool) (work : Work) (kept : Kept) (made c : ℕ) (o : Option (List Line)) → IsOpen n f c
    → ((lines : List Line) → o ≡ Some lines → AllWithin n (close c f) lines) → Closes n f (follows work kept made o)
closes_follows n f work kept made c None i h = tt
closes_follows n f work kept made c (Some lines) i h = (c, i, h lines refl)

-- A line that is made is within the open columns of both.
made_within : (n : ℕ) (f : ℕ → Bool) (equal : Bool) (a : ℤ) (left : Line) (b : ℤ) (right line : Line) → IsWithin n f left → IsWithin n f right
    → made_line equal a left.numbers b right.numbers ≡ Some line → IsWithin n f line
made_within n f equal a left b right line h k e j l t =
    let same = made_is equal a left.numbers b right.numbers line e in
    subst (λ (next : Line). coefficient_at j next ≡ pos 0) same
    (made_vanishes (λ xs. get_or xs j (pos 0)) (get-linear j) a left.numbers b right.numbers (h j l t) (k j l t))

-- A line that is made has no column that cancels.
made_loses : (c : ℕ) (equal : Bool) (a : ℤ) (left : Line) (b : ℤ) (right line : Line)
    → a *ℤ coefficient_at c left +ℤ b *ℤ coefficient_at c right ≡ pos 0 → made_line equal a left.numbers b right.numbers ≡ Some line
    → coefficient_at c line ≡ pos 0
made_loses c equal a left b right line h e =
    subst (λ (next : Line). coefficient_at c next ≡ pos 0) (made_is equal a left.numbers b right.numbers line e)
    (divided_vanishes (λ xs. get_or xs c (pos 0)) (get-linear c) (combination a left.numbers b right.numbers)
    (of_combination (λ xs. get_or xs c (pos 0)) (get-linear c) a left.numbers b right.numbers ∙ h))

-- A line in which an equality is put in is within the other columns.
pub substituted_closes : (n c : ℕ) (f : ℕ → Bool) (equality line next : Line) → IsWithin n f equality → IsWithin n f line
    → substituted_line c equality line ≡ Some next → IsWithin n (close c f) next
unfolding substituted_line
substituted_closes n c f equality line next h k e = at (is_nonzero q) refl e where
  p : ℤ
  p = coefficient_at c equality

  q : ℤ
  q = coefficient_at c line

  g : ℕ
  g = gcd (unsigned_abs p) (unsigned_abs q)

  at : (b : Bool) → is_nonzero q ≡ b
      → cond b (made_line line.equal (over g (pos (unsigned_abs p))) line.numbers (neg_ℤ (over g (int_signum p *ℤ q))) equality.numbers) (Some line) ≡ Some next
      → IsWithin n (close c f) next
  at true t e =
      within_closed n c f next
      (made_within n f line.equal (over g (pos (unsigned_abs p))) line (neg_ℤ (over g (int_signum p *ℤ q))) equality next k h e)
      (made_loses c line.equal (over g (pos (unsigned_abs p))) line (neg_ℤ (over g (int_signum p *ℤ q))) equality next (substitution_cancels p q t) e)
  at false t e = let same : line ≡ next = cc in subst (λ (l : Line). IsWithin n (close c f) l) same (within_closed n c f line k (zero_by_test q t))

-- A line of a pair is within the other columns.
pub paired_closes : (n c : ℕ) (f : ℕ → Bool) (positive negative next : Line) → IsWithin n f positive → IsWithin n f negative
    → int_lt (pos 0) (coefficient_at c positive) ≡ true → paired_line c positive negative ≡ Some next → IsWithin n (close c f) next
unfolding paired_line
paired_closes n c f positive negative next h k t e =
    let p = coefficient_at c positive in
    let q = neg_ℤ (coefficient_at c negative) in
    let g = gcd (unsigned_abs p) (unsigned_abs q) in
    within_closed n c f next
    (made_within n f false (over g q) positive (over g p) negative next h k e)
    (made_loses c false (over g q) positive (over g p) negative next (pairing_cancels p (coefficient_at c negative) (omega (arith, ints))) e)

-- The lines without the equality are within the open columns.
without_equality_within : (n : ℕ) (f : ℕ → Bool) (lines : List Line) → AllWithin n f lines → AllWithin n f (without_equality lines)
unfolding without_equality
without_equality_within n f [] h = tt
without_equality_within n f (line ∷ lines) h = at (without_equality_within n f lines h.1) line.equal where
  at : AllWithin n f (without_equality lines) → (b : Bool) → AllWithin n f (cond b lines (line ∷ without_equality lines))
  at rest true = h.1
  at rest false = (h.0, rest)

-- A stage with an equality closes its column.
pub equality_stage_closes : (system : System) (f : ℕ → Bool) (work : Work) (equality : Line) → IsWithin system.columns f equality
    → has_variable system.columns equality ≡ true → AllWithin system.columns f work.lines
    → Closes system.columns f (equality_stage system work equality)
unfolding equality_stage
equality_stage_closes system f work equality e v h =
    let n = system.columns in
    let c = lowest_column n equality in
    let rest = without_equality work.lines in
    closes_follows n f work (Solved c equality) work.made c (every (map (substituted_line c equality) rest)) (lowest_open n f equality e v)
    (λ lines m. all_every (IsWithin n (close c f)) (map (substituted_line c equality) rest) lines
    (all_map (IsWithin n f) (λ o. (line : Line) → o ≡ Some line → IsWithin n (close c f) line) (substituted_line c equality) rest
    (λ line d next s. substituted_closes n c f equality line next e d s)
    (without_equality_within n f work.lines h)) m)

-- The lines of all pairs are within the other columns.
pairs_close : (n c : ℕ) (f : ℕ → Bool) (lines pairs : List Line) → AllWithin n f lines → pairs_at c lines ≡ Some pairs → AllWithin n (close c f) pairs
unfolding pairs_at
pairs_close n c f lines pairs h e =
    let IsMade : Option Line → Type 0 = λ o. (line : Line) → o ≡ Some line → IsWithin n (close c f) line in
    all_every (IsWithin n (close c f)) (flat_map (λ positive. map (paired_line c positive) (negatives c lines)) (positives c lines)) pairs
    (all_flat_map (λ line. IsWithin n f line × (int_lt (pos 0) (coefficient_at c line) ≡ true)) IsMade (λ positive. map (paired_line c positive) (negatives c lines)) (positives c lines)
    (λ positive p. all_map (IsWithin n f) IsMade (paired_line c positive) (negatives c lines)
    (λ negative k next s. paired_closes n c f positive negative next p.0 k p.1 s)
    (all_filter (IsWithin n f) (λ line. int_lt (coefficient_at c line) (pos 0)) lines h))
    (all_kept (IsWithin n f) (λ line. int_lt (pos 0) (coefficient_at c line)) lines h))
    e

-- The lines without a column are within the other columns.
without_column_within : (n c : ℕ) (f : ℕ → Bool) (lines : List Line) → AllWithin n f lines → AllWithin n (close c f) (without_column c lines)
without_column_within n c f lines h =
    all_from (λ line. IsWithin n f line × (not (is_nonzero (coefficient_at c line)) ≡ true)) (IsWithin n (close c f)) (without_column c lines)
    (λ line k. within_closed n c f line k.0 (zero_by_test (coefficient_at c line) (not_false (is_nonzero (coefficient_at c line)) k.1)))
    (all_kept (IsWithin n f) (λ line. not (is_nonzero (coefficient_at c line))) lines h)

-- A stage with pairs closes its column.
pub pair_stage_closes : (system : System) (f : ℕ → Bool) (work : Work) → IsOpen system.columns f (lowest_of system.columns work.lines)
    → AllWithin system.columns f work.lines → Closes system.columns f (pair_stage system work)
unfolding pair_stage
pair_stage_closes system f work i h = by_limit (are_too_many system made) where
  c : ℕ
  c = lowest_of system.columns work.lines

  made : ℕ
  made = work.made + length (positives c work.lines) * length (negatives c work.lines)

  by_limit : (b : Bool) → Closes system.columns f (cond b (Ends (Leaves (suc (length work.kept)) Rows))
      (follows work (Bounded c (with_column c work.lines)) made (option_map (λ pairs. without_column c work.lines ++ pairs) (pairs_at c work.lines))))
  by_limit true = tt
  by_limit false = closes_follows system.columns f work (Bounded c (with_column c work.lines)) made c (option_map (λ pairs. without_column c work.lines ++ pairs) (pairs_at c work.lines)) i
      (λ lines e. let split = appended (without_column c work.lines) (pairs_at c work.lines) lines e in
      subst (λ (all : List Line). AllWithin system.columns (close c f) all) split.2
      (AllByRecursion-append (IsWithin system.columns (close c f)) (without_column c work.lines) split.0
      (without_column_within system.columns c f work.lines h)
      (pairs_close system.columns c f work.lines split.0 h split.1)))
