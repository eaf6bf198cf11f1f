-- The multipliers of a line, as they are set.
use Rattle.std.proofs.Common.{◌≡◌, ℕ, zero, suc, ◌+◌, ◌<◌, ◌≤◌, refl, sym, ◌∙◌, ap, ap₂, subst, arith, List, [], ◌∷◌, map, drop, length, get_or, replicate, Option, Some, None, cond}
use Rattle.std.specs.Prelude.{ℤ, pos, neg_ℤ, ◌*ℤ◌, slice_set, is_none}
use Rattle.std.specs.List.{AllByRecursion}
use Rattle.std.proofs.lemmas.List.{drop_more, drop_all, length-map}
use Rattle.thr_base.specs.Number.{Fits}
use Rattle.lin_rows.specs.System.{System, HasWidths}
use Rattle.lin_rows.proofs.Lists.{AllByRecursion-map, AllByRecursion-at, AllByRecursion-drop, AllByRecursion-set}
use Rattle.lin_rows.proofs.Numbers.{Fits-neg, zero_fits}
use Rattle.farkas_cert.specs.Divided.{divided_numbers}
use Rattle.farkas_cert.specs.Line.{nonzero_pairs}
use Rattle.tableau_elim.specs.Tableau.{Line, divisor_of}
use Rattle.std.specs.Int.{int_signum}
use Rattle.std.proofs.lemmas.Int.{ints}
use Rattle.lin_rows.specs.Row.{multiple_of}
use Rattle.farkas_cert.specs.Proof.{Proves, overflow_of}
use Rattle.tableau_elim.specs.Rounds.{with_multiplier, with_places, signed_multipliers, multipliers, refuted_outcome, outcome_of, Refuted, GaveUp}
use Rattle.tableau_elim.proofs.Certificates.{certificate_is_sound}
use Rattle.tableau_elim.specs.declared.variable.Variable.{Variable}
use Rattle.tableau_elim.specs.declared.variable.Variable.TheVariants.{Column, Slack}
use Rattle.tableau_elim.specs.declared.standing.Side.{Side}
use Rattle.tableau_elim.specs.declared.standing.Side.TheVariants.{High, Low}
use Rattle.tableau_elim.specs.declared.tableau.Tableau.{Tableau as HeldTableau}
use Rattle.tableau_elim.specs.inside.Held.{tableau_of}
use Rattle.tableau_elim.specs.inside.Lines.{line_at, IsSound}
use Rattle.tableau_elim.proofs.Lines.{no_line, length-lines}

pub set_past : (xs : List ℤ) (i : ℕ) (y : ℤ) → length xs ≤ i → xs ≡ slice_set xs i y
set_past [] i y h = refl
set_past (x ∷ xs) zero y h = absurd (omega arith)
set_past (x ∷ xs) (suc i) y h = ap (λ ys. x ∷ ys) (set_past xs i y (omega arith))

-- ---- the places

with_step : (x : Variable) (places : List Variable) (t : ℤ) (ts ms : List ℤ) → with_places (x ∷ places) (t ∷ ts) ms ≡ with_places places ts (with_multiplier x (neg_ℤ t) ms)
unfolding with_places
with_step x places t ts ms = refl

pub with_goes_on : (places : List Variable) (ts ms next whole : List ℤ) (k : ℕ) (x : Variable) (t : ℤ) → k < length places → length ts ≡ length places
    → get_or places k x ≡ x → t ≡ neg_ℤ (get_or ts k (pos 0)) → next ≡ with_multiplier x t ms
    → with_places (drop k places) (drop k ts) ms ≡ whole → with_places (drop (k + 1) places) (drop (k + 1) ts) next ≡ whole
with_goes_on places ts ms next whole k x t h l e f n i =
    let xs = drop_more places k x h ∙ ap (λ y. y ∷ drop (k + 1) places) e in
    let ys = drop_more ts k (pos 0) (omega arith) in
    let before : with_places (x ∷ drop (k + 1) places) (get_or ts k (pos 0) ∷ drop (k + 1) ts) ms ≡ whole = rw (← xs, ← ys) i in
    ap (with_places (drop (k + 1) places) (drop (k + 1) ts)) (n ∙ ap (λ t. with_multiplier x t ms) f)
    ∙ sym (with_step x (drop (k + 1) places) (get_or ts k (pos 0)) (drop (k + 1) ts) ms) ∙ before

with_none : (places : List Variable) (ts ms : List ℤ) → length places ≡ 0 → with_places places ts ms ≡ ms
unfolding with_places
with_none [] ts ms e = refl
with_none (x ∷ places) ts ms e = absurd (omega arith)

pub with_ends : (places : List Variable) (ts ms whole : List ℤ) (k : ℕ) → length places ≤ k → with_places (drop k places) (drop k ts) ms ≡ whole → ms ≡ whole
with_ends places ts ms whole k h i = sym (with_none (drop k places) (drop k ts) ms (ap length (drop_all k places h))) ∙ i

-- ---- they fit, and there are as many as rows

multiplier_fits : (x : Variable) (m : ℤ) (ms : List ℤ) → Fits m → AllByRecursion Fits ms → AllByRecursion Fits (with_multiplier x m ms)
multiplier_fits (Column c) m ms h k = k
multiplier_fits (Slack s) m ms h k = AllByRecursion-set Fits ms s.row m h k

pub places_fit : (places : List Variable) (ts ms : List ℤ) → AllByRecursion Fits ts → AllByRecursion Fits ms → AllByRecursion Fits (with_places places ts ms)
unfolding with_places
places_fit [] ts ms h k = k
places_fit (x ∷ places) [] ms h k = k
places_fit (x ∷ places) (t ∷ ts) ms h k = places_fit places ts (with_multiplier x (neg_ℤ t) ms) h.1 (multiplier_fits x (neg_ℤ t) ms (Fits-neg t h.0) k)

zeros_fit : (n : ℕ) → AllByRecursion Fits (replicate n (pos 0))
zeros_fit zero = tt
zeros_fit (suc n) = (zero_fits, zeros_fit n)

-- before the sign
abbrev pub unsigned_multipliers : ℕ → List Variable → Line → List ℤ
unsigned_multipliers rows places line = with_places places (drop 1 line.numbers) (with_multiplier line.basic (divisor_of line) (replicate rows (pos 0)))

pub unsigned_fit : (rows : ℕ) (places : List Variable) (line : Line) → AllByRecursion Fits line.numbers → Fits (divisor_of line)
    → AllByRecursion Fits (unsigned_multipliers rows places line)
unsigned_fit rows places line h d =
    places_fit places (drop 1 line.numbers) (with_multiplier line.basic (divisor_of line) (replicate rows (pos 0))) (AllByRecursion-drop Fits 1 line.numbers h)
    (multiplier_fits line.basic (divisor_of line) (replicate rows (pos 0)) d (zeros_fit rows))

signed_fit : (side : Side) (ms : List ℤ) → AllByRecursion Fits ms → AllByRecursion Fits (signed_multipliers side ms)
signed_fit High ms h = h
signed_fit Low ms h = AllByRecursion-map Fits Fits neg_ℤ Fits-neg ms h

pub multipliers_are : (side : Side) (rows : ℕ) (places : List Variable) (line : Line) → signed_multipliers side (unsigned_multipliers rows places line) ≡ multipliers side rows places line
unfolding multipliers
multipliers_are side rows places line = refl

pub multipliers_fit : (side : Side) (rows : ℕ) (places : List Variable) (line : Line) → AllByRecursion Fits line.numbers → Fits (divisor_of line)
    → AllByRecursion Fits (multipliers side rows places line)
multipliers_fit side rows places line h d =
    subst (λ (xs : List ℤ). AllByRecursion Fits xs) (multipliers_are side rows places line) (signed_fit side (unsigned_multipliers rows places line) (unsigned_fit rows places line h d))

long_set : (xs : List ℤ) (i : ℕ) (y : ℤ) → length (slice_set xs i y) ≡ length xs
long_set [] i y = refl
long_set (x ∷ xs) zero y = refl
long_set (x ∷ xs) (suc i) y = ap suc (long_set xs i y)

long_multiplier : (x : Variable) (m : ℤ) (ms : List ℤ) → length (with_multiplier x m ms) ≡ length ms
long_multiplier (Column c) m ms = refl
long_multiplier (Slack s) m ms = long_set ms s.row m

long_places : (places : List Variable) (ts ms : List ℤ) → length (with_places places ts ms) ≡ length ms
unfolding with_places
long_places [] ts ms = refl
long_places (x ∷ places) [] ms = refl
long_places (x ∷ places) (t ∷ ts) ms = long_places places ts (with_multiplier x (neg_ℤ t) ms) ∙ long_multiplier x (neg_ℤ t) ms

long_zeros : (n : ℕ) → length (replicate n (pos 0)) ≡ n
long_zeros zero = refl
long_zeros (suc n) = ap suc (long_zeros n)

long_signed : (side : Side) (ms : List ℤ) → length (signed_multipliers side ms) ≡ length ms
long_signed High ms = refl
long_signed Low ms = length-map ms neg_ℤ

pub long_multipliers : (side : Side) (rows : ℕ) (places : List Variable) (line : Line) → length (multipliers side rows places line) ≡ rows
long_multipliers side rows places line =
    ap length (sym (multipliers_are side rows places line)) ∙ long_signed side (unsigned_multipliers rows places line)
    ∙ long_places places (drop 1 line.numbers) (with_multiplier line.basic (divisor_of line) (replicate rows (pos 0)))
    ∙ long_multiplier line.basic (divisor_of line) (replicate rows (pos 0)) ∙ long_zeros rows

-- ---- the steps of the program

pub get_default : {X : Type 0} (xs : List X) (k : ℕ) (d e : X) → k < length xs → get_or xs k d ≡ get_or xs k e
get_default [] k d e h = absurd (omega arith)
get_default (x ∷ xs) zero d e h = refl
get_default (x ∷ xs) (suc k) d e h = get_default xs k d e (omega arith)

pub all_turned : (xs : List ℤ) → multiple_of (neg_ℤ (int_signum (pos 1))) xs ≡ map neg_ℤ xs
all_turned [] = refl
all_turned (x ∷ xs) = let here : neg_ℤ (int_signum (pos 1)) *ℤ x ≡ neg_ℤ x = omega (arith, ints) in ap₂ (λ y ys. y ∷ ys) here (all_turned xs)

pub weighed : (side : Side) (places : List Variable) (line : Line) (old set signed_ones new : List ℤ) → old ≡ replicate (length old) (pos 0)
    → set ≡ with_places places (drop 1 line.numbers) (with_multiplier line.basic (divisor_of line) old) → signed_ones ≡ signed_multipliers side set → new ≡ divided_numbers signed_ones
    → new ≡ divided_numbers (multipliers side (length old) places line)
weighed side places line old set signed_ones new zeros s t n =
    let all : set ≡ unsigned_multipliers (length old) places line = s ∙ ap (λ ms. with_places places (drop 1 line.numbers) (with_multiplier line.basic (divisor_of line) ms)) zeros in
    n ∙ ap divided_numbers (t ∙ ap (signed_multipliers side) all ∙ multipliers_are side (length old) places line)

pub set_fit : (places : List Variable) (line : Line) (old set : List ℤ) → AllByRecursion Fits line.numbers → Fits (divisor_of line) → old ≡ replicate (length old) (pos 0)
    → set ≡ with_places places (drop 1 line.numbers) (with_multiplier line.basic (divisor_of line) old) → AllByRecursion Fits set
set_fit places line old set h d zeros s =
    subst (λ (xs : List ℤ). AllByRecursion Fits xs) (sym (s ∙ ap (λ ms. with_places places (drop 1 line.numbers) (with_multiplier line.basic (divisor_of line) ms)) zeros))
    (unsigned_fit (length old) places line h d)

pub sign_fit : (side : Side) (set signed_ones : List ℤ) → AllByRecursion Fits set → signed_ones ≡ signed_multipliers side set → AllByRecursion Fits signed_ones
sign_fit side set signed_ones h e = subst (λ (xs : List ℤ). AllByRecursion Fits xs) (sym e) (signed_fit side set h)

pub zeros_are : (n : ℕ) (xs : List ℤ) → xs ≡ replicate n (pos 0) → xs ≡ replicate (length xs) (pos 0)
zeros_are n xs e = e ∙ ap (λ n. replicate n (pos 0)) (sym (ap length e ∙ long_zeros n))

-- ---- the answer by the check of the certificate

pub proved_is : (system : System) (side : Side) (places : List Variable) (line : Line) (pairs : List (ℕ × ℤ)) → pairs ≡ nonzero_pairs 1 (divided_numbers (multipliers side (length system.rows) places line))
    → Proves system pairs → Refuted pairs ≡ refuted_outcome system side places line
unfolding refuted_outcome
proved_is system side places line pairs e p =
    let fits : overflow_of system.rows (nonzero_pairs 1 (divided_numbers (multipliers side (length system.rows) places line))) ≡ None = ap (overflow_of system.rows) (sym e) ∙ p.fits in
    ap Refuted e ∙ rw fits refl

pub unproved_is : (system : System) (side : Side) (places : List Variable) (line : Line) (pairs : List (ℕ × ℤ)) → HasWidths system
    → pairs ≡ nonzero_pairs 1 (divided_numbers (multipliers side (length system.rows) places line)) → outcome_of system ≡ refuted_outcome system side places line → (¬ Proves system pairs)
    → GaveUp ≡ outcome_of system
unfolding refuted_outcome
unproved_is system side places line pairs w e leads n =
    at (overflow_of system.rows (nonzero_pairs 1 (divided_numbers (multipliers side (length system.rows) places line)))) leads
  where
    at : (o : Option (ℕ × ℕ)) → outcome_of system ≡ cond (is_none o) (Refuted (nonzero_pairs 1 (divided_numbers (multipliers side (length system.rows) places line)))) GaveUp → GaveUp ≡ outcome_of system
    at (Some place) leads = sym leads
    at None leads = absurd (n (certificate_is_sound system pairs w (leads ∙ ap Refuted (sym e))).0)

-- ---- equal parts

pub with_same : (places more : List Variable) (ts us ms ns : List ℤ) → places ≡ more → ts ≡ us → ms ≡ ns → with_places places ts ms ≡ with_places more us ns
with_same places more ts us ms ns e f g = rw (e, f, g) refl

pub multiplier_same : (x y : Variable) (m n : ℤ) (ms : List ℤ) → x ≡ y → m ≡ n → with_multiplier x m ms ≡ with_multiplier y n ms
multiplier_same x y m n ms e f = ap₂ (λ x m. with_multiplier x m ms) e f

pub divisor_fit : (line : Line) → AllByRecursion Fits line.numbers → Fits (divisor_of line)
divisor_fit line h = at line.numbers h where
  at : (xs : List ℤ) → AllByRecursion Fits xs → Fits (get_or xs 0 (pos 1))
  at [] h = omega arith
  at (x ∷ xs) h = h.0

-- a line of what is held is sound
pub held_line : (held : HeldTableau) (k : ℕ) → k < length held.basics.items → IsSound (line_at k (tableau_of held))
held_line held k l =
    AllByRecursion-at IsSound (tableau_of held).lines k no_line held.sound (omega (arith, length-lines (suc (length held.places.items)) held.basics.items held.numbers.items))
