-- The certificate with which the tableau ends proves, and is reduced; more pivots change nothing.
use Rattle.std.proofs.Common.{◌≡◌, ℕ, zero, suc, ◌+◌, ◌<◌, ◌≤◌, refl, sym, ◌∙◌, ap, subst, add-one, arith, List, [], ◌∷◌, map, length, drop, get_or, Bool, true, false, cond, Option, Some, None}
use Rattle.std.specs.Prelude.{ℤ, pos, negsuc, ◌≢◌, is_none, filter, fold, not, unwrap_or, ◌&&◌, int_lt}
use Rattle.std.specs.List.{AllByRecursion, range_with_len}
use Rattle.std.specs.Option.{option_map}
use Rattle.lin_rows.specs.System.{System, HasWidths}
use Rattle.farkas_cert.specs.Cert.{Pairs}
use Rattle.farkas_cert.specs.Divided.{divided_numbers}
use Rattle.farkas_cert.specs.Elimination.{every}
use Rattle.farkas_cert.specs.Line.{nonzero_pairs, is_nonzero}
use Rattle.farkas_cert.specs.BackSubstitution.{Fraction}
use Rattle.farkas_cert.specs.Proof.{Proves, overflow_of}
use Rattle.farkas_cert.specs.Reduced.{IsReduced}
use Rattle.farkas_cert.proofs.Lists.{all_filter}
use Rattle.farkas_cert.proofs.Refuting.{IsProvedBy}
use Rattle.std.proofs.lemmas.Int.{ints}
use Rattle.std.proofs.lemmas.List.{drop-drop}
use Rattle.tableau_elim.specs.Tableau.{Line, Tableau, comes_before, number_at, pivot_at, pivoted_tableau, given_tableau}
use Rattle.tableau_elim.specs.Rounds.{Outcome, Refuted, Point, GaveUp, Found, Ends, Pivots, first_out, earlier, is_within, standing_of, is_suitable, suitable_from, lower, chosen_place, multipliers, refuted_outcome, point_of, point_over, or_gives_up, column_value, round_of, found_by_line, found_by_standing, found_by_place, at_end, after_pivot, goes_on, ended_within, most_pivots, outcome_of}
use Rattle.tableau_elim.specs.declared.variable.Variable.{Variable}
use Rattle.tableau_elim.specs.declared.variable.Variable.TheVariants.{Column, Slack}
use Rattle.tableau_elim.specs.declared.standing.Side.{Side}
use Rattle.tableau_elim.specs.declared.standing.Side.TheVariants.{High, Low}
use Rattle.tableau_elim.specs.declared.standing.Standing.{Standing}
use Rattle.tableau_elim.specs.declared.standing.Standing.TheVariants.{Within, Out, Unfit}
use Rattle.tableau_elim.proofs.Identities.{Values, Holds}
use Rattle.tableau_elim.proofs.Kept.{IsKept, IsKeptLine, kept_given, kept_by_pivot}
use Rattle.tableau_elim.proofs.Refutes.{line_refutes, get_drop}

-- ---- the line that is found

fold_keeps : (P : Line → Type 0) (best : Line) (lines : List Line) (line : Line) → P best → AllByRecursion P lines → fold earlier (Some best) lines ≡ Some line → P line
fold_keeps P best [] line h k e = let same : best ≡ line = cc in subst P same h
fold_keeps P best (x ∷ lines) line h k e = fold_keeps P (cond (comes_before x.basic best.basic) x best) lines line (picked (comes_before x.basic best.basic) h k.0) k.1 e where
  picked : (b : Bool) → P best → P x → P (cond b x best)
  picked true h k = k
  picked false h k = h

fold_among : (P : Line → Type 0) (lines : List Line) (line : Line) → AllByRecursion P lines → fold earlier None lines ≡ Some line → P line
fold_among P [] line k e = absurd cc
fold_among P (x ∷ lines) line k e = fold_keeps P x lines line k.0 k.1 e

pub first_among : (P : Line → Type 0) (tableau : Tableau) (line : Line) → AllByRecursion P tableau.lines → first_out tableau ≡ Some line → P line
unfolding first_out
first_among P tableau line h e =
    fold_among P (filter (λ line. not (is_within (standing_of tableau.places line))) tableau.lines) line
    (all_filter P (λ line. not (is_within (standing_of tableau.places line))) tableau.lines h) e

-- ---- the place that is chosen

nonzero_not : (t : ℤ) → is_nonzero t ≡ true → t ≢ pos 0
nonzero_not (pos zero) e h = absurd cc
nonzero_not (pos (suc n)) e h = absurd (omega (arith, ints))
nonzero_not (negsuc n) e h = absurd (omega (arith, ints))

slack_number : (equal : Bool) (b : Bool) → (not equal && b) ≡ true → b ≡ true
slack_number true b e = absurd cc
slack_number false b e = e

suitable_some : (side : Side) (x : Variable) (t : ℤ) → is_suitable side x t ≡ true → t ≢ pos 0
suitable_some High (Column c) t e h = nonzero_not t e h
suitable_some Low (Column c) t e h = nonzero_not t e h
suitable_some High (Slack s) t e h = let p = slack_number s.equal (int_lt (pos 0) t) e in absurd (omega (arith, ints))
suitable_some Low (Slack s) t e h = let p = slack_number s.equal (int_lt t (pos 0)) e in absurd (omega (arith, ints))

-- a place among n, with a number
abbrev pub IsPlace : List ℤ → ℕ → ℕ × Variable → Type 0
IsPlace all n place = (place.0 < n) × (get_or all place.0 (pos 0) ≢ pos 0)

all_suitable : (side : Side) (k : ℕ) (places : List Variable) (ts all : List ℤ) (n : ℕ) → drop k all ≡ ts → k + length places ≤ n
    → AllByRecursion (IsPlace all n) (suitable_from side k places ts)
unfolding suitable_from
all_suitable side k [] ts all n e h = tt
all_suitable side k (x ∷ places) [] all n e h = tt
all_suitable side k (x ∷ places) (t ∷ ts) all n e h =
    let here = sym (get_drop k all) ∙ ap (λ xs. get_or xs 0 (pos 0)) e in
    let later = ap (λ k. drop k all) (sym (add-one k)) ∙ sym (drop-drop 1 k all) ∙ ap (drop 1) e in
    at (is_suitable side x t) refl here (all_suitable side (suc k) places ts all n later (omega arith))
  where
    at : (b : Bool) → is_suitable side x t ≡ b → get_or all k (pos 0) ≡ t → AllByRecursion (IsPlace all n) (suitable_from side (suc k) places ts)
        → AllByRecursion (IsPlace all n) (cond b ((k, x) ∷ suitable_from side (suc k) places ts) (suitable_from side (suc k) places ts))
    at true s here rest = ((omega arith, λ z. suitable_some side x t s (sym here ∙ z)), rest)
    at false s here rest = rest

lower_keeps : (P : ℕ × Variable → Type 0) (best : ℕ × Variable) (xs : List (ℕ × Variable)) (place : ℕ × Variable) → P best → AllByRecursion P xs → fold lower (Some best) xs ≡ Some place → P place
lower_keeps P best [] place h k e = let same : best ≡ place = cc in subst P same h
lower_keeps P best (x ∷ xs) place h k e = lower_keeps P (cond (comes_before x.1 best.1) x best) xs place (picked (comes_before x.1 best.1) h k.0) k.1 e where
  picked : (b : Bool) → P best → P x → P (cond b x best)
  picked true h k = k
  picked false h k = h

lower_among : (P : ℕ × Variable → Type 0) (xs : List (ℕ × Variable)) (place : ℕ × Variable) → AllByRecursion P xs → fold lower None xs ≡ Some place → P place
lower_among P [] place k e = absurd cc
lower_among P (x ∷ xs) place k e = lower_keeps P x xs place k.0 k.1 e

pub get_rest : (xs : List ℤ) (j : ℕ) → get_or (drop 1 xs) j (pos 0) ≡ get_or xs (suc j) (pos 0)
get_rest [] j = refl
get_rest (x ∷ xs) j = refl

pub chosen_is : (side : Side) (places : List Variable) (ts : List ℤ) (j : ℕ) → chosen_place side places ts ≡ Some j → (j < length places) × (get_or ts j (pos 0) ≢ pos 0)
unfolding chosen_place
chosen_is side places ts j e = at (fold lower None (suitable_from side 0 places ts)) refl e where
  at : (o : Option (ℕ × Variable)) → fold lower None (suitable_from side 0 places ts) ≡ o → option_map (λ (place : ℕ × Variable). place.0) o ≡ Some j
      → (j < length places) × (get_or ts j (pos 0) ≢ pos 0)
  at None f e = absurd cc
  at (Some place) f e =
      let same : place.0 ≡ j = cc in
      subst (λ (j : ℕ). (j < length places) × (get_or ts j (pos 0) ≢ pos 0)) same
      (lower_among (IsPlace ts (length places)) (suitable_from side 0 places ts) place (all_suitable side 0 places ts ts (length places) refl (omega arith)) f)

-- ---- what a round comes to

-- what is shown of each outcome
abbrev pub IsSoundOutcome : System → Outcome → Type 0
IsSoundOutcome system (Refuted pairs) = Proves system pairs × IsReduced pairs
IsSoundOutcome system (Point x d) = Unit {0}
IsSoundOutcome system GaveUp = Unit {0}

-- what is shown of what a round comes to
abbrev pub IsSoundFound : System → Tableau → Found → Type 0
IsSoundFound system tableau (Ends outcome) = IsSoundOutcome system outcome
IsSoundFound system tableau (Pivots j line) =
    (j < length tableau.places) × (number_at j line ≢ pos 0) × IsKeptLine system tableau.places line × ((v : Values) → AllByRecursion (Holds v tableau.places) tableau.lines → Holds v tableau.places line)

point_over_sound : (system : System) (values : List Fraction) → IsSoundOutcome system (point_over values)
unfolding point_over
point_over_sound system values = at _ _ _ where
  at : (x : List ℤ) (d : ℤ) (b : Bool) → IsSoundOutcome system (cond b (Point x d) GaveUp)
  at x d true = tt
  at x d false = tt

point_of_sound : (system : System) (n : ℕ) (tableau : Tableau) → IsSoundOutcome system (point_of n tableau)
unfolding point_of
point_of_sound system n tableau = at (every (map (column_value tableau) (range_with_len 0 n))) where
  at : (o : Option (List Fraction)) → IsSoundOutcome system (or_gives_up point_over o)
  at None = tt
  at (Some values) = point_over_sound system values

refuted_sound : (system : System) (tableau : Tableau) (line : Line) (side : Side) → HasWidths system → IsKept system tableau
    → IsKeptLine system tableau.places line → ((v : Values) → AllByRecursion (Holds v tableau.places) tableau.lines → Holds v tableau.places line)
    → standing_of tableau.places line ≡ Out side → chosen_place side tableau.places (drop 1 line.numbers) ≡ None
    → IsSoundOutcome system (refuted_outcome system side tableau.places line)
unfolding refuted_outcome
refuted_sound system tableau line side w k kl says out none =
    let ms = divided_numbers (multipliers side (length system.rows) tableau.places line) in
    at ms (line_refutes system tableau line side w k kl says out none) (overflow_of system.rows (nonzero_pairs 1 ms)) refl
  where
    at : (ms : List ℤ) → IsProvedBy system ms → (o : Option (ℕ × ℕ)) → overflow_of system.rows (nonzero_pairs 1 ms) ≡ o → IsSoundOutcome system (cond (is_none o) (Refuted (nonzero_pairs 1 ms)) GaveUp)
    at ms proved None e = (record { refutes = proved.0; fits = e }, proved.1)
    at ms proved (Some place) e = tt

pub found_sound : (system : System) (tableau : Tableau) → HasWidths system → IsKept system tableau → IsSoundFound system tableau (round_of system tableau)
unfolding round_of
found_sound system tableau w k = by_line (first_out tableau) refl where
  by_place : (line : Line) (side : Side) → IsKeptLine system tableau.places line → ((v : Values) → AllByRecursion (Holds v tableau.places) tableau.lines → Holds v tableau.places line) → standing_of tableau.places line ≡ Out side
      → (o : Option ℕ) → chosen_place side tableau.places (drop 1 line.numbers) ≡ o → IsSoundFound system tableau (found_by_place system side tableau.places line o)
  by_place line side kl says out None c = refuted_sound system tableau line side w k kl says out c
  by_place line side kl says out (Some j) c =
      let is = chosen_is side tableau.places (drop 1 line.numbers) j c in
      (is.0, (λ z. is.1 (get_rest line.numbers j ∙ z)), kl, says)

  by_standing : (line : Line) → IsKeptLine system tableau.places line → ((v : Values) → AllByRecursion (Holds v tableau.places) tableau.lines → Holds v tableau.places line) → (s : Standing) → standing_of tableau.places line ≡ s
      → IsSoundFound system tableau (found_by_standing system tableau.places line s)
  by_standing line kl says Within e = tt
  by_standing line kl says Unfit e = tt
  by_standing line kl says (Out side) e = by_place line side kl says e (chosen_place side tableau.places (drop 1 line.numbers)) refl

  by_line : (o : Option Line) → first_out tableau ≡ o → IsSoundFound system tableau (found_by_line system tableau o)
  by_line None e = point_of_sound system system.columns tableau
  by_line (Some line) e = by_standing line (first_among (IsKeptLine system tableau.places) tableau line k.lines e) (λ v h. first_among (Holds v tableau.places) tableau line h e) (standing_of tableau.places line) refl

-- what follows a pivot is kept
pub kept_after : (system : System) (tableau next : Tableau) (j : ℕ) (line : Line) → IsKept system tableau → IsSoundFound system tableau (Pivots j line)
    → pivoted_tableau (pivot_at j line tableau) tableau ≡ Some next → IsKept system next
kept_after system tableau next j line k h e = kept_by_pivot system tableau next j line h.0 h.1 k h.2 h.3 e

-- ---- all rounds

ended_sound : (pivots : ℕ) (system : System) (tableau : Tableau) (outcome : Outcome) → HasWidths system → IsKept system tableau
    → ended_within pivots system tableau ≡ Some outcome → IsSoundOutcome system outcome
unfolding ended_within
ended_sound zero system tableau outcome w k e = at (round_of system tableau) (found_sound system tableau w k) e where
  at : (f : Found) → IsSoundFound system tableau f → at_end f ≡ Some outcome → IsSoundOutcome system outcome
  at (Ends o) h e = let same : o ≡ outcome = cc in subst (IsSoundOutcome system) same h
  at (Pivots j line) h e = absurd cc
ended_sound (suc pivots) system tableau outcome w k e =
    at (λ next kept. ended_sound pivots system next outcome w kept) (round_of system tableau) (found_sound system tableau w k) e
  where
    more : ((next : Tableau) → IsKept system next → ended_within pivots system next ≡ Some outcome → IsSoundOutcome system outcome) → (j : ℕ) (line : Line)
        → IsSoundFound system tableau (Pivots j line) → (o : Option Tableau) → pivoted_tableau (pivot_at j line tableau) tableau ≡ o
        → after_pivot (ended_within pivots system) o ≡ Some outcome → IsSoundOutcome system outcome
    more rest j line h None p e = let same : GaveUp ≡ outcome = cc in subst (IsSoundOutcome system) same tt
    more rest j line h (Some next) p e = rest next (kept_after system tableau next j line k h p) e

    at : ((next : Tableau) → IsKept system next → ended_within pivots system next ≡ Some outcome → IsSoundOutcome system outcome) → (f : Found)
        → IsSoundFound system tableau f → goes_on (ended_within pivots system) tableau f ≡ Some outcome → IsSoundOutcome system outcome
    at rest (Ends o) h e = let same : o ≡ outcome = cc in subst (IsSoundOutcome system) same h
    at rest (Pivots j line) h e = more rest j line h (pivoted_tableau (pivot_at j line tableau) tableau) refl e

pub certificate_is_sound : (system : System) (pairs : Pairs) → HasWidths system → outcome_of system ≡ Refuted pairs → Proves system pairs × IsReduced pairs
unfolding outcome_of
certificate_is_sound system pairs w e = at (ended_within (most_pivots system) system (given_tableau system)) refl e where
  at : (o : Option Outcome) → ended_within (most_pivots system) system (given_tableau system) ≡ o → unwrap_or o GaveUp ≡ Refuted pairs → Proves system pairs × IsReduced pairs
  at None f e = absurd cc
  at (Some outcome) f e =
      let same : outcome ≡ Refuted pairs = cc in
      subst (IsSoundOutcome system) same (ended_sound (most_pivots system) system (given_tableau system) outcome w (kept_given system w) f)

-- ---- more pivots change nothing

pub more_change_nothing : (system : System) (pivots more : ℕ) (tableau : Tableau) (outcome : Outcome) → pivots ≤ more
    → ended_within pivots system tableau ≡ Some outcome → ended_within more system tableau ≡ Some outcome
unfolding ended_within
more_change_nothing system zero zero tableau outcome h e = e
more_change_nothing system (suc pivots) zero tableau outcome h e = absurd (omega arith)
more_change_nothing system zero (suc more) tableau outcome h e = at (round_of system tableau) e where
  at : (f : Found) → at_end f ≡ Some outcome → goes_on (ended_within more system) tableau f ≡ Some outcome
  at (Ends o) e = e
  at (Pivots j line) e = absurd cc
more_change_nothing system (suc pivots) (suc more) tableau outcome h e =
    at (λ next. more_change_nothing system pivots more next outcome (omega arith)) (round_of system tableau) e
  where
    later : ((next : Tableau) → ended_within pivots system next ≡ Some outcome → ended_within more system next ≡ Some outcome) → (o : Option Tableau)
        → after_pivot (ended_within pivots system) o ≡ Some outcome → after_pivot (ended_within more system) o ≡ Some outcome
    later rest None e = e
    later rest (Some next) e = rest next e

    at : ((next : Tableau) → ended_within pivots system next ≡ Some outcome → ended_within more system next ≡ Some outcome) → (f : Found)
        → goes_on (ended_within pivots system) tableau f ≡ Some outcome → goes_on (ended_within more system) tableau f ≡ Some outcome
    at rest (Ends o) e = e
    at rest (Pivots j line) e = later rest (pivoted_tableau (pivot_at j line tableau) tableau) e
