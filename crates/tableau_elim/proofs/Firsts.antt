-- The line that is out and comes first, and the place whose variable comes first, one by one.
use Rattle.std.proofs.Common.{◌≡◌, ℕ, suc, ◌+◌, ◌<◌, ◌≤◌, refl, sym, ◌∙◌, ap, arith, List, [], ◌∷◌, length, drop, get_or, Bool, true, false, cond, Option, Some, None, add-one}
use Rattle.std.specs.Prelude.{ℤ, pos, not, filter, fold, find}
use Rattle.std.specs.Option.{option_map}
use Rattle.std.proofs.lemmas.List.{drop_more, drop_all}
use Rattle.tableau_elim.specs.Tableau.{Line, Tableau}
use Rattle.tableau_elim.specs.Rounds.{earlier, is_within, standing_of, first_out, lower, suitable_from, is_suitable, chosen_place, standing_to_limit, standing_by}
use Rattle.tableau_elim.specs.declared.variable.Variable.{Variable}
use Rattle.tableau_elim.specs.declared.standing.Side.{Side}
use Rattle.tableau_elim.specs.inside.Steps.{comes_first, earlier_out}
use Rattle.tableau_elim.proofs.Lines.{no_line}

-- ---- the first line that is out

pub earlier_not_first : (places : List Variable) (best : Option Line) (line : Line) → comes_first best line ≡ false → best ≡ earlier_out places best line
earlier_not_first places best line e = at best (not (is_within (standing_of places line))) e where
  at : (best : Option Line) (out : Bool) → comes_first best line ≡ false → best ≡ cond out (earlier best line) best
  at None out e = absurd cc
  at (Some best) true e = rw e refl
  at (Some best) false e = refl

pub earlier_not_out : (places : List Variable) (best : Option Line) (line : Line) → not (is_within (standing_of places line)) ≡ false → best ≡ earlier_out places best line
earlier_not_out places best line e = rw e refl

pub earlier_is : (places : List Variable) (best : Option Line) (line : Line) → comes_first best line ≡ true → not (is_within (standing_of places line)) ≡ true
    → Some line ≡ earlier_out places best line
earlier_is places best line f e = rw e (at best f) where
  at : (best : Option Line) → comes_first best line ≡ true → Some line ≡ earlier best line
  at None f = refl
  at (Some best) f = rw f refl

-- what is found so far, followed by what is left
abbrev pub first_from : List Variable → Option Line → List Line → Option Line
first_from places best lines = fold earlier best (filter (λ line. not (is_within (standing_of places line))) lines)

first_step : (places : List Variable) (best : Option Line) (line : Line) (lines : List Line)
    → first_from places best (line ∷ lines) ≡ first_from places (earlier_out places best line) lines
first_step places best line lines = at (not (is_within (standing_of places line))) where
  at : (out : Bool) → fold earlier best (cond out (line ∷ filter (λ line. not (is_within (standing_of places line))) lines) (filter (λ line. not (is_within (standing_of places line))) lines))
      ≡ first_from places (cond out (earlier best line) best) lines
  at true = refl
  at false = refl

pub first_goes_on : (places : List Variable) (best next : Option Line) (lines : List Line) (k : ℕ) (whole : Option Line) → k < length lines
    → next ≡ earlier_out places best (get_or lines k no_line) → first_from places best (drop k lines) ≡ whole → first_from places next (drop (k + 1) lines) ≡ whole
first_goes_on places best next lines k whole h e i =
    ap (λ b. first_from places b (drop (k + 1) lines)) e ∙ sym (first_step places best (get_or lines k no_line) (drop (k + 1) lines))
    ∙ ap (first_from places best) (sym (drop_more lines k no_line h)) ∙ i

pub first_begins : (tableau : Tableau) → first_from tableau.places None tableau.lines ≡ first_out tableau
unfolding first_out
first_begins tableau = refl

pub first_ends : (places : List Variable) (best : Option Line) (lines : List Line) (k : ℕ) (whole : Option Line) → length lines ≤ k
    → first_from places best (drop k lines) ≡ whole → best ≡ whole
first_ends places best lines k whole h i = ap (first_from places best) (sym (drop_all k lines h)) ∙ i

-- ---- the place

abbrev pub lowest_from : Side → Option (ℕ × Variable) → ℕ → List Variable → List ℤ → Option (ℕ × Variable)
lowest_from side best j places ts = fold lower best (suitable_from side j places ts)

lowest_step : (side : Side) (best : Option (ℕ × Variable)) (j : ℕ) (x : Variable) (places : List Variable) (t : ℤ) (ts : List ℤ)
    → lowest_from side best j (x ∷ places) (t ∷ ts) ≡ lowest_from side (cond (is_suitable side x t) (lower best (j, x)) best) (suc j) places ts
unfolding suitable_from
lowest_step side best j x places t ts = at (is_suitable side x t) where
  at : (s : Bool) → fold lower best (cond s ((j, x) ∷ suitable_from side (suc j) places ts) (suitable_from side (suc j) places ts))
      ≡ lowest_from side (cond s (lower best (j, x)) best) (suc j) places ts
  at true = refl
  at false = refl

pub lowest_goes_on : (side : Side) (best next : Option (ℕ × Variable)) (k : ℕ) (places : List Variable) (ts : List ℤ) (whole : Option (ℕ × Variable)) (d : Variable)
    → k < length places → length ts ≡ length places
    → next ≡ cond (is_suitable side (get_or places k d) (get_or ts k (pos 0))) (lower best (k, get_or places k d)) best
    → lowest_from side best k (drop k places) (drop k ts) ≡ whole → lowest_from side next (k + 1) (drop (k + 1) places) (drop (k + 1) ts) ≡ whole
lowest_goes_on side best next k places ts whole d h l e i =
    let xs = drop_more places k d h in
    let ys = drop_more ts k (pos 0) (omega arith) in
    let step = lowest_step side best k (get_or places k d) (drop (k + 1) places) (get_or ts k (pos 0)) (drop (k + 1) ts) in
    let before : lowest_from side best k (get_or places k d ∷ drop (k + 1) places) (get_or ts k (pos 0) ∷ drop (k + 1) ts) ≡ whole = rw (← xs, ← ys) i in
    ap (λ b. lowest_from side b (k + 1) (drop (k + 1) places) (drop (k + 1) ts)) e
    ∙ ap (λ n. lowest_from side (cond (is_suitable side (get_or places k d) (get_or ts k (pos 0))) (lower best (k, get_or places k d)) best) n (drop (k + 1) places) (drop (k + 1) ts)) (add-one k)
    ∙ sym step ∙ before

pub lowest_ends : (side : Side) (best : Option (ℕ × Variable)) (k : ℕ) (places : List Variable) (ts : List ℤ) → length places ≤ k
    → lowest_from side best k (drop k places) (drop k ts) ≡ lowest_from side None 0 places ts → option_map (λ place. place.0) best ≡ chosen_place side places ts
unfolding chosen_place suitable_from
lowest_ends side best k places ts h i =
    let none : lowest_from side best k [] (drop k ts) ≡ best = refl in
    ap (option_map (λ (place : ℕ × Variable). place.0)) (sym none ∙ ap (λ xs. lowest_from side best k xs (drop k ts)) (sym (drop_all k places h)) ∙ i)

-- ---- the first line that passes

find_step : (q : Line → Bool) (line : Line) (lines : List Line) (b : Bool) → q line ≡ b → find q (line ∷ lines) ≡ cond b (Some line) (find q lines)
find_step q line lines b e = rw e refl

pub find_goes_on : (q : Line → Bool) (lines : List Line) (k : ℕ) (whole : Option Line) → k < length lines → q (get_or lines k no_line) ≡ false
    → find q (drop k lines) ≡ whole → find q (drop (k + 1) lines) ≡ whole
find_goes_on q lines k whole h e i = sym (find_step q (get_or lines k no_line) (drop (k + 1) lines) false e) ∙ ap (find q) (sym (drop_more lines k no_line h)) ∙ i

pub find_stops : (q : Line → Bool) (lines : List Line) (k : ℕ) (whole : Option Line) → k < length lines → q (get_or lines k no_line) ≡ true
    → find q (drop k lines) ≡ whole → Some (get_or lines k no_line) ≡ whole
find_stops q lines k whole h e i = sym (find_step q (get_or lines k no_line) (drop (k + 1) lines) true e) ∙ ap (find q) (sym (drop_more lines k no_line h)) ∙ i

pub find_ends : (q : Line → Bool) (lines : List Line) (k : ℕ) (whole : Option Line) → length lines ≤ k → find q (drop k lines) ≡ whole → None ≡ whole
find_ends q lines k whole h i = ap (find q) (sym (drop_all k lines h)) ∙ i

-- ---- how a slack stands

pub standing_read : (equal : Bool) (s sum l limit : ℤ) (o p : Option ℤ) → s ≡ sum → l ≡ limit → Some sum ≡ o → Some limit ≡ p → standing_to_limit equal s l ≡ standing_by equal o p
standing_read equal s sum l limit o p e f g h = rw (← g, ← h, e, f) refl
