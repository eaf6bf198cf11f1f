-- Lists of looks and of sets, from a place on.
use Rattle.std.proofs.Common.{◌≡◌, ℕ, suc, ◌+◌, ◌<◌, ◌≤◌, ℤ, Bool, true, List, ◌∷◌, ◌++◌, map, length, drop, get_or, Option, Some, option_map, slice_get, slice_set, refl, sym, ap, ◌∙◌, add-one}
use Rattle.std.proofs.lemmas.List.{drop_all}
use Rattle.std.proofs.lemmas.Option.{slice_get-map, slice_get_read}
use Rattle.transition_formula.specs.Program.{Form, Edge}
use Rattle.transition_formula.specs.Step.{value_of, after_sets}
use Rattle.transition_formula.proofs.Lookups.{drop-slice_get}
use Rattle.step_meaning.specs.Outcome.{source_holds, test_holds, set_holds, looked_at, first_stop}

-- what is looked at from a place on
abbrev pub stop_from : {A : Type 0} → (A → Option Bool) → List A → ℕ → Option Bool
stop_from look xs n = first_stop (map look (drop n xs))

pub stop_from-here : {A : Type 0} (look : A → Option Bool) (xs : List A) (n : ℕ) (x : A) (found : Option Bool) → slice_get xs n ≡ Some x → found ≡ look x
    → stop_from look xs n ≡ first_stop (found ∷ map look (drop (suc n) xs))
stop_from-here look xs n x found at e =
    ap (λ l. first_stop (map look l)) (drop-slice_get xs n x at) ∙ ap (λ o. first_stop (o ∷ map look (drop (suc n) xs))) (sym e)

-- one place further
pub stop_from-next : {A : Type 0} (look : A → Option Bool) (xs : List A) (n : ℕ) (x : A) → slice_get xs n ≡ Some x → Some true ≡ look x
    → stop_from look xs n ≡ first_stop (map look xs) → stop_from look xs (n + 1) ≡ first_stop (map look xs)
stop_from-next look xs n x at e whole =
    ap (λ (k : ℕ). stop_from look xs k) (add-one n) ∙ sym (stop_from-here look xs n x (Some true) at e) ∙ whole

-- nothing is left at the end
pub stop_from-end : {A : Type 0} (look : A → Option Bool) (xs : List A) (n : ℕ) → length xs ≤ n → stop_from look xs n ≡ first_stop (map look xs) → Some true ≡ first_stop (map look xs)
stop_from-end look xs n h whole = sym (ap (λ l. first_stop (map look l)) (drop_all n xs h)) ∙ whole

-- an element that is read, of a list that is mapped
pub mapped-at : {A B : Type 0} (f : A → B) (xs : List A) (n : ℕ) (x : A) → n < length xs → x ≡ get_or xs n x → slice_get (map f xs) n ≡ Some (f x)
mapped-at f xs n x h e = slice_get-map f xs n ∙ ap (option_map f) (slice_get_read xs (length xs) n x refl h e)

-- one set more is assigned
pub assigned-next : (sets : List (ℕ × Form)) (z state next : List ℤ) (n m c : ℕ) (form : Form) → m ≡ suc n → slice_get sets n ≡ Some (c, form)
    → next ≡ after_sets (drop m sets) z state → slice_set next c (value_of form z) ≡ after_sets (drop n sets) z state
assigned-next sets z state next n m c form more at e =
    ap (λ xs. slice_set xs c (value_of form z)) (e ∙ ap (λ (k : ℕ). after_sets (drop k sets) z state) more)
    ∙ sym (ap (λ l. after_sets l z state) (drop-slice_get sets n (c, form) at))

-- before the first set is assigned
pub assigned-none : (sets : List (ℕ × Form)) (z state : List ℤ) (n : ℕ) → length sets ≤ n → state ≡ after_sets (drop n sets) z state
assigned-none sets z state n h = sym (ap (λ l. after_sets l z state) (drop_all n sets h))

-- at the source, the tests and sets are looked at
pub past_source : (counter : ℕ) (edge : Edge) (before inputs : List ℤ) → source_holds counter edge before ≡ Some true
    → first_stop (looked_at counter edge before inputs) ≡ first_stop (map (test_holds (before ++ inputs)) edge.tests ++ map (set_holds (before ++ inputs)) edge.sets)
past_source counter edge before inputs at =
    ap (λ look. first_stop (look ∷ (map (test_holds (before ++ inputs)) edge.tests ++ map (set_holds (before ++ inputs)) edge.sets))) at
