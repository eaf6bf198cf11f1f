-- Whether a state is initial, column by column.
use Rattle.std.proofs.Common.{◌≡◌, ◌↔◌, IsTrue, Bool, false, true≢false, ℕ, suc, ◌<◌, ◌≤◌, ℤ, pos, List, [], ◌∷◌, length, drop, get_or, Some, slice_get, sym, subst, ◌∙◌, drop-cons, arith}
use Rattle.std.proofs.lemmas.List.{drop_all}
use Rattle.transition_formula.specs.Program.{Column}
use Rattle.transition_formula.specs.Step.{MayStart, IsInitial}
use Rattle.transition_formula.proofs.Lookups.{drop-slice_get}

-- the columns and values from a place on
abbrev pub IsInitialFrom : List Column → List ℤ → ℕ → Type 0
IsInitialFrom columns state n = IsInitial (drop n columns) (drop n state)

initial-here : (columns : List Column) (state : List ℤ) (n : ℕ) (column : Column) → slice_get columns n ≡ Some column → n < length state
    → IsInitialFrom columns state n ↔ (MayStart column.start (get_or state n (pos 0)) × IsInitialFrom columns state (suc n))
initial-here columns state n column at h =
    let cs = drop-slice_get columns n column at in
    let vs = drop-cons state n (pos 0) h in (
      λ here. subst (λ vs. IsInitial (column ∷ drop (suc n) columns) vs) vs (subst (λ cs. IsInitial cs (drop n state)) cs here),
      λ parts. subst (λ cs. IsInitial cs (drop n state)) (sym cs) (subst (λ vs. IsInitial (column ∷ drop (suc n) columns) vs) (sym vs) parts),
    )

-- one column further
pub initial-next : (columns : List Column) (state : List ℤ) (n m : ℕ) (column : Column) → m ≡ suc n → slice_get columns n ≡ Some column → n < length state
    → MayStart column.start (get_or state n (pos 0)) → IsInitialFrom columns state n ↔ IsInitial columns state → IsInitialFrom columns state m ↔ IsInitial columns state
initial-next columns state n m column next at h may whole =
    let here = initial-here columns state n column at h in
    let more : IsInitialFrom columns state (suc n) ↔ IsInitial columns state = (λ rest. whole.0 (here.1 (may, rest)), λ all. (here.0 (whole.1 all)).1) in
    subst (λ (k : ℕ). IsInitialFrom columns state k ↔ IsInitial columns state) (sym next) more

-- a column that may not start so
pub initial-not : (columns : List Column) (state : List ℤ) (n : ℕ) (column : Column) → slice_get columns n ≡ Some column → n < length state
    → ¬ MayStart column.start (get_or state n (pos 0)) → IsInitialFrom columns state n ↔ IsInitial columns state → ¬ IsInitial columns state
initial-not columns state n column at h not_so whole = λ all. not_so ((initial-here columns state n column at h).0 (whole.1 all)).0

-- past the last column
pub initial-end : (columns : List Column) (state : List ℤ) (n : ℕ) → length columns ≤ n → length state ≡ length columns
    → IsInitialFrom columns state n ↔ IsInitial columns state → IsInitial columns state
initial-end columns state n h same whole =
    whole.0 (subst (λ cs. IsInitial cs (drop n state)) (sym (drop_all n columns h)) (subst (λ vs. IsInitial [] vs) (sym (drop_all n state (omega arith))) tt))

-- a test that fails says that what it tells is not so
pub told_not : {P : Type 0} (b : Bool) → b ≡ false → IsTrue b ↔ P → ¬ P
told_not b e whether = λ p. absurd (true≢false (sym (whether.1 p) ∙ e))

-- and that is what is answered
pub answers_not : {P : Type 0} → ¬ P → IsTrue false ↔ P
answers_not h = (λ e. absurd (true≢false (sym e)), λ p. absurd (h p))
