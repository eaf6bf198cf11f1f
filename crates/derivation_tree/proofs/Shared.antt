-- The variables before and after a node's step: how many there are, which columns have one, and what a premise shares.
use Rattle.std.proofs.Common.{◌≡◌, ℕ, zero, suc, ◌+◌, List, [], ◌∷◌, ◌++◌, map, length, Bool, true, false, ℤ, pos, ◌+ℤ◌, ◌*ℤ◌, Option, Some, refl, sym, ◌∙◌, ap, ap₂, arith}
use Rattle.std.specs.Prelude.{if◌then◌else◌, slice_get}
use Rattle.std.proofs.lemmas.List.FromFn.{length-map-range_with_len}
use Rattle.lin_rows.specs.Row.{product_of}
use Rattle.lin_rows.proofs.Integers.{zero-mul_ℤ}
use Rattle.transition_formula.specs.Program.{Program, Column, Thread, Edge}
use Rattle.transition_formula.specs.Rows.{is_kept}
use Rattle.horn_rules.specs.Home.{Home}
use Rattle.derivation_tree.specs.Tree.{Tree, Init, Own, Guar, Env, Inter, thread_at, edge_at, root_home, step_thread, step_edge}
use Rattle.derivation_tree.specs.Variable.{Variable, After, Before}
use Rattle.derivation_tree.specs.Nodes.{Sharing, Moments, shared, before_step, own_after, state_moments, moments_of, at_before}

-- ---- lengths

pub length-shared : (share : Sharing) (home : Home) (columns : List Column) (above own : List Variable) → length above ≡ length columns → length own ≡ length columns → length (shared share home columns above own) ≡ length columns
length-shared share home [] above own e f = refl
length-shared share home (column ∷ columns) [] own e f = absurd (omega arith)
length-shared share home (column ∷ columns) (a ∷ above) [] e f = absurd (omega arith)
length-shared share home (column ∷ columns) (a ∷ above) (o ∷ own) e f = ap suc (length-shared share home columns above own (omega arith) (omega arith))

pub length-before_step : (n : ℕ) (thread : Thread) (edge : Edge) (c : ℕ) (after : List Variable) → length (before_step n thread edge c after) ≡ length after
length-before_step n thread edge c [] = refl
length-before_step n thread edge c (a ∷ after) = ap suc (length-before_step n thread edge (suc c) after)

pub length-own_after : (program : Program) (n : ℕ) → length (own_after program n) ≡ length program.columns
length-own_after program n = length-map-range_with_len (After n) 0 (length program.columns)

-- one variable for each column, before and after
pub record HasEach (program : Program) (moments : Moments) : Type 0 where
  pub before : length moments.before ≡ length program.columns
  pub after : length moments.after ≡ length program.columns

pub state-each : (program : Program) (share : Sharing) (n : ℕ) (tree : Tree) (above : Moments) → HasEach program above → HasEach program (state_moments program share n tree above)
state-each program share n tree above each =
    let after = length-shared share (root_home program tree) program.columns above.after (own_after program n) each.after (length-own_after program n) in
    record {
      before = length-before_step n (thread_at program (step_thread program tree)) (edge_at program (step_thread program tree) (step_edge program tree)) 0 (state_moments program share n tree above).after ∙ after;
      after = after;
    }

pub moments-each : (program : Program) (share : Sharing) (n : ℕ) (tree : Tree) (above : Moments) → HasEach program above → HasEach program (moments_of program share n tree above)
moments-each program share n (Guar f e) above each =
    let inner = state-each program share n (Guar f e) above each in
    record {
      before = length-shared share (root_home program (Guar f e)) program.columns above.before (state_moments program share n (Guar f e) above).before each.before inner.before;
      after = inner.after;
    }
moments-each program share n (Init i) above each = state-each program share n (Init i) above each
moments-each program share n (Own f e) above each = state-each program share n (Own f e) above each
moments-each program share n (Env f t) above each = state-each program share n (Env f t) above each
moments-each program share n (Inter f g e) above each = state-each program share n (Inter f g e) above each

pub before-each : (program : Program) (moments : Moments) → HasEach program moments → HasEach program (at_before moments)
before-each program moments each = record { before = each.before; after = each.before }

-- ---- kept columns

-- a column that the edge keeps has one variable
abbrev pub Keeps : Thread → Edge → Moments → Type 0
Keeps thread edge moments = (c : ℕ) → is_kept thread.counter edge c ≡ true → slice_get moments.before c ≡ slice_get moments.after c

before_step-keeps : (n : ℕ) (thread : Thread) (edge : Edge) (k c : ℕ) (after : List Variable) → is_kept thread.counter edge (k + c) ≡ true → slice_get (before_step n thread edge k after) c ≡ slice_get after c
before_step-keeps n thread edge k zero [] kept = refl
before_step-keeps n thread edge k (suc c) [] kept = refl
before_step-keeps n thread edge k zero (a ∷ after) kept =
    let same : k + 0 ≡ k = omega arith in
    ap (λ b. Some (if b then a else Before n k)) (ap (is_kept thread.counter edge) (sym same) ∙ kept)
before_step-keeps n thread edge k (suc c) (a ∷ after) kept =
    let same : suc k + c ≡ k + suc c = omega arith in
    before_step-keeps n thread edge (suc k) c after (ap (is_kept thread.counter edge) same ∙ kept)

pub state-keeps : (program : Program) (share : Sharing) (n : ℕ) (tree : Tree) (above : Moments)
    → Keeps (thread_at program (step_thread program tree)) (edge_at program (step_thread program tree) (step_edge program tree)) (state_moments program share n tree above)
state-keeps program share n tree above c kept =
    let same : 0 + c ≡ c = omega arith in
    before_step-keeps n (thread_at program (step_thread program tree)) (edge_at program (step_thread program tree) (step_edge program tree)) 0 c (state_moments program share n tree above).after (ap (is_kept (thread_at program (step_thread program tree)).counter (edge_at program (step_thread program tree) (step_edge program tree))) same ∙ kept)

-- lists that share what is alike, and else have what is
shared-alike : (share : Sharing) (home : Home) (columns : List Column) (c : ℕ) (ab aa ob oa : List Variable)
    → length ab ≡ length columns → length aa ≡ length columns → length ob ≡ length columns → length oa ≡ length columns
    → slice_get ab c ≡ slice_get aa c → slice_get ob c ≡ slice_get (shared share home columns aa oa) c
    → slice_get (shared share home columns ab ob) c ≡ slice_get (shared share home columns aa oa) c
shared-alike share home [] c ab aa ob oa p q r s e f = refl
shared-alike share home (column ∷ columns) c [] aa ob oa p q r s e f = absurd (omega arith)
shared-alike share home (column ∷ columns) c (b ∷ ab) [] ob oa p q r s e f = absurd (omega arith)
shared-alike share home (column ∷ columns) c (b ∷ ab) (a ∷ aa) [] oa p q r s e f = absurd (omega arith)
shared-alike share home (column ∷ columns) c (b ∷ ab) (a ∷ aa) (o ∷ ob) [] p q r s e f = absurd (omega arith)
shared-alike share home (column ∷ columns) (suc c) (b ∷ ab) (a ∷ aa) (o ∷ ob) (w ∷ oa) p q r s e f =
    shared-alike share home columns c ab aa ob oa (omega arith) (omega arith) (omega arith) (omega arith) e f
shared-alike share home (column ∷ columns) zero (b ∷ ab) (a ∷ aa) (o ∷ ob) (w ∷ oa) p q r s e f = at (share home column.owner) e f
  where
    at : (x : Bool) → Some b ≡ Some a → Some o ≡ Some (if x then a else w) → Some (if x then b else o) ≡ Some (if x then a else w)
    at true e f = e
    at false e f = f

-- a step that is told keeps what the step above keeps
pub told-keeps : (program : Program) (share : Sharing) (n : ℕ) (f : Tree) (e : ℕ) (above : Moments) → HasEach program above
    → Keeps (thread_at program (step_thread program (Guar f e))) (edge_at program (step_thread program (Guar f e)) e) above
    → Keeps (thread_at program (step_thread program (Guar f e))) (edge_at program (step_thread program (Guar f e)) e) (moments_of program share n (Guar f e) above)
told-keeps program share n f e above each keeps c kept =
    let inner = state_moments program share n (Guar f e) above in
    let lengths = state-each program share n (Guar f e) above each in
    shared-alike share (root_home program (Guar f e)) program.columns c above.before above.after inner.before (own_after program n)
    each.before each.after lengths.before (length-own_after program n) (keeps c kept) (state-keeps program share n (Guar f e) above c kept)

-- ---- what a premise shares

-- columns that are not shared have coefficient 0
abbrev pub Vanishes : (Option ℕ → Bool) → List Column → List ℤ → Type 0
Vanishes shares [] xs = Unit {0}
Vanishes shares (column ∷ columns) [] = Unit {0}
Vanishes shares (column ∷ columns) (x ∷ xs) = (shares column.owner ≡ false → x ≡ pos 0) × Vanishes shares columns xs

pub shared-product : (share : Sharing) (home : Home) (v : Variable → ℤ) (columns : List Column) (above own : List Variable) (xs : List ℤ) → length above ≡ length columns → length own ≡ length columns
    → Vanishes (share home) columns xs → product_of xs (map v (shared share home columns above own)) ≡ product_of xs (map v above)
shared-product share home v columns above own [] e f h = refl
shared-product share home v [] [] own (x ∷ xs) e f h = refl
shared-product share home v [] (a ∷ above) own (x ∷ xs) e f h = absurd (omega arith)
shared-product share home v (column ∷ columns) [] own (x ∷ xs) e f h = absurd (omega arith)
shared-product share home v (column ∷ columns) (a ∷ above) [] (x ∷ xs) e f h = absurd (omega arith)
shared-product share home v (column ∷ columns) (a ∷ above) (o ∷ own) (x ∷ xs) e f h =
    ap₂ (λ p q. p +ℤ q) (at (share home column.owner) h.0) (shared-product share home v columns above own xs (omega arith) (omega arith) h.1)
  where
    at : (b : Bool) → (b ≡ false → x ≡ pos 0) → x *ℤ v (if b then a else o) ≡ x *ℤ v a
    at true zero_there = refl
    at false zero_there = ap (λ k. k *ℤ v o) (zero_there refl) ∙ zero-mul_ℤ (v o) ∙ sym (zero-mul_ℤ (v a)) ∙ ap (λ k. k *ℤ v a) (sym (zero_there refl))

pub shared-append : (share : Sharing) (home : Home) (columns others : List Column) (above own more fresh : List Variable) → length above ≡ length columns → length own ≡ length columns
    → shared share home columns above own ++ shared share home others more fresh ≡ shared share home (columns ++ others) (above ++ more) (own ++ fresh)
shared-append share home [] others [] [] more fresh e f = refl
shared-append share home [] others (a ∷ above) own more fresh e f = absurd (omega arith)
shared-append share home [] others [] (o ∷ own) more fresh e f = absurd (omega arith)
shared-append share home (column ∷ columns) others [] own more fresh e f = absurd (omega arith)
shared-append share home (column ∷ columns) others (a ∷ above) [] more fresh e f = absurd (omega arith)
shared-append share home (column ∷ columns) others (a ∷ above) (o ∷ own) more fresh e f =
    ap (λ l. (if share home column.owner then a else o) ∷ l) (shared-append share home columns others above own more fresh (omega arith) (omega arith))

-- the rows of a modular scope
pub modular-vanishes : (shares : Option ℕ → Bool) (columns : List Column) (xs : List ℤ)
    → ((c : ℕ) (column : Column) → slice_get columns c ≡ Some column → shares column.owner ≡ false → slice_get xs c ≡ Some (pos 0)) → Vanishes shares columns xs
modular-vanishes shares [] xs h = tt
modular-vanishes shares (column ∷ columns) [] h = tt
modular-vanishes shares (column ∷ columns) (x ∷ xs) h =
    (λ none. (let there : Some x ≡ Some (pos 0) = h 0 column refl none in cc), modular-vanishes shares columns xs (λ c other at none. h (suc c) other at none))
