-- Skipping tokens, as a loop does.
use Rattle.std.proofs.Common.{◌≡◌, ℕ, zero, suc, ◌≤◌, Bool, true, false, cond, List, [], ◌∷◌, length, reverse, Option, Some, None, Ok, Err, refl, sym, ap, ◌∙◌, arith}
use Rattle.std.proofs.lemmas.List.{length-reverse}
use Rattle.c_tree.specs.declared.term.Term.{Term}
use Rattle.c_tree.specs.declared.term.Term.TheVariants as terms
use Rattle.c_tree.specs.inside.Input.{Input, peek, next, refusal}
use Rattle.c_tree.specs.inside.Item.{open_after, skip_from, skip_through}
use Rattle.c_tree.proofs.Steps.{next_shorter}

-- What is still skipped is what was to be skipped from the start.
pub record IsSkippedTo (close : Term) (start : Input) (ends : List Term) (i : Input) : Type 0 where
  pub count : ℕ
  pub enough : length i.tokens ≤ count
  pub all : skip_from count ends i ≡ skip_through close start

pub at_start : (close : Term) (i : Input) → IsSkippedTo close i (close ∷ []) i
unfolding skip_through
at_start close i = record { count = length i.tokens; enough = omega arith; all = refl }

some_none : {A : Type 0} (x : A) → ◌≡◌ {A = Option A} None (Some x) → ⊥
some_none x h = cc

-- a token that closes nothing wrong is there
pub is_there : (i : Input) (before ends : List Term) → open_after (peek i) before ≡ Some ends → peek i ≡ terms.End → ⊥
is_there i before ends fits ended = some_none ends (ap (λ (k : Term). open_after k before) (sym ended) ∙ fits)

pub one_skipped : (n : ℕ) (top : Term) (rest ends : List Term) (i : Input) → open_after (peek i) (top ∷ rest) ≡ Some ends → skip_from (suc n) (top ∷ rest) i ≡ skip_from n ends (next i)
unfolding skip_from
one_skipped n top rest ends i fits = rw fits refl

pub goes_on : (close : Term) (start : Input) (before ends : List Term) (i : Input) → (before ≡ [] → ⊥) → open_after (peek i) before ≡ Some ends → IsSkippedTo close start before i → IsSkippedTo close start ends (next i)
goes_on close start [] ends i some fits read = absurd (some refl)
goes_on close start (top ∷ rest) ends i some fits read = go read.count read.enough read.all
  where
    go : (n : ℕ) → length i.tokens ≤ n → skip_from n (top ∷ rest) i ≡ skip_through close start → IsSkippedTo close start ends (next i)
    go zero le all = absurd (omega (arith, next_shorter i (is_there i (top ∷ rest) ends fits)))
    go (suc n) le all = record { count = n; enough = omega (arith, next_shorter i (is_there i (top ∷ rest) ends fits)); all = sym (one_skipped n top rest ends i fits) ∙ all }

pub one_refused : (n : ℕ) (top : Term) (rest : List Term) (i : Input) → open_after (peek i) (top ∷ rest) ≡ None → skip_from n (top ∷ rest) i ≡ Err (refusal i)
unfolding skip_from
one_refused zero top rest i fails = refl
one_refused (suc n) top rest i fails = rw fails refl

pub refuses : (close : Term) (start : Input) (before : List Term) (i : Input) → (before ≡ [] → ⊥) → open_after (peek i) before ≡ None → IsSkippedTo close start before i → skip_through close start ≡ Err (refusal i)
refuses close start [] i some fails read = absurd (some refl)
refuses close start (top ∷ rest) i some fails read = sym read.all ∙ one_refused read.count top rest i fails

pub none_left : (n : ℕ) (i : Input) → skip_from n [] i ≡ Ok (tt, i)
unfolding skip_from
none_left zero i = refl
none_left (suc n) i = refl

pub all_skipped : (close : Term) (start : Input) (before : List Term) (i : Input) → before ≡ [] → IsSkippedTo close start before i → skip_through close start ≡ Ok (tt, i)
all_skipped close start before i none read = sym read.all ∙ ap (λ (ends : List Term). skip_from read.count ends i) none ∙ none_left read.count i

-- ---- in the words of the code

pub fits_so : (i : Input) (k : Term) (before ends : List Term) (fits : Bool) → k ≡ peek i → fits ≡ true → open_after k before ≡ cond fits (Some ends) None → open_after (peek i) before ≡ Some ends
fits_so i k before ends fits seen so is = ap (λ (t : Term). open_after t before) (sym seen) ∙ is ∙ ap (λ (b : Bool). cond b (Some ends) None) so

pub fails_so : (i : Input) (k : Term) (before ends : List Term) (fits : Bool) → k ≡ peek i → fits ≡ false → open_after k before ≡ cond fits (Some ends) None → open_after (peek i) before ≡ None
fails_so i k before ends fits seen so is = ap (λ (t : Term). open_after t before) (sym seen) ∙ is ∙ ap (λ (b : Bool). cond b (Some ends) None) so

pub some_open : (ends : List Term) → (ends ≡ [] → ⊥) → reverse ends ≡ [] → ⊥
some_open [] some none = some refl
some_open (x ∷ xs) some none = absurd (omega (arith, length-reverse (x ∷ xs), ap (λ (l : List Term). length l) none))
