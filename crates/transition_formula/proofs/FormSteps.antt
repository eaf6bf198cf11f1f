-- Multiples that are summed one after another, and sums that are given step by step.
use Rattle.std.proofs.Common.{◌≡◌, ℕ, ◌+◌, ◌<◌, ℤ, pos, List, ◌++◌, length, drop, get_or, Option, Some, None, refl, sym, ap, ap₂, ◌∙◌, drop-cons, add-one, arith, length-append}
use Rattle.std.specs.Option.{option_and_then}
use Rattle.std.proofs.lemmas.List.{drop_all}
use Rattle.lin_rows.specs.Sum.{sum_overflow, sum_in_order}
use Rattle.transition_formula.specs.Program.{Form}
use Rattle.transition_formula.specs.Forms.{with_multiple, with_multiples}

-- one more multiple
pub multiples-step : (sum : Form) (ks : List ℤ) (forms : List Form) (i : ℕ) (d : Form) → i < length ks → length forms ≡ length ks
    → with_multiples sum (drop i ks) (drop i forms) ≡ option_and_then (λ more. with_multiples more (drop (i + 1) ks) (drop (i + 1) forms)) (with_multiple sum (get_or ks i (pos 0)) (get_or forms i d))
multiples-step sum ks forms i d within one_each =
    let there : i < length forms = omega arith in
    ap₂ (with_multiples sum) (drop-cons ks i (pos 0) within) (drop-cons forms i d there)
    ∙ ap (λ j. option_and_then (λ more. with_multiples more (drop j ks) (drop j forms)) (with_multiple sum (get_or ks i (pos 0)) (get_or forms i d))) (sym (add-one i))

-- With one more multiple in the sum, what is left makes the same whole.
pub multiples-next : (sum more : Form) (whole : Option Form) (ks : List ℤ) (forms : List Form) (i : ℕ) (d : Form) → i < length ks → length forms ≡ length ks
    → Some more ≡ with_multiple sum (get_or ks i (pos 0)) (get_or forms i d)
    → with_multiples sum (drop i ks) (drop i forms) ≡ whole → with_multiples more (drop (i + 1) ks) (drop (i + 1) forms) ≡ whole
multiples-next sum more whole ks forms i d within one_each e all =
    ap (option_and_then (λ next. with_multiples next (drop (i + 1) ks) (drop (i + 1) forms))) e ∙ sym (multiples-step sum ks forms i d within one_each) ∙ all

-- Where a multiple is not given, the whole is not.
pub multiples-stop : (sum : Form) (whole : Option Form) (ks : List ℤ) (forms : List Form) (i : ℕ) (d : Form) → i < length ks → length forms ≡ length ks
    → None ≡ with_multiple sum (get_or ks i (pos 0)) (get_or forms i d)
    → with_multiples sum (drop i ks) (drop i forms) ≡ whole → None ≡ whole
multiples-stop sum whole ks forms i d within one_each e all =
    ap (option_and_then (λ next. with_multiples next (drop (i + 1) ks) (drop (i + 1) forms))) e ∙ sym (multiples-step sum ks forms i d within one_each) ∙ all

-- Where nothing is left, the sum is the whole.
pub multiples-end : (sum : Form) (whole : Option Form) (ks : List ℤ) (forms : List Form) (i : ℕ) → i ≡ length ks
    → with_multiples sum (drop i ks) (drop i forms) ≡ whole → Some sum ≡ whole
multiples-end sum whole ks forms i end all =
    sym (ap (λ l. with_multiples sum l (drop i forms)) (drop_all i ks (omega arith))) ∙ all

-- a sum of which a part is too great
pub none-given : (xs ys : List ℤ) (n : ℕ) → sum_overflow xs ys ≡ Some n → None ≡ sum_in_order xs ys
none-given xs ys n e = rw e refl

-- Lists one behind the other are as long as both together.
pub both-lengths : (xs ys zs : List ℤ) → length xs ≡ length ys + length zs → length xs ≡ length (ys ++ zs)
both-lengths xs ys zs e = omega (arith, e, length-append ys zs)
