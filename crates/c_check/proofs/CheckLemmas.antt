-- The answer for a text that was gone through.
use Rattle.std.proofs.Common.{◌≡◌, ℕ, suc, ◌+◌, ◌<◌, ◌≤◌, inl, inr, List, [], ◌∷◌, ◌++◌, length, min, Option, Some, None, is_some, true, false, MatchOption, refl, sym, ap, subst, ◌∙◌, arith, length-append}
use Rattle.std.specs.Option.{unwrap_or}
use Rattle.thr_base.specs.declared.stops.Refusal.{Refusal}
use Rattle.thr_base.specs.Limits.{most_columns}
use Rattle.thr_base.specs.Refusals.{Precedes, no_thread, too_many}
use Rattle.c_tree.specs.Plain as plain
use Rattle.c_check.specs.declared.items.Walk.{Walk}
use Rattle.c_check.specs.Check.{IsAccepted, IsCounted, IsPlanOf, IsRefused}
use Rattle.c_check.specs.Columns.{counters_from, own_columns_from, threads_from}
use Rattle.c_check.specs.Program.{broken_in, created_of, main_place}
use Rattle.c_check.specs.inside.Walked.{IsWalked, plan_from}
use Rattle.c_check.proofs.FirstOf.{first_of-is, first_of-none}

pub plan-is : (tree : plain.Tree) (w : Walk) → IsWalked tree w → IsPlanOf tree (plan_from w)
plan-is tree w found = record {
  columns_are = λ i. (found.variables i ++ found.locks i) ++ (own_columns_from (found.owns i) 1 (found.created i) ++ counters_from 1 (found.created i));
  functions_are = found.functions;
  threads_are = λ i. threads_from (found.owns i) (length (found.variables i ++ found.locks i)) (found.created i);
}

pub length-counters_from : (i : ℕ) (ns : List ℕ) → length (counters_from i ns) ≡ length ns
length-counters_from i [] = refl
length-counters_from i (n ∷ ns) = ap suc (length-counters_from (i + 1) ns)

-- how many columns there are
pub length-columns : (w : Walk) → length (plan_from w).columns ≡ length w.variables + length w.locks + (length (own_columns_from w.owns 1 w.created) + length w.created)
length-columns w =
    let own = own_columns_from w.owns 1 w.created in
    let counters = counters_from 1 w.created in
    omega (arith, length-append (w.variables ++ w.locks) (own ++ counters), length-append w.variables w.locks, length-append own counters, length-counters_from 1 w.created)

-- ---- refusals

-- at one place, none comes before one whose code is not greater
not_before : (code other place : ℕ) → code ≤ other → ¬ Precedes (record { code = other; place = place }) (record { code = code; place = place })
not_before code other place low (inl before) = absurd (omega arith)
not_before code other place low (inr before) = absurd (omega (arith, before.1))

after_no_thread : (tree : plain.Tree) (other : Refusal) → IsCounted tree other → ¬ Precedes other (record { code = no_thread; place = main_place tree.items })
after_no_thread tree _ (IsCounted.no_threads none) = not_before no_thread no_thread (main_place tree.items) (omega arith)
after_no_thread tree _ (IsCounted.many_columns many) = not_before no_thread too_many (main_place tree.items) (omega arith)

after_too_many : (tree : plain.Tree) → ¬ (created_of tree ≡ []) → (other : Refusal) → IsCounted tree other → ¬ Precedes other (record { code = too_many; place = main_place tree.items })
after_too_many tree some _ (IsCounted.no_threads none) = absurd (some none)
after_too_many tree some _ (IsCounted.many_columns many) = not_before too_many too_many (main_place tree.items) (omega arith)

pub refused-broken : (tree : plain.Tree) (w : Walk) (refusal : Refusal) → IsWalked tree w → w.refusal ≡ Some refusal → IsRefused tree refusal
refused-broken tree w refusal found is = inl (first_of-is (broken_in tree) refusal (sym found.refusal ∙ is))

none_broken : (tree : plain.Tree) (w : Walk) → IsWalked tree w → w.refusal ≡ None → broken_in tree ≡ []
none_broken tree w found is = first_of-none (broken_in tree) (sym found.refusal ∙ is)

pub refused-no_thread : (tree : plain.Tree) (w : Walk) → IsWalked tree w → w.refusal ≡ None → w.created ≡ [] → IsRefused tree (record { code = no_thread; place = unwrap_or w.main 0 })
refused-no_thread tree w found is none =
    subst (λ place. IsRefused tree (record { code = no_thread; place = place })) (sym found.main)
    (inr (none_broken tree w found is, record { broken = IsCounted.no_threads (sym found.created ∙ none); none_earlier = after_no_thread tree }))

pub refused-too_many : (tree : plain.Tree) (w : Walk) → IsWalked tree w → w.refusal ≡ None → ¬ (w.created ≡ []) → most_columns < length (plan_from w).columns
    → IsRefused tree (record { code = too_many; place = unwrap_or w.main 0 })
refused-too_many tree w found is some many =
    subst (λ place. IsRefused tree (record { code = too_many; place = place })) (sym found.main)
    (inr (
      none_broken tree w found is,
      record {
        broken = IsCounted.many_columns (subst (λ n. most_columns < n) (ap length (plan-is tree w found).columns_are) many);
        none_earlier = after_too_many tree (λ none. some (found.created ∙ none));
      },
    ))

pub is_accepted : (tree : plain.Tree) (w : Walk) → IsWalked tree w → w.refusal ≡ None → ¬ (w.created ≡ []) → length (plan_from w).columns ≤ most_columns → IsAccepted tree
is_accepted tree w found is some few = record {
  none_broken = none_broken tree w found is;
  some_threads = λ none. some (found.created ∙ none);
  few_columns = subst (λ n. n ≤ most_columns) (ap length (plan-is tree w found).columns_are) few;
}

pub refused-if_some : (tree : plain.Tree) (w : Walk) (refusal : Option Refusal) → w.refusal ≡ refusal → is_some refusal ≡ true → IsWalked tree w → MatchOption refusal (IsAccepted tree) (IsRefused tree)
refused-if_some tree w (Some refusal) is some found = refused-broken tree w refusal found is
refused-if_some tree w None is some found = cc

pub none-if : (refusal : Option Refusal) → is_some refusal ≡ false → refusal ≡ None
none-if None none = refl
none-if (Some refusal) none = cc

-- a sum that ends at a greatest number
pub capped : (n more most : ℕ) → min (min n most + more) most ≡ min (n + more) most
capped n more most = omega arith
