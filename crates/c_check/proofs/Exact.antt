-- A text has one plan or one refusal, and never both.
use Rattle.std.proofs.Common.{◌≡◌, ◌⊎◌, ℕ, ◌<◌, ◌≤◌, nat_lt, ltb-true, ltb-false, Bool, true, false, List, [], ◌∷◌, length, map, Option, Some, None, inl, inr, refl, sym, subst, ◌∙◌, arith}
use Rattle.std.specs.Prelude.{Contains}
use Rattle.thr_base.specs.declared.stops.Refusal.{Refusal}
use Rattle.thr_base.specs.Limits.{most_columns}
use Rattle.thr_base.specs.Refusals.{IsFirst, Precedes, no_thread, too_many}
use Rattle.c_tree.specs.Plain as plain
use Rattle.c_check.specs.declared.plan.Plan.{Plan}
use Rattle.c_check.specs.First.{first_of}
use Rattle.c_check.specs.Program.{broken_in, created_of, functions_of, main_place}
use Rattle.c_check.specs.Check.{Breaks, ChecksAreExact, IsAccepted, IsCounted, IsPlanOf, IsRefused, stored_function}
use Rattle.c_check.specs.Columns.{columns_of, threads_of}
use Rattle.c_check.proofs.FirstOf.{first_of-is, first_of-none}

-- ---- first refusals

-- of two refusals one comes first, or they are one
one-precedes : (d e : Refusal) → ¬ Precedes d e → ¬ Precedes e d → d ≡ e
one-precedes d e before behind = grind arith

-- there is one first refusal
pub one-first : (P : Refusal → Type 0) (d e : Refusal) → IsFirst P d → IsFirst P e → d ≡ e
one-first P d e one other = one-precedes d e (other.none_earlier d one.broken) (one.none_earlier e other.broken)

-- nothing is the first of nothing
pub none-first : (ds : List Refusal) (d : Refusal) → ds ≡ [] → ¬ IsFirst (Contains ds) d
none-first ds d e first = none (subst (λ (l : List Refusal). Contains l d) e first.broken)
  where
    none : ¬ Contains [] d
    none h = omega (arith, h.1)

-- a list is empty or has a first refusal
pub none-or-first : (ds : List Refusal) → (ds ≡ []) ⊎ ((d : Refusal) × IsFirst (Contains ds) d)
none-or-first ds = by (first_of ds) refl
  where
    by : (o : Option Refusal) → first_of ds ≡ o → (ds ≡ []) ⊎ ((d : Refusal) × IsFirst (Contains ds) d)
    by None e = inl (first_of-none ds e)
    by (Some d) e = inr (d, first_of-is ds d e)

-- ---- names and form

-- what is accepted is not refused
pub accepted-not : (tree : plain.Tree) (d : Refusal) → IsAccepted tree → ¬ IsRefused tree d
accepted-not tree d accepted (inl first) = none-first (broken_in tree) d accepted.none_broken first
accepted-not tree d accepted (inr last) = not-counted d last.1.broken
  where
    not-counted : (e : Refusal) → ¬ IsCounted tree e
    not-counted e (IsCounted.no_threads none) = accepted.some_threads none
    not-counted e (IsCounted.many_columns many) = omega (arith, many, accepted.few_columns)

-- a text is refused once
pub refused-once : (tree : plain.Tree) (d e : Refusal) → IsRefused tree d → IsRefused tree e → d ≡ e
refused-once tree d e (inl one) (inl other) = one-first (Breaks tree) d e one other
refused-once tree d e (inl one) (inr other) = absurd (none-first (broken_in tree) d other.0 one)
refused-once tree d e (inr one) (inl other) = absurd (none-first (broken_in tree) e one.0 other)
refused-once tree d e (inr one) (inr other) = one-first (IsCounted tree) d e one.1 other.1

-- a tree is accepted or refused
pub accepted-or-refused : (tree : plain.Tree) → IsAccepted tree ⊎ ((d : Refusal) × IsRefused tree d)
accepted-or-refused tree = by (none-or-first (broken_in tree))
  where
    counted : broken_in tree ≡ [] → (ns : List ℕ) → created_of tree ≡ ns → (length (columns_of tree) ≤ most_columns) ⊎ (most_columns < length (columns_of tree))
        → IsAccepted tree ⊎ ((d : Refusal) × IsRefused tree d)
    counted e [] none few = inr (_, inr (e, record { broken = IsCounted.no_threads none; none_earlier = λ other broken. first other broken }))
      where
        first : (other : Refusal) → IsCounted tree other → ¬ Precedes other (record { code = no_thread; place = main_place tree.items })
        first other (IsCounted.no_threads none) before = grind arith
        first other (IsCounted.many_columns many) before = grind arith
    counted e (n ∷ ns) some (inl few) = inl (record { none_broken = e; some_threads = λ none. cons-not (sym some ∙ none); few_columns = few })
      where
        cons-not : ¬ ((n ∷ ns) ≡ [])
        cons-not e = cc
    counted e (n ∷ ns) some (inr many) = inr (_, inr (e, record { broken = IsCounted.many_columns many; none_earlier = λ other broken. first other broken }))
      where
        first : (other : Refusal) → IsCounted tree other → ¬ Precedes other (record { code = too_many; place = main_place tree.items })
        first other (IsCounted.no_threads none) before = cc
        first other (IsCounted.many_columns many) before = grind arith

    columns-few : (length (columns_of tree) ≤ most_columns) ⊎ (most_columns < length (columns_of tree))
    columns-few = few (nat_lt most_columns (length (columns_of tree))) refl
      where
        few : (b : Bool) → nat_lt most_columns (length (columns_of tree)) ≡ b → (length (columns_of tree) ≤ most_columns) ⊎ (most_columns < length (columns_of tree))
        few true e = inr (ltb-true most_columns (length (columns_of tree)) e)
        few false e = inl (ltb-false most_columns (length (columns_of tree)) e)

    by : (broken_in tree ≡ []) ⊎ ((d : Refusal) × IsFirst (Contains (broken_in tree)) d) → IsAccepted tree ⊎ ((d : Refusal) × IsRefused tree d)
    by (inl e) = counted e (created_of tree) refl columns-few
    by (inr first) = inr (first.0, inl first.1)

-- ---- plans

one-plan : (tree : plain.Tree) (plan other : Plan) → IsPlanOf tree plan → IsPlanOf tree other → plan ≡ other
one-plan tree plan other is also = λ i. record {
  columns = (is.columns_are ∙ sym also.columns_are) i;
  functions = (is.functions_are ∙ sym also.functions_are) i;
  threads = (is.threads_are ∙ sym also.threads_are) i;
}

plan-of : (tree : plain.Tree) → (plan : Plan) × IsPlanOf tree plan
plan-of tree = (
  record { columns = columns_of tree; functions = map stored_function (functions_of tree); threads = threads_of tree },
  record { columns_are = refl; functions_are = refl; threads_are = refl },
)

pub checks_exact : ChecksAreExact
checks_exact = record {
  one = one-plan;
  one_refusal = refused-once;
  not_both = accepted-not;
  either = λ tree. by tree (accepted-or-refused tree);
}
  where
    by : (tree : plain.Tree) → IsAccepted tree ⊎ ((d : Refusal) × IsRefused tree d) → (IsAccepted tree × ((plan : Plan) × IsPlanOf tree plan)) ⊎ ((refusal : Refusal) × IsRefused tree refusal)
    by tree (inl accepted) = inl (accepted, plan-of tree)
    by tree (inr refused) = inr refused
