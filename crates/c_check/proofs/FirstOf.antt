-- The first refusal of a list: what it is, when there is none, and that of lists which stand behind each other.
use Rattle.std.specs.Prelude.{◌≡◌, zero, suc, ◌⊎◌, List, [], ◌∷◌, ◌++◌, Option, Some, None, Contains, refl}
use Rattle.std.proofs.Common.{arith, sym, ◌∙◌, ap, subst, inl, inr}
use Rattle.thr_base.specs.declared.stops.Refusal.{Refusal}
use Rattle.thr_base.specs.Refusals.{Precedes, IsFirst}
use Rattle.c_check.specs.First.{FirstsAreFirst, earlier, first_of, of_two}

-- ---- of two

-- Which of three comes first does not depend on the order in which they are compared.
pub of_two-of_two : (d e f : Refusal) → of_two d (of_two e f) ≡ of_two (of_two d e) f
of_two-of_two d e f = grind arith

pub earlier-earlier : (a b c : Option Refusal) → earlier a (earlier b c) ≡ earlier (earlier a b) c
earlier-earlier None b c = refl
earlier-earlier (Some d) None c = refl
earlier-earlier (Some d) (Some e) None = refl
earlier-earlier (Some d) (Some e) (Some f) = ap Some (of_two-of_two d e f)

-- Beside none a refusal is the first.
pub earlier-none : (a : Option Refusal) → earlier a None ≡ a
earlier-none None = refl
earlier-none (Some d) = refl

-- ---- of lists

-- The first refusal of two lists is the earlier one of their first ones.
pub first_of-append : (ds es : List Refusal) → first_of (ds ++ es) ≡ earlier (first_of ds) (first_of es)
first_of-append [] es = refl
first_of-append (d ∷ ds) es = ap (earlier (Some d)) (first_of-append ds es) ∙ earlier-earlier (Some d) (first_of ds) (first_of es)

-- Only an empty list has no first refusal.
pub some-first : (d : Refusal) (other : Option Refusal) → ¬ (earlier (Some d) other ≡ None)
some-first d None none = absurd (cc)
some-first d (Some e) none = absurd (cc)

pub first_of-none : (ds : List Refusal) → first_of ds ≡ None → ds ≡ []
first_of-none [] none = refl
first_of-none (d ∷ ds) none = absurd (some-first d (first_of ds) none)

-- What comes before the earlier of two comes before both; no refusal comes before itself.
pub precedes-of_two : (o d e : Refusal) → Precedes o (of_two d e) → Precedes o d × Precedes o e
precedes-of_two o d e before = grind arith

pub precedes-itself : (d : Refusal) → ¬ Precedes d d
precedes-itself d before = grind arith

-- What is said of the first element and of those behind it is said of all.
pub contains-cases : (d : Refusal) (ds : List Refusal) (P : Refusal → Type 0) → P d → ((o : Refusal) → Contains ds o → P o) → (o : Refusal) → Contains (d ∷ ds) o → P o
contains-cases d ds P here rest o (zero, within, at) = subst P at here
contains-cases d ds P here rest o (suc k, within, at) = rest o (k, omega arith, at)

pub contains-first : (d : Refusal) (ds : List Refusal) → Contains (d ∷ ds) d
contains-first d ds = (0, omega arith, refl)

pub contains-behind : (d : Refusal) (ds : List Refusal) (o : Refusal) → Contains ds o → Contains (d ∷ ds) o
contains-behind d ds o (k, within, at) = (suc k, omega arith, at)

-- The earlier of two is one of them.
pub of_two-cases : (d e : Refusal) → (of_two d e ≡ d) ⊎ (of_two d e ≡ e)
of_two-cases d e = grind arith

-- The first refusal of a list is in it, and none in it comes before.
pub is_first-alone : (e : Refusal) → IsFirst (Contains (e ∷ [])) e
is_first-alone e =
    record { broken = contains-first e []; none_earlier = contains-cases e [] (λ o. ¬ Precedes o e) (precedes-itself e) (λ o (_, within, _). absurd (omega arith)) }

pub is_first-of_two : (e : Refusal) (es : List Refusal) (f : Refusal) → IsFirst (Contains es) f → IsFirst (Contains (e ∷ es)) (of_two e f)
is_first-of_two e es f first = record {
  broken = elim (of_two-cases e f) [
    | inl is ↦ subst (Contains (e ∷ es)) (sym is) (contains-first e es)
    | inr is ↦ subst (Contains (e ∷ es)) (sym is) (contains-behind e es f first.broken)
  ];
  none_earlier = contains-cases e es (λ o. ¬ Precedes o (of_two e f)) (λ before. precedes-itself e (precedes-of_two e e f before).0)
      (λ o there before. first.none_earlier o there (precedes-of_two o e f before).1);
}

pub first_of-is : (ds : List Refusal) (d : Refusal) → first_of ds ≡ Some d → IsFirst (Contains ds) d
first_of-is [] d is = absurd (grind arith)
first_of-is (e ∷ []) d is = let same : e ≡ d = cc in subst (IsFirst (Contains (e ∷ []))) same (is_first-alone e)
first_of-is (e ∷ f ∷ fs) d is = by_rest (first_of (f ∷ fs)) refl (first_of-is (f ∷ fs)) is
  where
    by_rest : (rest : Option Refusal) → first_of (f ∷ fs) ≡ rest → ((g : Refusal) → first_of (f ∷ fs) ≡ Some g → IsFirst (Contains (f ∷ fs)) g) → earlier (Some e) rest ≡ Some d → IsFirst (Contains (e ∷ f ∷ fs)) d
    by_rest None none first same = absurd (some-first f (first_of fs) none)
    by_rest (Some g) found first same = let it : of_two e g ≡ d = cc in subst (IsFirst (Contains (e ∷ f ∷ fs))) it (is_first-of_two e (f ∷ fs) g (first g found))

pub firsts-first : FirstsAreFirst
firsts-first = record { is_first = first_of-is; none_where_empty = first_of-none; of_both = first_of-append }
