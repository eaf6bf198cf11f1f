-- The order of lines in the code is that of tables.
use Rattle.std.proofs.Common.{◌≡◌, ℕ, ◌==◌, true, List, [], ◌∷◌, map, refl, sym, ap, ap₂, subst, ◌∙◌, arith, nat_eq}
use Rattle.std.specs.Prelude.{◌&&◌, ◌↔◌}
use lib.Pointwise.{pointwise}
use Rattle.std.specs.List.{AllByRecursion, Contains, All, AllPairs, dedup}
use Rattle.std.specs.List.Sorted.{IsSorted, IsPermutation, IsStrictlySortedBy}
use Rattle.std.specs.Cmp.{IsTotalOrder, IsEquivalence}
use Rattle.std.specs.Cmp.Lexicographic.{slice_cmp}
use Rattle.std.specs.Ordering.{nat_cmp, ordering_then, ordering_reverse, eq_by_cmp, is_eq}
use Rattle.std.specs.declared.cmp.Ordering.{Ordering}
use Rattle.std.specs.declared.cmp.Ordering.TheVariants.{Less, Equal, Greater}
use Rattle.std.proofs.lemmas.Bool.Decides.{nat_tests}
use Rattle.std.proofs.lemmas.Cmp.{then_total, on_total, nat_list_cmp_total, eq_by_cmp_equiv}
use Rattle.std.proofs.lemmas.List.Elements.{All-cons, All-map}
use Rattle.std.proofs.lemmas.List.Kept.{AllPairs-cons, Any-dedup, Contains-from_dedup, IsStrictlySortedBy-dedup}
use Rattle.std.proofs.lemmas.List.Sorted.{Contains-permutation, IsPermutation-sym}
use Rattle.thr_base.specs.declared.names.Home.{Home as StoredHome}
use Rattle.thr_base.specs.declared.names.Home.TheVariants.{State as StoredState, Env as StoredEnv}
use Rattle.horn_rules.specs.Home.{Home, State, Env}
use Rattle.horn_rules.specs.Fact.{Fact}
use Rattle.horn_rules.specs.declared.lines.Line.{Line}
use Rattle.horn_rules.specs.inside.Lines.{fact_of_line}
use Rattle.horn_rules.specs.Table.{home_order, fact_order, Precedes}
use Rattle.horn_rules.specs.contracts.lines.LineOrd as ord
use Rattle.horn_rules.specs.contracts.lines.LinePartialEq as equal
use Rattle.horn_rules.proofs.Lists.{Contains-map, Contains-unmap}

-- ---- the order of facts is total, and ties are equal

then-equal : (o : Ordering) → ordering_then o Equal ≡ o
then-equal Less = refl
then-equal Equal = refl
then-equal Greater = refl

both-equal : (o p : Ordering) → ordering_then o p ≡ Equal → (o ≡ Equal) × (p ≡ Equal)
both-equal Less p e = cc
both-equal Equal p e = (refl, e)
both-equal Greater p e = cc

nat-equal : (x y : ℕ) → nat_cmp x y ≡ Equal → x ≡ y
nat-equal x y e = grind (arith, nat_tests)

list-equal : (xs ys : List ℕ) → slice_cmp nat_cmp xs ys ≡ Equal → xs ≡ ys
list-equal [] [] e = refl
list-equal [] (y ∷ ys) e = cc
list-equal (x ∷ xs) [] e = cc
list-equal (x ∷ xs) (y ∷ ys) e =
    let (heads, tails) = both-equal (nat_cmp x y) (slice_cmp nat_cmp xs ys) e in
    ap₂ (λ v vs. v ∷ vs) (nat-equal x y heads) (list-equal xs ys tails)

-- a home as numbers that are ordered like it
home_key : Home → List ℕ
home_key (State i l) = 0 ∷ i ∷ l ∷ []
home_key (Env i e) = 1 ∷ i ∷ e ∷ []

home-key : (a b : Home) → home_order a b ≡ slice_cmp nat_cmp (home_key a) (home_key b)
unfolding home_key
home-key (State i l) (State k m) = ap (ordering_then (nat_cmp i k)) (sym (then-equal (nat_cmp l m)))
home-key (State i l) (Env k e) = refl
home-key (Env i e) (State k l) = refl
home-key (Env i e) (Env k g) = ap (ordering_then (nat_cmp i k)) (sym (then-equal (nat_cmp e g)))

home-equal : (a b : Home) → home_order a b ≡ Equal → a ≡ b
home-equal (State i l) (State k m) e = let (one, two) = both-equal (nat_cmp i k) (nat_cmp l m) e in ap₂ State (nat-equal i k one) (nat-equal l m two)
home-equal (State i l) (Env k g) e = cc
home-equal (Env i g) (State k l) e = cc
home-equal (Env i g) (Env k h) e = let (one, two) = both-equal (nat_cmp i k) (nat_cmp g h) e in ap₂ Env (nat-equal i k one) (nat-equal g h two)

pub fact-equal : (a b : Fact) → fact_order a b ≡ Equal → a ≡ b
fact-equal a b e =
    let (homes, helds) = both-equal (home_order a.home b.home) (slice_cmp nat_cmp a.held b.held) e in
    ap₂ (λ (home : Home) (held : List ℕ). record { home = home; held = held }) (home-equal a.home b.home homes) (list-equal a.held b.held helds)

-- an order that answers as a total one does is total
total-alike : {A : Type 0} (R S : A → A → Ordering) → ((a b : A) → R a b ≡ S a b) → IsTotalOrder S → IsTotalOrder R
total-alike R S same o = record {
  antisymm = λ x y. same x y ∙ o.antisymm x y ∙ ap ordering_reverse (sym (same y x));
  trans = λ x y z a b. same x z ∙ o.trans x y z (sym (same x y) ∙ a) (sym (same y z) ∙ b);
  congr = λ x y z e. same x z ∙ o.congr x y z (sym (same x y) ∙ e) ∙ sym (same y z);
}

home-total : IsTotalOrder home_order
home-total = total-alike home_order (λ a b. slice_cmp nat_cmp (home_key a) (home_key b)) home-key (on_total home_key nat_list_cmp_total)

pub fact-total : IsTotalOrder fact_order
fact-total = then_total (on_total (λ (f : Fact). f.home) home-total) (on_total (λ (f : Fact). f.held) nat_list_cmp_total)

-- ---- lines

cmp-at : (a b : Line) (h k : StoredHome) → (ord.TheImpl.ghosts).cmp (record a { home = h }) (record b { home = k }) ≡ fact_order (fact_of_line (record a { home = h })) (fact_of_line (record b { home = k }))
cmp-at a b (StoredState i l) (StoredState k m) = refl
cmp-at a b (StoredState i l) (StoredEnv k e) = refl
cmp-at a b (StoredEnv i e) (StoredState k l) = refl
cmp-at a b (StoredEnv i e) (StoredEnv k g) = refl

pub line-cmp : (a b : Line) → (ord.TheImpl.ghosts).cmp a b ≡ fact_order (fact_of_line a) (fact_of_line b)
line-cmp a b = cmp-at a b a.home b.home

pub line-total : IsTotalOrder (ord.TheImpl.ghosts).cmp
line-total = total-alike (ord.TheImpl.ghosts).cmp (λ a b. fact_order (fact_of_line a) (fact_of_line b)) line-cmp (on_total fact_of_line fact-total)

eq-then : (o p : Ordering) → is_eq (ordering_then o p) ≡ is_eq o && is_eq p
eq-then Less p = refl
eq-then Equal p = refl
eq-then Greater p = refl

eq-nat : (x y : ℕ) → is_eq (nat_cmp x y) ≡ (x == y)
eq-nat x y = grind (arith, nat_tests)

eq-list : (xs ys : List ℕ) → is_eq (slice_cmp nat_cmp xs ys) ≡ pointwise nat_eq xs ys
eq-list [] [] = refl
eq-list [] (y ∷ ys) = refl
eq-list (x ∷ xs) [] = refl
eq-list (x ∷ xs) (y ∷ ys) = eq-then (nat_cmp x y) (slice_cmp nat_cmp xs ys) ∙ ap₂ (λ p q. p && q) (eq-nat x y) (eq-list xs ys)

eq-three : (a b c d : ℕ) (xs ys : List ℕ) → ((nat_eq a b && nat_eq c d) && pointwise nat_eq xs ys) ≡ is_eq (ordering_then (ordering_then (nat_cmp a b) (nat_cmp c d)) (slice_cmp nat_cmp xs ys))
eq-three a b c d xs ys =
    sym (eq-then (ordering_then (nat_cmp a b) (nat_cmp c d)) (slice_cmp nat_cmp xs ys)
    ∙ ap₂ (λ p q. p && q) (eq-then (nat_cmp a b) (nat_cmp c d) ∙ ap₂ (λ p q. p && q) (eq-nat a b) (eq-nat c d)) (eq-list xs ys))

eq-at : (a b : Line) (h k : StoredHome) → (equal.TheImpl.ghosts).eq (record a { home = h }) (record b { home = k }) ≡ eq_by_cmp (ord.TheImpl.ghosts).cmp (record a { home = h }) (record b { home = k })
eq-at a b (StoredState i l) (StoredState k m) = eq-three i.0 k.0 l.0 m.0 a.held.items b.held.items
eq-at a b (StoredState i l) (StoredEnv k e) = refl
eq-at a b (StoredEnv i e) (StoredState k l) = refl
eq-at a b (StoredEnv i e) (StoredEnv k g) = eq-three i.0 k.0 e.0 g.0 a.held.items b.held.items

pub line-eq : (a b : Line) → (equal.TheImpl.ghosts).eq a b ≡ eq_by_cmp (ord.TheImpl.ghosts).cmp a b
line-eq a b = eq-at a b a.home b.home

-- ---- sorted lines without repetitions

precede-all : (y : Line) (ys : List Line) → AllByRecursion (λ z. (ord.TheImpl.ghosts).cmp y z ≡ Less) ys → All (λ z. Precedes (fact_of_line y) (fact_of_line z)) ys
precede-all y [] all = λ k d h. absurd (omega arith)
precede-all y (z ∷ zs) all = All-cons (λ z. Precedes (fact_of_line y) (fact_of_line z)) z zs (sym (line-cmp y z) ∙ all.0) (precede-all y zs all.1)

pairs-rise : (ys : List Line) → IsStrictlySortedBy (ord.TheImpl.ghosts).cmp ys → AllPairs Precedes (map fact_of_line ys)
unfolding IsStrictlySortedBy
pairs-rise [] sorted = λ i j d below within. absurd (omega arith)
pairs-rise (y ∷ ys) sorted = AllPairs-cons Precedes (fact_of_line y) (map fact_of_line ys) (All-map (Precedes (fact_of_line y)) fact_of_line ys (precede-all y ys sorted.0)) (pairs-rise ys sorted.1)

pub lines-rise : (xs ys : List Line) → IsSorted (ord.TheImpl.ghosts).cmp xs → ys ≡ dedup (equal.TheImpl.ghosts).eq xs → AllPairs Precedes (map fact_of_line ys)
lines-rise xs ys sorted is = pairs-rise ys (subst (IsStrictlySortedBy (ord.TheImpl.ghosts).cmp) (sym is) (IsStrictlySortedBy-dedup line-total line-eq xs sorted))

equality : IsEquivalence (equal.TheImpl.ghosts).eq
equality =
    let e = eq_by_cmp_equiv line-total in
    record {
      refl = λ x. line-eq x x ∙ e.refl x;
      symm = λ x y. line-eq x y ∙ e.symm x y ∙ sym (line-eq y x);
      congr = λ x y z h. line-eq x z ∙ e.congr x y z (sym (line-eq x y) ∙ h) ∙ sym (line-eq y z);
    }

is-equal : (o : Ordering) → is_eq o ≡ true → o ≡ Equal
is-equal Less e = cc
is-equal Equal e = refl
is-equal Greater e = cc

pub lines-same : (lines xs ys : List Line) (fact : Fact) → IsPermutation lines xs → ys ≡ dedup (equal.TheImpl.ghosts).eq xs → Contains (map fact_of_line ys) fact ↔ Contains (map fact_of_line lines) fact
lines-same lines xs ys fact moved is = (
  λ c.
      let (z, there, same) = Contains-unmap fact_of_line ys fact c in
      let kept = Contains-from_dedup (equal.TheImpl.ghosts).eq xs z (subst (λ l. Contains l z) is there) in
      subst (Contains (map fact_of_line lines)) same (Contains-map fact_of_line lines z (Contains-permutation xs lines z (IsPermutation-sym lines xs moved) kept)),
  λ c.
      let (z, there, same) = Contains-unmap fact_of_line lines fact c in
      let (k, y, within, at, alike) = Any-dedup equality xs z (Contains-permutation lines xs z moved there) in
      let tie : (ord.TheImpl.ghosts).cmp z y ≡ Equal = is-equal ((ord.TheImpl.ghosts).cmp z y) (sym (line-eq z y) ∙ alike) in
      let one : fact_of_line z ≡ fact_of_line y = fact-equal (fact_of_line z) (fact_of_line y) (sym (line-cmp z y) ∙ tie) in
      subst (Contains (map fact_of_line ys)) (sym one ∙ same) (Contains-map fact_of_line ys y (subst (λ l. Contains l y) (sym is) (k, within, at))),
)
