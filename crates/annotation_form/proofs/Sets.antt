-- The predicates of each home, and how they grow.
use Rattle.std.proofs.Common.{◌≡◌, ◌≢◌, ℕ, zero, suc, ◌-◌, ◌<◌, Bool, true, false, List, [], ◌∷◌, ◌++◌, length, map, get_or, set, replicate, Some, refl, sym, ap, ap₂, subst, ◌∙◌, arith, inl, inr, ◌⊎◌, append-nil, length-append}
use Rattle.std.specs.Prelude.{if◌then◌else◌, option_map}
use Rattle.std.specs.List.{slice_get}
use Rattle.std.proofs.lemmas.Bool.Decides.{eqb_tells}
use Rattle.std.proofs.lemmas.Option.{slice_get-map, get_or_from_slice_get}
use Rattle.thr_base.specs.Limits.{most_predicates}
use Rattle.lin_rows.specs.Row.{Row}
use Rattle.lin_rows.proofs.Lists.{AllByRecursion-append, AllByRecursion-rest}
use Rattle.transition_formula.specs.Program.{Program, at_number}
use Rattle.horn_rules.specs.Home.{Home, State, Env, homes}
use Rattle.horn_rules.specs.Fact.{IsAtomOf, IsSetOf}
use Rattle.horn_rules.specs.Stored.{same_home}
use Rattle.horn_rules.proofs.StoredSets.{one-number}
use Rattle.predicate_sets.specs.HomeSet.{AreDistinct, Lacks}
use Rattle.predicate_sets.proofs.Atoms.{AreDistinct-append}
use Rattle.predicate_sets.specs.Sets.{set_at, with_set}
use Rattle.annotation_form.specs.Predicates.{Predicate, IsPredicateOf, AreAllowed, home_atoms, lists_of}
use Rattle.annotation_form.specs.inside.Reading.{HasRoom}

-- ---- the atoms at a home

pub same_home-tells : (a b : Home) → ((same_home a b ≡ true) × (a ≡ b)) ⊎ ((same_home a b ≡ false) × (a ≢ b))
same_home-tells (State i l) (State j m) = elim (eqb_tells i j) [
  | inl p ↦ elim (eqb_tells l m) [ inl q ↦ inl (rw (p.0, q.0) refl, ap₂ State p.1 q.1) | inr q ↦ inr (rw (p.0, q.0) refl, λ e. q.1 (cc)) ]
  | inr p ↦ inr (rw p.0 refl, λ e. p.1 (cc))
]
same_home-tells (State i l) (Env j m) = inr (refl, λ e. cc)
same_home-tells (Env i l) (State j m) = inr (refl, λ e. cc)
same_home-tells (Env i l) (Env j m) = elim (eqb_tells i j) [
  | inl p ↦ elim (eqb_tells l m) [ inl q ↦ inl (rw (p.0, q.0) refl, ap₂ Env p.1 q.1) | inr q ↦ inr (rw (p.0, q.0) refl, λ e. q.1 (cc)) ]
  | inr p ↦ inr (rw p.0 refl, λ e. p.1 (cc))
]

if-append : (b : Bool) (a : Row) (r s : List Row) → (if b then a ∷ (r ++ s) else r ++ s) ≡ (if b then a ∷ r else r) ++ s
if-append true a r s = refl
if-append false a r s = refl

pub home_atoms-append : (home : Home) (xs ys : List Predicate) → home_atoms home (xs ++ ys) ≡ home_atoms home xs ++ home_atoms home ys
home_atoms-append home [] ys = refl
home_atoms-append home (p ∷ xs) ys =
    ap (λ (r : List Row). if same_home home p.home then p.atom ∷ r else r) (home_atoms-append home xs ys)
    ∙ if-append (same_home home p.home) p.atom (home_atoms home xs) (home_atoms home ys)

home_atoms-here : (home : Home) (p : Predicate) → home ≡ p.home → home_atoms home (p ∷ []) ≡ p.atom ∷ []
home_atoms-here home p e = elim (same_home-tells home p.home) [
  | inl hit ↦ rw hit.0 refl
  | inr miss ↦ absurd (miss.1 e)
]

home_atoms-elsewhere : (home : Home) (p : Predicate) → home ≢ p.home → home_atoms home (p ∷ []) ≡ []
home_atoms-elsewhere home p other = elim (same_home-tells home p.home) [
  | inl hit ↦ absurd (other hit.1)
  | inr miss ↦ rw miss.0 refl
]

pub home_atoms-more : (home : Home) (xs : List Predicate) (p : Predicate) → home ≡ p.home → home_atoms home (xs ++ p ∷ []) ≡ home_atoms home xs ++ p.atom ∷ []
home_atoms-more home xs p e = home_atoms-append home xs (p ∷ []) ∙ ap (λ (r : List Row). home_atoms home xs ++ r) (home_atoms-here home p e)

pub home_atoms-same : (home : Home) (xs : List Predicate) (p : Predicate) → home ≢ p.home → home_atoms home (xs ++ p ∷ []) ≡ home_atoms home xs
home_atoms-same home xs p other = home_atoms-append home xs (p ∷ []) ∙ ap (λ (r : List Row). home_atoms home xs ++ r) (home_atoms-elsewhere home p other) ∙ append-nil (home_atoms home xs)

-- ---- the sets

pub set_at-lists_of : (program : Program) (before : List Predicate) (n : ℕ) (home : Home) → at_number (homes program) n ≡ Some home → set_at (lists_of program before) n ≡ home_atoms home before
set_at-lists_of program before zero home e = cc
set_at-lists_of program before (suc k) home e =
    let place : suc k - 1 ≡ k = omega arith in
    let atoms = λ (h : Home). home_atoms h before in
    ap (λ (i : ℕ). get_or (lists_of program before) i []) place
    ∙ get_or_from_slice_get (lists_of program before) k (home_atoms home before) [] (slice_get-map atoms (homes program) k ∙ ap (option_map atoms) e)

-- two maps that differ at one place alone
map-same : {X Y : Type 0} (f g : X → Y) (xs : List X) → ((j : ℕ) (z : X) → slice_get xs j ≡ Some z → f z ≡ g z) → map f xs ≡ map g xs
map-same f g [] h = refl
map-same f g (x ∷ xs) h = ap₂ (λ y ys. y ∷ ys) (h 0 x refl) (map-same f g xs (λ j z e. h (suc j) z e))

map-set : {X Y : Type 0} (f g : X → Y) (xs : List X) (k : ℕ) (x : X) (y : Y) → slice_get xs k ≡ Some x → g x ≡ y → ((j : ℕ) (z : X) → slice_get xs j ≡ Some z → j ≢ k → f z ≡ g z)
    → set (map f xs) k y ≡ map g xs
map-set f g [] zero x y at is h = cc
map-set f g [] (suc k) x y at is h = cc
map-set f g (z ∷ xs) zero x y at is h =
    let same : z ≡ x = cc in
    ap₂ (λ v vs. v ∷ vs) (sym is ∙ ap g (sym same)) (map-same f g xs (λ j w e. h (suc j) w e (λ q. omega arith)))
map-set f g (z ∷ xs) (suc k) x y at is h =
    ap₂ (λ v vs. v ∷ vs) (h 0 z refl (λ q. omega arith)) (map-set f g xs k x y at is (λ j w e other. h (suc j) w e (λ q. other (omega arith))))

pub with_set-lists_of : (program : Program) (before : List Predicate) (n : ℕ) (home : Home) (atom : Row) → at_number (homes program) n ≡ Some home
    → with_set (lists_of program before) n (set_at (lists_of program before) n ++ atom ∷ []) ≡ lists_of program (before ++ record { home = home; atom = atom } ∷ [])
with_set-lists_of program before zero home atom e = cc
with_set-lists_of program before (suc k) home atom e =
    let p : Predicate = record { home = home; atom = atom } in
    let place : suc k - 1 ≡ k = omega arith in
    let here = set_at-lists_of program before (suc k) home e in
    ap (λ (s : List Row). set (lists_of program before) (suc k - 1) (s ++ atom ∷ [])) here
    ∙ ap (λ (i : ℕ). set (lists_of program before) i (home_atoms home before ++ atom ∷ [])) place
    ∙ map-set (λ (h : Home). home_atoms h before) (λ (h : Home). home_atoms h (before ++ p ∷ [])) (homes program) k home (home_atoms home before ++ atom ∷ []) e
    (home_atoms-more home before p refl)
    (λ j z at other. sym (home_atoms-same z before p (λ same. other (one-number program j k home (at ∙ ap Some same) e))))

pub lists_of-none : (program : Program) → lists_of program [] ≡ replicate (length (homes program)) []
lists_of-none program = none (homes program)
  where
    none : (hs : List Home) → map (λ home. home_atoms home []) hs ≡ replicate (length hs) []
    none [] = refl
    none (h ∷ hs) = ap (λ (r : List (List Row)). [] ∷ r) (none hs)

-- ---- what is allowed

pub allowed-none : (program : Program) → AreAllowed program []
allowed-none program = record {
  of_program = tt;
  are_sets = λ home. record { are_atoms = tt; none_twice = tt };
  few = λ home. omega arith;
}

set-more : (program : Program) (home : Home) (atoms : List Row) (atom : Row) → IsSetOf program home atoms → IsAtomOf program home atom → Lacks atoms atom → IsSetOf program home (atoms ++ atom ∷ [])
set-more program home atoms atom is one lacks = record {
  are_atoms = AllByRecursion-append (IsAtomOf program home) atoms (atom ∷ []) is.are_atoms (one, tt);
  none_twice = AreDistinct-append atoms atom is.none_twice lacks;
}

pub allowed-more : (program : Program) (before : List Predicate) (p : Predicate) → AreAllowed program before → IsPredicateOf program p → HasRoom before p → AreAllowed program (before ++ p ∷ [])
allowed-more program before p allowed is has = record {
  of_program = AllByRecursion-append (IsPredicateOf program) before (p ∷ []) allowed.of_program (is, tt);
  are_sets = λ home. elim (same_home-tells home p.home) [
    | inl hit ↦ rw (home_atoms-more home before p hit.1) (set-here home hit.1)
    | inr miss ↦ rw (home_atoms-same home before p miss.1) (allowed.are_sets home)
  ];
  few = λ home. elim (same_home-tells home p.home) [
    | inl hit ↦ omega (arith, ap length (home_atoms-more home before p hit.1), length-append (home_atoms home before) (p.atom ∷ []), few-here home hit.1)
    | inr miss ↦ omega (arith, ap length (home_atoms-same home before p miss.1), allowed.few home)
  ];
}
  where
    set-here : (home : Home) → home ≡ p.home → IsSetOf program home (home_atoms home before ++ p.atom ∷ [])
    set-here home e = subst (λ h. IsSetOf program h (home_atoms h before ++ p.atom ∷ [])) (sym e) (set-more program p.home (home_atoms p.home before) p.atom (allowed.are_sets p.home) is.is_atom has.lacks)

    few-here : (home : Home) → home ≡ p.home → length (home_atoms home before) < most_predicates
    few-here home e = subst (λ h. length (home_atoms h before) < most_predicates) (sym e) has.room

lacks-from : (xs : List Row) (a : Row) (ys : List Row) → AreDistinct (xs ++ a ∷ ys) → Lacks xs a
lacks-from [] a ys h = tt
lacks-from (x ∷ xs) a ys h = ((λ e. (AllByRecursion-rest (λ other. other ≢ x) xs (a ∷ ys) h.0).0 (sym e)), lacks-from xs a ys h.1)

-- what stands behind allowed predicates, in a longer list of such, has room there
pub allowed-room : (program : Program) (before : List Predicate) (p : Predicate) (more : List Predicate) → AreAllowed program (before ++ p ∷ more) → HasRoom before p
allowed-room program before p more allowed =
    let here : home_atoms p.home (before ++ p ∷ more) ≡ home_atoms p.home before ++ (p.atom ∷ home_atoms p.home more) =
    home_atoms-append p.home before (p ∷ more) ∙ ap (λ (r : List Row). home_atoms p.home before ++ r) (home_atoms-append p.home (p ∷ []) more ∙ ap (λ (r : List Row). r ++ home_atoms p.home more) (home_atoms-here p.home p refl)) in
    record {
      lacks = lacks-from (home_atoms p.home before) p.atom (home_atoms p.home more) (subst AreDistinct here (allowed.are_sets p.home).none_twice);
      room = omega (arith, allowed.few p.home, ap length here, length-append (home_atoms p.home before) (p.atom ∷ home_atoms p.home more));
    }

pub allowed-last : (program : Program) (before : List Predicate) (p : Predicate) (more : List Predicate) → AreAllowed program (before ++ p ∷ more) → IsPredicateOf program p
allowed-last program before p more allowed = (AllByRecursion-rest (IsPredicateOf program) before (p ∷ more) allowed.of_program).0
