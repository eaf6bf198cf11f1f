-- The words of each home beside the facts in order.
use Rattle.std.proofs.Common.{◌≡◌, ◌≢◌, ◌↔◌, ◌⊎◌, ℕ, zero, suc, ◌+◌, ◌-◌, ◌^◌, ◌<◌, ◌≤◌, ◌==◌, Bool, true, false, cond, List, [], ◌∷◌, ◌++◌, map, filter, length, set, get_or, take, IsTrue, not, append-nil, Result, Ok, Err, Some, refl, sym, ap, subst, ◌∙◌, arith, inl, inr}
use Rattle.std.specs.Bool.{if◌then◌else◌}
use Rattle.std.specs.Result.{is_ok, is_err}
use Rattle.std.specs.List.{Contains, slice_get, Any}
use Rattle.std.proofs.lemmas.Bool.{eqb-true, eq-eqb}
use Rattle.std.proofs.lemmas.List.{map-append, map-set, length-map, get_or-map, length-append, set-get_or}
use Rattle.std.proofs.Math.Seq.{take-append_seam}
use Rattle.std.proofs.lemmas.List.Elements.{filter-append}
use Rattle.std.proofs.lemmas.Option.{slice_get-get_or}
use Rattle.thr_base.specs.declared.names.Fact.{Fact as StoredFact}
use Rattle.serial_fix.specs.inside.Found.{held_at, IsIndex}
use Rattle.horn_rules.proofs.Lists.{Contains-first as first, Contains-later as later, first-or-later, contains-nothing}

-- the fact at the home of a number with a word
abbrev pub fact_at : ℕ → ℕ → StoredFact
fact_at n held = record { home = record { 0 = n }; held = held }

is-fact_at : (n held : ℕ) (fact : StoredFact) → fact.home.0 ≡ n → fact.held ≡ held → fact ≡ fact_at n held
is-fact_at n held fact at is = ap (λ m. fact_at m fact.held) at ∙ ap (fact_at n) is

-- ---- a word is held at a home exactly where its fact is there

-- the words at a home of a list whose first fact passes the test or not
abbrev words-after : ℕ → Bool → StoredFact → List StoredFact → List ℕ
words-after n b fact facts = map (λ (f : StoredFact). f.held) (cond b (fact ∷ filter (λ (f : StoredFact). f.home.0 == n) facts) (filter (λ (f : StoredFact). f.home.0 == n) facts))

held-first : (n held : ℕ) (fact : StoredFact) (facts : List StoredFact) (b : Bool) → (fact.home.0 == n) ≡ b → (Contains (held_at n facts) held → Contains facts (fact_at n held))
    → Contains (words-after n b fact facts) held → Contains (fact ∷ facts) (fact_at n held)
held-first n held fact facts true at rest c = elim (first-or-later fact.held held (held_at n facts) c) [
  | inl is ↦ (0, omega arith, is-fact_at n held fact (eqb-true fact.home.0 n at) is)
  | inr there ↦ later fact (fact_at n held) facts (rest there)
]
held-first n held fact facts false at rest c = later fact (fact_at n held) facts (rest c)

pub held-there : (n held : ℕ) (facts : List StoredFact) → Contains (held_at n facts) held → Contains facts (fact_at n held)
held-there n held [] c = absurd (contains-nothing held c)
held-there n held (fact ∷ facts) c = held-first n held fact facts (fact.home.0 == n) refl (held-there n held facts) c

there-first : (fact one : StoredFact) (facts : List StoredFact) (b : Bool) → (one.home.0 == fact.home.0) ≡ b → (Contains facts fact → Contains (held_at fact.home.0 facts) fact.held)
    → Contains (one ∷ facts) fact → Contains (words-after fact.home.0 b one facts) fact.held
there-first fact one facts true at rest c = elim (first-or-later one fact facts c) [
  | inl is ↦ (0, omega arith, ap (λ (f : StoredFact). f.held) is)
  | inr there ↦ later one.held fact.held (held_at fact.home.0 facts) (rest there)
]
there-first fact one facts false at rest c = elim (first-or-later one fact facts c) [
  | inl is ↦ let same : (one.home.0 == fact.home.0) ≡ true = eq-eqb one.home.0 fact.home.0 (ap (λ (f : StoredFact). f.home.0) is) in cc
  | inr there ↦ rest there
]

pub there-held : (facts : List StoredFact) (fact : StoredFact) → Contains facts fact → Contains (held_at fact.home.0 facts) fact.held
there-held [] fact c = absurd (contains-nothing fact c)
there-held (one ∷ facts) fact c = there-first fact one facts (one.home.0 == fact.home.0) refl (there-held facts fact) c

-- a test by the words is one by the facts
pub there-exactly : (r : Bool) (held : List ℕ) (n word : ℕ) (facts : List StoredFact) → held ≡ held_at n facts → (IsTrue r ↔ Contains held word) → IsTrue r ↔ Contains facts (fact_at n word)
there-exactly r held n word facts is (there, back) = (
  λ t. held-there n word facts (subst (λ l. Contains l word) is (there t)),
  λ c. back (subst (λ l. Contains l word) (sym is) (there-held facts (fact_at n word) c)),
)

-- a home has a word exactly where a fact stands there
pub some-there : (n : ℕ) (facts : List StoredFact) (held : List ℕ) → held ≡ held_at n facts → held ≢ [] → Any (λ (f : StoredFact). f.home.0 ≡ n) facts
some-there n facts [] is more = absurd (more refl)
some-there n facts (word ∷ held) is more =
    let (k, within, at) = held-there n word facts (subst (λ l. Contains l word) is (first word held)) in
    (k, fact_at n word, within, at, refl)

pub there-some : (n : ℕ) (facts : List StoredFact) (held : List ℕ) → held ≡ held_at n facts → Any (λ (f : StoredFact). f.home.0 ≡ n) facts → held ≢ []
there-some n facts held is (k, fact, within, at, home) none =
    let there : Contains (held_at n facts) fact.held = subst (λ m. Contains (held_at m facts) fact.held) home (there-held facts fact (k, within, at)) in
    contains-nothing fact.held (subst (λ l. Contains l fact.held) (sym is ∙ none) there)

-- ---- the words of a home in the code

pub words-at : {X : Type 0} (f : X → List ℕ) (xs : List X) (facts : List StoredFact) (n : ℕ) (x : X)
    → IsIndex (map f xs) facts → 0 < n → n ≤ length xs → x ≡ get_or xs (n - 1) x → f x ≡ held_at n facts
words-at f xs facts n x is from to at =
    let within : n - 1 < length (map f xs) = omega (arith, length-map xs f) in
    let inside : n - 1 < length xs = omega arith in
    let got : slice_get (map f xs) (n - 1) ≡ Some (f x) =
    slice_get-get_or (map f xs) (n - 1) [] within ∙ ap Some (get_or-map f xs (n - 1) x [] inside) ∙ ap (λ y. Some (f y)) (sym at) in
    let same : suc (n - 1) ≡ n = omega arith in
    is.at_home (n - 1) (f x) got ∙ ap (λ m. held_at m facts) same

-- ---- one more fact

got-set : (ws : List (List ℕ)) (place p : ℕ) (w held : List ℕ) → slice_get (set ws place w) p ≡ Some held → ((p ≡ place) × (held ≡ w)) ⊎ ((p ≢ place) × (slice_get ws p ≡ Some held))
got-set [] place p w held e = cc
got-set (v ∷ ws) zero zero w held e = let same : held ≡ w = cc in inl (refl, same)
got-set (v ∷ ws) zero (suc p) w held e = inr (λ h. absurd (omega arith), e)
got-set (v ∷ ws) (suc place) zero w held e = inr (λ h. absurd (omega arith), e)
got-set (v ∷ ws) (suc place) (suc p) w held e = elim (got-set ws place p w held e) [
  | inl (at, is) ↦ inl (ap suc at, is)
  | inr (apart, there) ↦ inr ((λ h. apart (omega arith)), there)
]

held_at-push : (n : ℕ) (facts : List StoredFact) (fact : StoredFact) → held_at n (facts ++ fact ∷ []) ≡ held_at n facts ++ held_at n (fact ∷ [])
held_at-push n facts fact =
    let p = λ (f : StoredFact). f.home.0 == n in
    ap (map (λ (f : StoredFact). f.held)) (filter-append p facts (fact ∷ [])) ∙ map-append (λ (f : StoredFact). f.held) (filter p facts) (filter p (fact ∷ []))

one-here : (n : ℕ) (fact : StoredFact) → fact.home.0 ≡ n → held_at n (fact ∷ []) ≡ fact.held ∷ []
one-here n fact at =
    let passes : (fact.home.0 == n) ≡ true = eq-eqb fact.home.0 n at in
    ap (λ b. map (λ (f : StoredFact). f.held) (cond b (fact ∷ []) [])) passes

one-elsewhere : (n : ℕ) (fact : StoredFact) → fact.home.0 ≢ n → held_at n (fact ∷ []) ≡ []
one-elsewhere n fact apart = by-test (fact.home.0 == n) refl
  where
    by-test : (b : Bool) → (fact.home.0 == n) ≡ b → map (λ (f : StoredFact). f.held) (cond b (fact ∷ []) []) ≡ []
    by-test true at = absurd (apart (eqb-true fact.home.0 n at))
    by-test false at = refl

pub index-push : {X : Type 0} (f : X → List ℕ) (xs : List X) (facts all : List StoredFact) (fact : StoredFact) (new : X) (place : ℕ)
    → IsIndex (map f xs) facts → all ≡ facts ++ fact ∷ [] → suc place ≡ fact.home.0 → length facts + 1 < 2 ^ 32
    → f new ≡ held_at fact.home.0 facts ++ fact.held ∷ [] → IsIndex (map f (set xs place new)) all
index-push f xs facts all fact new place is more at room made = record {
  few = omega (arith, ap length more, length-append facts (fact ∷ []));
  at_home = λ p held got. here-or-there p held (got-set (map f xs) place p (f new) held (subst (λ ws. slice_get ws p ≡ Some held) (map-set f xs place new) got));
}
  where
    here-or-there : (p : ℕ) (held : List ℕ) → ((p ≡ place) × (held ≡ f new)) ⊎ ((p ≢ place) × (slice_get (map f xs) p ≡ Some held)) → held ≡ held_at (suc p) all
    here-or-there p held (inl (here, are)) =
        let home : fact.home.0 ≡ suc p = omega arith in
        are ∙ made ∙ ap (λ m. held_at m facts ++ fact.held ∷ []) home
        ∙ ap (λ l. held_at (suc p) facts ++ l) (sym (one-here (suc p) fact home)) ∙ sym (held_at-push (suc p) facts fact) ∙ ap (held_at (suc p)) (sym more)
    here-or-there p held (inr (apart, there)) =
        let elsewhere : fact.home.0 ≢ suc p = λ h. apart (omega arith) in
        is.at_home p held there ∙ sym (append-nil (held_at (suc p) facts))
        ∙ ap (λ l. held_at (suc p) facts ++ l) (sym (one-elsewhere (suc p) fact elsewhere)) ∙ sym (held_at-push (suc p) facts fact) ∙ ap (held_at (suc p)) (sym more)

-- a write that changes nothing
pub index-same : {X : Type 0} (f : X → List ℕ) (xs : List X) (facts all : List StoredFact) (new old : X) (place : ℕ)
    → IsIndex (map f xs) facts → all ≡ facts → place < length xs → f new ≡ f old → old ≡ get_or xs place old → IsIndex (map f (set xs place new)) all
index-same f xs facts all new old place is same within alike at =
    let unchanged : map f (set xs place new) ≡ map f xs =
    map-set f xs place new
    ∙ ap (set (map f xs) place) (alike ∙ ap f at ∙ sym (get_or-map f xs place old [] within))
    ∙ set-get_or (map f xs) place [] in
    subst (λ ws. IsIndex ws all) (sym unchanged) (subst (IsIndex (map f xs)) (sym same) is)

pub popped : (facts pushed left : List StoredFact) (fact : StoredFact) (n : ℕ) → pushed ≡ facts ++ fact ∷ [] → left ≡ take (n - 1) pushed → n ≡ length facts + 1 → left ≡ facts
popped facts pushed left fact n more is count =
    let from : n - 1 ≡ length facts = omega arith in
    is ∙ ap (λ k. take k pushed) from ∙ ap (take (length facts)) more ∙ take-append_seam facts (fact ∷ [])

-- whether a home has no words says whether no fact stands there
pub some-exactly : (r : Bool) (n : ℕ) (facts : List StoredFact) (held : List ℕ) → r ≡ (length held == 0) → held ≡ held_at n facts
    → IsTrue (not r) ↔ Any (λ (f : StoredFact). f.home.0 ≡ n) facts
some-exactly true n facts [] e is = (λ t. cc, λ some. absurd (there-some n facts [] is some refl))
some-exactly false n facts [] e is = cc
some-exactly true n facts (word ∷ held) e is = absurd (omega (arith, eqb-true (length (word ∷ held)) 0 (sym e)))
some-exactly false n facts (word ∷ held) e is = (λ t. some-there n facts (word ∷ held) is (λ none. cc), λ some. refl)

-- ---- a push that fails, and one that does not

pub kept-on-err : {A T E : Type 0} (r : Result T E) (new pushed old : List A) → true ≡ is_err r → new ≡ (if is_ok r then pushed else old) → new ≡ old
kept-on-err (Ok v) new pushed old failed is = cc
kept-on-err (Err e) new pushed old failed is = is

pub made-on-ok : {A T E : Type 0} (r : Result T E) (new pushed old : List A) → false ≡ is_err r → new ≡ (if is_ok r then pushed else old) → new ≡ pushed
made-on-ok (Ok v) new pushed old succeeded is = is
made-on-ok (Err e) new pushed old succeeded is = cc
