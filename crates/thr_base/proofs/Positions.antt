-- The positions that a word holds.
use Rattle.std.proofs.Common.{◌≡◌, ◌≢◌, ℕ, zero, suc, ◌+◌, ◌-◌, ◌*◌, ◌/◌, ◌^◌, ◌<◌, ◌≤◌, Bool, true, false, cond, List, [], ◌∷◌, ◌++◌, filter, refl, sym, ap, subst, ◌∙◌, arith, inl, inr, append_assoc}
use Rattle.std.specs.Prelude.{◌==◌}
use Rattle.std.specs.List.{Contains, range_with_len}
use Rattle.std.specs.Int.{bit_at}
use Rattle.std.proofs.lemmas.Bool.{cases_lt}
use Rattle.std.proofs.lemmas.Bool.Decides.{eqb_tells}
use Rattle.std.proofs.lemmas.List.Elements.{filter-append}
use Rattle.std.proofs.Math.Nat.{pow-suc}
use Rattle.std.proofs.lemmas.Nat.Bits.{bit_at-suc, bit_at-zero, bit_at-lt, bit_at_above, same_from_bits}
use Rattle.thr_base.specs.Held.{holds, positions, Rise, ArePositionsOf, PositionsTellWords, WordsAreBelow}

-- ---- the numbers of a range that pass a test

first : {A : Type 0} (x : A) (xs : List A) → Contains (x ∷ xs) x
first x xs = (0, omega arith, refl)

later : {A : Type 0} (x y : A) (xs : List A) → Contains xs y → Contains (x ∷ xs) y
later x y xs (k, h, e) = (suc k, omega arith, e)

rise-perhaps : (b : Bool) (last a : ℕ) (rest : List ℕ) → last < a → Rise a rest → Rise last rest → Rise last (cond b (a ∷ rest) rest)
rise-perhaps true last a rest h one other = (h, one)
rise-perhaps false last a rest h one other = other

rise-range : (p : ℕ → Bool) (n a last : ℕ) → last < a → Rise last (filter p (range_with_len a n))
rise-range p zero a last h = tt
rise-range p (suc n) a last h =
    rise-perhaps (p a) last a (filter p (range_with_len (a + 1) n)) h (rise-range p n (a + 1) a (omega arith)) (rise-range p n (a + 1) last (omega arith))

data IsFirstOrLater (b : Bool) (a : ℕ) (rest : List ℕ) (k : ℕ) : Type 0 where
  is_first : b ≡ true → a ≡ k → IsFirstOrLater b a rest k
  is_later : Contains rest k → IsFirstOrLater b a rest k

first-or-later : (b : Bool) (a : ℕ) (rest : List ℕ) (k : ℕ) → Contains (cond b (a ∷ rest) rest) k → IsFirstOrLater b a rest k
first-or-later true a rest k (zero, h, e) = is_first refl e
first-or-later true a rest k (suc j, h, e) = is_later (j, omega arith, e)
first-or-later false a rest k there = is_later there

-- what is left of a range passes
range-passes : (p : ℕ → Bool) (n a k : ℕ) → Contains (filter p (range_with_len a n)) k → (a ≤ k) × (k < a + n) × (p k ≡ true)
range-passes p zero a k (j, h, e) = absurd (omega arith)
range-passes p (suc n) a k there = elim (first-or-later (p a) a (filter p (range_with_len (a + 1) n)) k there) [
  | is_first passes same ↦ (omega arith, omega arith, ap p (sym same) ∙ passes)
  | is_later rest ↦ let found = range-passes p n (a + 1) k rest in (omega (arith, found.0), omega (arith, found.1), found.2)
]

contains-perhaps : (b : Bool) (a k : ℕ) (rest : List ℕ) → Contains rest k → Contains (cond b (a ∷ rest) rest) k
contains-perhaps true a k rest there = later a k rest there
contains-perhaps false a k rest there = there

contains-this : (b : Bool) (a : ℕ) (rest : List ℕ) → b ≡ true → Contains (cond b (a ∷ rest) rest) a
contains-this true a rest e = first a rest
contains-this false a rest e = cc

-- what passes is left
passes-range : (p : ℕ → Bool) (n a k : ℕ) → a ≤ k → k < a + n → p k ≡ true → Contains (filter p (range_with_len a n)) k
passes-range p zero a k low high passes = absurd (omega arith)
passes-range p (suc n) a k low high passes =
    let rest = filter p (range_with_len (a + 1) n) in
    elim (eqb_tells a k) [
      | inl (hit, same) ↦ subst (λ j. Contains (cond (p a) (a ∷ rest) rest) j) same (contains-this (p a) a rest (ap p same ∙ passes))
      | inr (miss, apart) ↦ contains-perhaps (p a) a k rest (passes-range p n (a + 1) k (omega arith) (omega arith) passes)
    ]

-- a range of which nothing passes
none-passes : (p : ℕ → Bool) (n a : ℕ) → ((k : ℕ) → a ≤ k → p k ≡ false) → filter p (range_with_len a n) ≡ []
none-passes p zero a none = refl
none-passes p (suc n) a none =
    ap (λ b. cond b (a ∷ filter p (range_with_len (a + 1) n)) (filter p (range_with_len (a + 1) n))) (none a (omega arith))
    ∙ none-passes p n (a + 1) (λ k above. none k (omega arith))

both-perhaps : (b c : Bool) (a : ℕ) (xs ys zs : List ℕ) → b ≡ c → xs ≡ ys ++ zs → cond b (a ∷ xs) xs ≡ cond c (a ∷ ys) ys ++ zs
both-perhaps b true a xs ys zs same is = rw same (ap (λ l. a ∷ l) is)
both-perhaps b false a xs ys zs same is = rw same is

-- one more number passes, behind all others that do
range-last : (p q : ℕ → Bool) (n a m : ℕ) → a ≤ m → m < a + n → ((k : ℕ) → a ≤ k → k ≢ m → q k ≡ p k) → q m ≡ true → ((k : ℕ) → m ≤ k → p k ≡ false)
    → filter q (range_with_len a n) ≡ filter p (range_with_len a n) ++ m ∷ []
range-last p q zero a m low high same there none = absurd (omega arith)
range-last p q (suc n) a m low high same there none = elim (eqb_tells a m) [
  | inl (hit, is) ↦ here is
  | inr (miss, apart) ↦
      both-perhaps (q a) (p a) a (filter q (range_with_len (a + 1) n)) (filter p (range_with_len (a + 1) n)) (m ∷ []) (same a (omega arith) apart)
      (range-last p q n (a + 1) m (omega arith) (omega arith) (λ k above other. same k (omega arith) other) there none)
]
  where
    here : a ≡ m → filter q (range_with_len a (suc n)) ≡ filter p (range_with_len a (suc n)) ++ m ∷ []
    here is =
        let rest_q : filter q (range_with_len (a + 1) n) ≡ [] = none-passes q n (a + 1) (λ k above. same k (omega arith) (omega arith) ∙ none k (omega arith)) in
        let rest_p : filter p (range_with_len (a + 1) n) ≡ [] = none-passes p n (a + 1) (λ k above. none k (omega arith)) in
        ap (λ b. cond b (a ∷ filter q (range_with_len (a + 1) n)) (filter q (range_with_len (a + 1) n))) (ap q is ∙ there)
        ∙ ap (λ l. a ∷ l) rest_q
        ∙ ap (λ k. k ∷ []) is
        ∙ sym (ap (λ l. l ++ m ∷ []) (ap (λ b. cond b (a ∷ filter p (range_with_len (a + 1) n)) (filter p (range_with_len (a + 1) n))) (none a (omega arith)) ∙ rest_p))

-- ---- bits

-- a position that is held has its bit set
pub holds-bit : (held k : ℕ) → holds held k ≡ true → bit_at held (k - 1) ≡ 1
holds-bit held k e = elim (eqb_tells (bit_at held (k - 1)) 1) [
  | inl (hit, same) ↦ same
  | inr (miss, apart) ↦ let wrong : false ≡ true = sym miss ∙ e in cc
]

-- and one whose bit is set is held
pub bit-holds : (held k : ℕ) → bit_at held (k - 1) ≡ 1 → holds held k ≡ true
bit-holds held k e = ap (λ b. b == 1) e

-- nothing above is held by a small word
not-above : (held n k : ℕ) → held < 2 ^ n → n < k → holds held k ≡ false
not-above held n k small above = ap (λ b. b == 1) (bit_at_above held n (k - 1) small (omega arith))

-- what a word holds with one more position, above all others
pub positions-last : (held next position : ℕ) → 0 < position → position ≤ 128 → held < 2 ^ (position - 1) → ((k : ℕ) → 0 < k → k ≢ position → holds next k ≡ holds held k)
    → holds next position ≡ true → positions next ≡ positions held ++ position ∷ []
unfolding positions
positions-last held next position from_1 to_128 small others there =
    range-last (holds held) (holds next) 128 1 position from_1 (omega arith) (λ k above other. others k (omega arith) other) there (λ k above. not-above held (position - 1) k small (omega arith))

-- a loop over positions begins
pub positions-start : (held : ℕ) (done : List ℕ) → done ≡ [] → done ++ filter (holds held) (range_with_len 1 128) ≡ positions held
unfolding positions
positions-start held done is = ap (λ l. l ++ filter (holds held) (range_with_len 1 128)) is

-- a loop over positions has come one further
pub positions-next : (held : ℕ) (done more : List ℕ) (k : ℕ) → k < 129 → more ≡ done ++ filter (holds held) (k ∷ [])
    → done ++ filter (holds held) (range_with_len k (129 - k)) ≡ positions held → more ++ filter (holds held) (range_with_len (k + 1) (129 - (k + 1))) ≡ positions held
unfolding positions
positions-next held done more k below is made =
    let rest = range_with_len (k + 1) (129 - (k + 1)) in
    let left : 129 - k ≡ suc (129 - (k + 1)) = omega arith in
    ap (λ l. l ++ filter (holds held) rest) is
    ∙ append_assoc done (filter (holds held) (k ∷ [])) (filter (holds held) rest)
    ∙ ap (λ l. done ++ l) (sym (filter-append (holds held) (k ∷ []) rest))
    ∙ ap (λ n. done ++ filter (holds held) (range_with_len k n)) (sym left)
    ∙ made

-- ---- laws

pub are-positions : (held : ℕ) → ArePositionsOf held (positions held)
unfolding positions
are-positions held = record {
  rising = rise-range (holds held) 128 1 0 (omega arith);
  exact = λ k. (
    λ there. let found = range-passes (holds held) 128 1 k there in (omega (arith, found.0), omega (arith, found.1), found.2),
    λ is. passes-range (holds held) 128 1 k (omega (arith, is.0)) (omega (arith, is.1)) is.2,
  );
}

-- a word without bits from n on is below 2 ^ n
bits-below : (n held : ℕ) → ((i : ℕ) → n ≤ i → bit_at held i ≡ 0) → held < 2 ^ n
bits-below zero held none =
    let is : held ≡ 0 = same_from_bits held 0 (λ i. none i (omega arith) ∙ sym (bit_at-zero i)) in
    omega arith
bits-below (suc n) held none =
    let half : held / 2 < 2 ^ n = bits-below n (held / 2) (λ i above. sym (bit_at-suc held i) ∙ none (suc i) (omega arith)) in
    let twice : 2 ^ suc n ≡ 2 ^ n * 2 = pow-suc 2 n in
    omega arith

-- the position of a bit that is set is held
bit-position : (held i : ℕ) → i < 128 → bit_at held i ≡ 1 → Contains (positions held) (suc i)
bit-position held i below set =
    let at : suc i - 1 ≡ i = omega arith in
    ((are-positions held).exact (suc i)).1 (omega arith, omega arith, bit-holds held (suc i) (ap (bit_at held) at ∙ set))

position-bit : (held i : ℕ) → Contains (positions held) (suc i) → bit_at held i ≡ 1
position-bit held i there =
    let at : suc i - 1 ≡ i = omega arith in
    sym (ap (bit_at held) at) ∙ holds-bit held (suc i) (((are-positions held).exact (suc i)).0 there).2

unset : (held i : ℕ) → bit_at held i ≢ 1 → bit_at held i ≡ 0
unset held i apart = omega (arith, bit_at-lt held i, apart)

-- words of the same positions have the same bits
same-bits : (one other i : ℕ) → i < 128 → positions one ≡ positions other → bit_at one i ≡ bit_at other i
same-bits one other i below same = elim (eqb_tells (bit_at one i) 1) [
  | inl (hit, set) ↦ set ∙ sym (position-bit other i (subst (λ l. Contains l (suc i)) same (bit-position one i below set)))
  | inr (miss, apart) ↦
      unset one i apart
      ∙ sym (unset other i (λ set. apart (position-bit one i (subst (λ l. Contains l (suc i)) (sym same) (bit-position other i below set)))))
]

pub positions-tell : PositionsTellWords
positions-tell one other small_one small_other same = same_from_bits one other (λ i. elim (cases_lt i 128) [
  | inl below ↦ same-bits one other i below same
  | inr above ↦ bit_at_above one 128 i small_one above ∙ sym (bit_at_above other 128 i small_other above)
])

pub words-below : WordsAreBelow
words-below held n small within = (to, from)
  where
    to : held < 2 ^ n → (k : ℕ) → Contains (positions held) k → k ≤ n
    to few k there = elim (cases_lt n k) [
      | inl above ↦
          let set : holds held k ≡ true = (((are-positions held).exact k).0 there).2 in
          let wrong : false ≡ true = sym (not-above held n k few above) ∙ set in
          cc
      | inr not_above ↦ not_above
    ]

    no-bit : ((k : ℕ) → Contains (positions held) k → k ≤ n) → (i : ℕ) → n ≤ i → bit_at held i ≡ 0
    no-bit each i above = elim (cases_lt i 128) [
      | inl below ↦ unset held i (λ set. let beyond : suc i ≤ n = each (suc i) (bit-position held i below set) in absurd (omega arith))
      | inr beyond ↦ bit_at_above held 128 i small beyond
    ]

    from : ((k : ℕ) → Contains (positions held) k → k ≤ n) → held < 2 ^ n
    from each = bits-below n held (no-bit each)
