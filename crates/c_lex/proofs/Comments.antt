-- Where a comment ends.
use Rattle.std.proofs.Common.{◌≡◌, ℕ, ◌+◌, ◌-◌, ◌<◌, ◌≤◌, true, false, cond, ◌&&◌, eqb, List, [], ◌∷◌, length, drop, get_or, Option, Some, None, refl, ap, ◌∙◌, arith}
use Rattle.std.specs.Prelude.{option_map}
use Rattle.std.proofs.lemmas.List.{drop_more, length-drop}
use Rattle.std.proofs.lemmas.Bool.Decides.{nat_tests}
use Rattle.c_lex.specs.Piece.{through_close}

-- the same place, counted from k bytes before
abbrev pub shifted : ℕ → Option ℕ → Option ℕ
shifted k place = option_map (λ n. k + n) place

shifted_one : (k : ℕ) (place : Option ℕ) → shifted k (option_map (λ n. 1 + n) place) ≡ shifted (k + 1) place
shifted_one k None = refl
shifted_one k (Some n) = ap Some (omega arith)

closed_here : (b c : ℕ) (bs : List ℕ) → b ≡ 42 → c ≡ 47 → through_close (b ∷ c ∷ bs) ≡ Some 2
closed_here b c bs first second = rw (first, second) refl

test_off : (b c : ℕ) (x y : Option ℕ) → (b ≡ 42 → c ≡ 47 → ⊥) → cond (eqb 42 b && (eqb 47 c && true)) x y ≡ y
test_off b c x y off = grind (arith, nat_tests)

closed_later : (b c : ℕ) (bs : List ℕ) → (b ≡ 42 → c ≡ 47 → ⊥) → through_close (b ∷ c ∷ bs) ≡ option_map (λ n. 1 + n) (through_close (c ∷ bs))
closed_later b c bs off = test_off b c (Some 2) _ off

pub closed_at : (bs : List ℕ) (i : ℕ) → 1 ≤ i → i < length bs → get_or bs (i - 1) 0 ≡ 42 → get_or bs i 0 ≡ 47 → shifted (i - 1) (through_close (drop (i - 1) bs)) ≡ Some (i + 1)
closed_at bs i low lt first second =
    let k : i - 1 + 1 ≡ i = omega arith in
    let two : i - 1 + 2 ≡ i + 1 = omega arith in
    rw (drop_more bs (i - 1) 0 (omega arith), k, drop_more bs i 0 lt) (ap (shifted (i - 1)) (closed_here _ _ (drop (i + 1) bs) first second) ∙ ap Some two)

pub not_closed_at : (bs : List ℕ) (i : ℕ) → 1 ≤ i → i < length bs → (get_or bs (i - 1) 0 ≡ 42 → get_or bs i 0 ≡ 47 → ⊥) → shifted (i - 1) (through_close (drop (i - 1) bs)) ≡ shifted (i + 1 - 1) (through_close (drop (i + 1 - 1) bs))
not_closed_at bs i low lt off =
    let k : i - 1 + 1 ≡ i = omega arith in
    let next : i + 1 - 1 ≡ i = omega arith in
    let one = shifted_one (i - 1) (through_close (get_or bs i 0 ∷ drop (i + 1) bs)) ∙ ap (λ (n : ℕ). shifted n (through_close (get_or bs i 0 ∷ drop (i + 1) bs))) k in
    rw (next, drop_more bs (i - 1) 0 (omega arith), k, drop_more bs i 0 lt) (ap (shifted (i - 1)) (closed_later _ _ (drop (i + 1) bs) off) ∙ one)

short_open : (bs : List ℕ) → length bs ≤ 1 → through_close bs ≡ None
short_open [] le = refl
short_open (b ∷ []) le = ap (λ t. cond t (Some 2) None) (single b)
  where
    single : (b : ℕ) → (eqb 42 b && false) ≡ false
    single b = grind (arith, nat_tests)
short_open (b ∷ c ∷ bs) le = absurd (omega arith)

pub never_closed : (bs : List ℕ) (i : ℕ) → length bs ≤ i → shifted (i - 1) (through_close (drop (i - 1) bs)) ≡ None
never_closed bs i le = ap (shifted (i - 1)) (short_open (drop (i - 1) bs) (omega (arith, length-drop (i - 1) bs)))
