-- How many elements of a list pass a test.
use Rattle.std.proofs.Common.{◌≡◌, ◌<◌, ◌≤◌, ℕ, suc, Bool, true, false, List, [], ◌∷◌, length, refl, ap, ◌∙◌, inl, inr, arith}
use Rattle.std.specs.List.{Contains, filter}
use Rattle.horn_rules.proofs.Lists.{first-or-later, contains-nothing}
use Rattle.core_steps.proofs.Tests.{tells}

abbrev pub count : {A : Type 0} → (A → Bool) → List A → ℕ
count p xs = length (filter p xs)

pub count-all : {A : Type 0} (p : A → Bool) (xs : List A) → count p xs ≤ length xs
count-all p [] = omega arith
count-all p (x ∷ xs) = elim (tells (p x)) [
  | inl hit ↦ let e : count p (x ∷ xs) ≡ suc (count p xs) = rw hit refl in let rest = count-all p xs in omega (arith, e, rest)
  | inr miss ↦ let e : count p (x ∷ xs) ≡ count p xs = rw miss refl in let rest = count-all p xs in omega (arith, e, rest)
]

pub count-fewer : {A : Type 0} (p q : A → Bool) (xs : List A) → ((x : A) → p x ≡ true → q x ≡ true) → count p xs ≤ count q xs
count-fewer p q [] implies = omega arith
count-fewer p q (x ∷ xs) implies = elim (tells (p x)) [
  | inl hit ↦
      let also = implies x hit in
      let e : count p (x ∷ xs) ≡ suc (count p xs) = rw hit refl in
      let f : count q (x ∷ xs) ≡ suc (count q xs) = rw also refl in
      let rest = count-fewer p q xs implies in omega (arith, e, f, rest)
  | inr miss ↦
      let e : count p (x ∷ xs) ≡ count p xs = rw miss refl in
      let rest = count-fewer p q xs implies in
      elim (tells (q x)) [
        | inl also ↦ let f : count q (x ∷ xs) ≡ suc (count q xs) = rw also refl in omega (arith, e, f, rest)
        | inr never ↦ let f : count q (x ∷ xs) ≡ count q xs = rw never refl in omega (arith, e, f, rest)
      ]
]

-- of what is left there are no more
pub count-left : {A : Type 0} (p keep : A → Bool) (xs : List A) → count p (filter keep xs) ≤ count p xs
count-left p keep [] = omega arith
count-left p keep (x ∷ xs) =
    let rest = count-left p keep xs in
    elim (tells (keep x)) [
      | inl kept ↦
          let l : filter keep (x ∷ xs) ≡ x ∷ filter keep xs = rw kept refl in
          let at = ap (count p) l in
          elim (tells (p x)) [
            | inl hit ↦
                let e : count p (x ∷ filter keep xs) ≡ suc (count p (filter keep xs)) = rw hit refl in
                let f : count p (x ∷ xs) ≡ suc (count p xs) = rw hit refl in omega (arith, at, e, f, rest)
            | inr miss ↦
                let e : count p (x ∷ filter keep xs) ≡ count p (filter keep xs) = rw miss refl in
                let f : count p (x ∷ xs) ≡ count p xs = rw miss refl in omega (arith, at, e, f, rest)
          ]
      | inr gone ↦
          let l : filter keep (x ∷ xs) ≡ filter keep xs = rw gone refl in
          let at = ap (count p) l in
          elim (tells (p x)) [
            | inl hit ↦ let f : count p (x ∷ xs) ≡ suc (count p xs) = rw hit refl in omega (arith, at, f, rest)
            | inr miss ↦ let f : count p (x ∷ xs) ≡ count p xs = rw miss refl in omega (arith, at, f, rest)
          ]
    ]

-- and fewer where one that passes is not kept
pub count-gone : {A : Type 0} (p keep : A → Bool) (xs : List A) (x : A) → Contains xs x → p x ≡ true → keep x ≡ false → count p (filter keep xs) < count p xs
count-gone p keep [] x c hit gone = absurd (contains-nothing x c)
count-gone p keep (y ∷ ys) x c hit gone = elim (first-or-later y x ys c) [
  | inl same ↦
      let hit_y : p y ≡ true = ap p same ∙ hit in
      let gone_y : keep y ≡ false = ap keep same ∙ gone in
      let l : filter keep (y ∷ ys) ≡ filter keep ys = rw gone_y refl in
      let at = ap (count p) l in
      let f : count p (y ∷ ys) ≡ suc (count p ys) = rw hit_y refl in
      let rest = count-left p keep ys in omega (arith, at, f, rest)
  | inr later ↦
      let rest = count-gone p keep ys x later hit gone in
      elim (tells (keep y)) [
        | inl kept ↦
            let l : filter keep (y ∷ ys) ≡ y ∷ filter keep ys = rw kept refl in
            let at = ap (count p) l in
            elim (tells (p y)) [
              | inl also ↦
                  let e : count p (y ∷ filter keep ys) ≡ suc (count p (filter keep ys)) = rw also refl in
                  let f : count p (y ∷ ys) ≡ suc (count p ys) = rw also refl in omega (arith, at, e, f, rest)
              | inr miss ↦
                  let e : count p (y ∷ filter keep ys) ≡ count p (filter keep ys) = rw miss refl in
                  let f : count p (y ∷ ys) ≡ count p ys = rw miss refl in omega (arith, at, e, f, rest)
            ]
        | inr left_out ↦
            let l : filter keep (y ∷ ys) ≡ filter keep ys = rw left_out refl in
            let at = ap (count p) l in
            elim (tells (p y)) [
              | inl also ↦ let f : count p (y ∷ ys) ≡ suc (count p ys) = rw also refl in omega (arith, at, f, rest)
              | inr miss ↦ let f : count p (y ∷ ys) ≡ count p ys = rw miss refl in omega (arith, at, f, rest)
            ]
      ]
]
