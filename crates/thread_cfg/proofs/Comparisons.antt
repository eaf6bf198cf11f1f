-- What a mark says of two numbers is that one of the relations of its true side holds, or else one of those of its false side.
use Rattle.std.proofs.Common.{◌≡◌, ◌⊎◌, ℤ, Bool, true, false, not, List, [], ◌∷◌, MatchBool, inl, inr, arith, refl, sym, int_eq, int_lt, true≢false}
use Rattle.std.proofs.lemmas.Int.{ints}
use Rattle.std.proofs.lemmas.Bool.Decides.{Decides-int_eq, not_from_Decides}
use Rattle.c_check.specs.declared.operation.Mark.{Mark}
use Rattle.c_check.specs.declared.operation.Mark.TheVariants as mark
use Rattle.thread_cfg.specs.declared.relation.Relation.{Relation}
use Rattle.thread_cfg.specs.declared.relation.Relation.TheVariants as related
use Rattle.thread_cfg.specs.Source.{compared}
use Rattle.thread_cfg.specs.Path.{when_true, when_false}
use Rattle.thread_cfg.specs.Happen.{Holds}

-- One of the relations holds.
abbrev pub SomeHolds : List Relation → ℤ → ℤ → Type 0
SomeHolds [] x y = ⊥
SomeHolds (r ∷ rs) x y = Holds r x y ⊎ SomeHolds rs x y

-- two numbers that differ: one is less
pub apart : (x y : ℤ) → ¬ (x ≡ y) → SomeHolds (related.Less ∷ related.Greater ∷ []) x y
apart x y differ = by (int_lt x y) refl
  where
    by : (b : Bool) → int_lt x y ≡ b → SomeHolds (related.Less ∷ related.Greater ∷ []) x y
    by true e = inl (omega (arith, ints))
    by false e = inr (inl (omega (arith, ints)))

-- of two equal numbers none is less
beside : (x y : ℤ) → x ≡ y → ¬ SomeHolds (related.Less ∷ related.Greater ∷ []) x y
beside x y same h = elim h [ inl p ↦ omega (arith, ints) | inr h ↦ elim h [ inl p ↦ omega (arith, ints) | inr h ↦ h ] ]

-- two numbers that differ are in no relation of a list that holds equality alone
only : (x y : ℤ) → ¬ (x ≡ y) → ¬ SomeHolds (related.Equal ∷ []) x y
only x y differ h = elim h [ inl p ↦ differ p | inr h ↦ h ]

-- the relations of the true side are those of a comparison that is true, and so with the false side
pub compared-exact : (m : Mark) (x y : ℤ) (b : Bool) → compared m x y ≡ b
    → MatchBool b (SomeHolds (when_true m) x y × ¬ SomeHolds (when_false m) x y) (SomeHolds (when_false m) x y × ¬ SomeHolds (when_true m) x y)
compared-exact mark.Equal x y true e = let same : x ≡ y = (Decides-int_eq x y).0 e in (inl same, beside x y same)
compared-exact mark.Equal x y false e =
    let differ : ¬ (x ≡ y) = not_from_Decides (int_eq x y) (Decides-int_eq x y) e in (apart x y differ, only x y differ)
compared-exact mark.Unequal x y b e = by (int_eq x y) b refl e
  where
    by : (c b : Bool) → int_eq x y ≡ c → not c ≡ b
        → MatchBool b (SomeHolds (when_true mark.Unequal) x y × ¬ SomeHolds (when_false mark.Unequal) x y)
        (SomeHolds (when_false mark.Unequal) x y × ¬ SomeHolds (when_true mark.Unequal) x y)
    by true true p q = absurd (true≢false (sym q))
    by true false p q = let same : x ≡ y = (Decides-int_eq x y).0 p in (inl same, beside x y same)
    by false true p q = let differ : ¬ (x ≡ y) = not_from_Decides (int_eq x y) (Decides-int_eq x y) p in (apart x y differ, only x y differ)
    by false false p q = absurd (true≢false q)
compared-exact mark.Less x y true e = (inl (omega (arith, ints)), λ h. elim h [ inl p ↦ omega (arith, ints) | inr h ↦ h ])
compared-exact mark.Less x y false e = (inl (omega (arith, ints)), λ h. elim h [ inl p ↦ omega (arith, ints) | inr h ↦ h ])
compared-exact mark.AtMost x y true e = (inl (omega (arith, ints)), λ h. elim h [ inl p ↦ omega (arith, ints) | inr h ↦ h ])
compared-exact mark.AtMost x y false e = (inl (omega (arith, ints)), λ h. elim h [ inl p ↦ omega (arith, ints) | inr h ↦ h ])
compared-exact mark.Greater x y true e = (inl (omega (arith, ints)), λ h. elim h [ inl p ↦ omega (arith, ints) | inr h ↦ h ])
compared-exact mark.Greater x y false e = (inl (omega (arith, ints)), λ h. elim h [ inl p ↦ omega (arith, ints) | inr h ↦ h ])
compared-exact mark.AtLeast x y true e = (inl (omega (arith, ints)), λ h. elim h [ inl p ↦ omega (arith, ints) | inr h ↦ h ])
compared-exact mark.AtLeast x y false e = (inl (omega (arith, ints)), λ h. elim h [ inl p ↦ omega (arith, ints) | inr h ↦ h ])

-- numbers of which one is less differ
pub differs : (x y : ℤ) → SomeHolds (related.Less ∷ related.Greater ∷ []) x y → int_eq x y ≡ false
differs x y h = by (int_eq x y) refl
  where
    by : (b : Bool) → int_eq x y ≡ b → int_eq x y ≡ false
    by true e = absurd (beside x y ((Decides-int_eq x y).0 e) h)
    by false e = e
