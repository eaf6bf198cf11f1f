-- Lists that are nothing.
use Rattle.std.proofs.Common.{◌≡◌, List, [], ◌∷◌, ◌++◌, refl}

-- a list put together of two is nothing where both are
pub nil-front : {A : Type 0} (xs ys : List A) → xs ++ ys ≡ [] → xs ≡ []
nil-front [] ys e = refl
nil-front (x ∷ xs) ys e = absurd cc

-- and so its second part is nothing
pub nil-rest : {A : Type 0} (xs ys : List A) → xs ++ ys ≡ [] → ys ≡ []
nil-rest [] ys e = e
nil-rest (x ∷ xs) ys e = absurd cc
