-- An instance gives one thing at most, since rising lists with the same elements are the same.
use Rattle.std.proofs.Common.{◌≡◌, ℕ, zero, suc, ◌<◌, ◌≤◌, List, [], ◌∷◌, Some, None, refl, sym, ap, ap₂, ◌∙◌, arith}
use Rattle.std.specs.List.{Contains}
use Rattle.thr_base.specs.Held.{Rise}
use Rattle.lin_rows.specs.Row.{Row}
use Rattle.horn_rules.specs.Home.{Home}
use Rattle.horn_rules.specs.Fact.{Sets, Fact}
use Rattle.horn_rules.specs.Case.{Case}
use Rattle.horn_rules.specs.Post.{AreEntailed, IsFactOf}
use Rattle.horn_rules.specs.Laws.{PostsAreUnique}
use Rattle.horn_rules.proofs.Lists.{Contains-first, Contains-later}

-- an element is the first one or among the rest
data IsAmong (x : ℕ) (xs : List ℕ) (k : ℕ) : Type 0 where
  here : x ≡ k → IsAmong x xs k
  later : Contains xs k → IsAmong x xs k

among : (x : ℕ) (xs : List ℕ) (k : ℕ) → Contains (x ∷ xs) k → IsAmong x xs k
among x xs k (zero, h, e) = here e
among x xs k (suc j, h, e) = later (j, omega arith, e)

nothing-in : (k : ℕ) → Contains [] k → ⊥
nothing-in k (j, h, e) = absurd (omega arith)

above : (last : ℕ) (xs : List ℕ) (k : ℕ) → Rise last xs → Contains xs k → last < k
above last [] k rise at = absurd (nothing-in k at)
above last (x ∷ xs) k rise at = elim (among x xs k at) [
  | here same ↦ let first : last < x = rise.0 in omega arith
  | later rest ↦ let first : last < x = rise.0 in let then : x < k = above x xs k rise.1 rest in omega arith
]

-- the first of a rising list is the least of it
first-least : (x y : ℕ) (ys : List ℕ) → Rise y ys → Contains (y ∷ ys) x → y ≤ x
first-least x y ys rise at = elim (among y ys x at) [
  | here same ↦ omega arith
  | later rest ↦ let then : y < x = above y ys x rise rest in omega arith
]

rest-of : (x y : ℕ) (xs ys : List ℕ) (k : ℕ) → x ≡ y → Rise x xs → ((j : ℕ) → Contains (x ∷ xs) j → Contains (y ∷ ys) j) → Contains xs k → Contains ys k
rest-of x y xs ys k same rise into at =
    let past : x < k = above x xs k rise at in
    elim (among y ys k (into k (Contains-later x k xs at))) [
      | here hit ↦ absurd (omega arith)
      | later rest ↦ rest
    ]

rising-same : (one other : ℕ) (xs ys : List ℕ) → Rise one xs → Rise other ys
    → ((k : ℕ) → Contains xs k → Contains ys k) → ((k : ℕ) → Contains ys k → Contains xs k) → xs ≡ ys
rising-same one other [] [] p q to from = refl
rising-same one other [] (y ∷ ys) p q to from = absurd (nothing-in y (from y (Contains-first y ys)))
rising-same one other (x ∷ xs) [] p q to from = absurd (nothing-in x (to x (Contains-first x xs)))
rising-same one other (x ∷ xs) (y ∷ ys) p q to from =
    let low : y ≤ x = first-least x y ys q.1 (to x (Contains-first x xs)) in
    let high : x ≤ y = first-least y x xs p.1 (from y (Contains-first y ys)) in
    let same : x ≡ y = omega arith in
    ap₂ (λ v vs. v ∷ vs) same (rising-same x y xs ys p.1 q.1 (λ k. rest-of x y xs ys k same p.1 to) (λ k. rest-of y x ys xs k (sym same) q.1 from))

positions-same : (given : Case) (atoms : List Row) (one other : List ℕ) → AreEntailed given atoms one → AreEntailed given atoms other → one ≡ other
positions-same given atoms one other a b =
    rising-same 0 0 one other a.rising b.rising (λ k there. (b.exact k).1 ((a.exact k).0 there)) (λ k there. (a.exact k).1 ((b.exact k).0 there))

pub posts-unique : PostsAreUnique
posts-unique given atoms None None a b = refl
posts-unique given atoms None (Some held) a b = absurd (b.open_system a)
posts-unique given atoms (Some held) None a b = absurd (a.open_system b)
posts-unique given atoms (Some one) (Some other) a b = ap Some (positions-same given atoms one other a b)

-- an instance gives one fact at most
pub facts-same : (sets : Sets) (given : Case) (one other : Fact) → IsFactOf sets given one → IsFactOf sets given other → one ≡ other
facts-same sets given one other a b =
    ap₂ (λ (home : Home) (held : List ℕ). record { home = home; held = held }) (a.at_target ∙ sym b.at_target)
    (positions-same given (sets given.target) one.held other.held a.entailed b.entailed)
