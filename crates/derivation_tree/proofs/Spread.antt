-- Values that a list of variables has, and 0 elsewhere; the columns at which variables stand.
use Rattle.std.proofs.Common.{◌≡◌, ℕ, zero, suc, ◌+◌, ◌≤◌, List, [], ◌∷◌, map, length, Bool, true, false, ℤ, pos, ◌+ℤ◌, ◌*ℤ◌, refl, sym, ◌∙◌, ap, ap₂, subst, arith}
use Rattle.std.specs.Prelude.{◌||◌, if◌then◌else◌}
use Rattle.std.specs.List.{AllByRecursion, list_any, range_with_len}
use Rattle.std.proofs.lemmas.Int.{ints}
use Rattle.lin_rows.specs.Row.{product_of}
use Rattle.lin_rows.proofs.Integers.{mul-zero_ℤ, mul_comm_ℤ, one-mul_ℤ, zero-mul_ℤ}
use Rattle.lin_rows.proofs.Lists.{AllByRecursion-weaken}
use Rattle.transition_formula.specs.Program.{Program, Column, Thread, Edge}
use Rattle.transition_formula.specs.Rows.{is_kept}
use Rattle.horn_rules.specs.Home.{Home}
use Rattle.derivation_tree.specs.Tree.{Tree, Init, Own, Guar, Env, Inter, thread_at, edge_at, root_home, step_thread, step_edge}
use Rattle.derivation_tree.specs.Variable.{Variable, After, Before, Input, same_variable}
use Rattle.derivation_tree.specs.Nodes.{Sharing, Moments, shared, before_step, own_after, state_moments, moments_of, at_before}
use Rattle.derivation_tree.specs.Sums.{changed_coefficients}
use Rattle.derivation_tree.proofs.Values.{same-is, same-refl, IsNamed, AreApart}

-- ---- one variable, and a list of them

-- 1 for the variable, 0 for others
abbrev pub unit_of : Variable → Variable → ℤ
unit_of a w = if same_variable a w then pos 1 else pos 0

-- the values of v on the list; 0 elsewhere
abbrev pub spread : (Variable → ℤ) → List Variable → Variable → ℤ
spread v [] w = pos 0
spread v (a ∷ cs) w = v a *ℤ unit_of a w +ℤ spread v cs w

-- values of a linear function are made of those of single variables
pub record IsLinearOf (F : (Variable → ℤ) → ℤ) : Type 0 where
  pub none : F (λ w. pos 0) ≡ pos 0
  pub more : (k : ℤ) (x y : Variable → ℤ) → F (λ w. k *ℤ x w +ℤ y w) ≡ k *ℤ F x +ℤ F y

pub spread-product : (F : (Variable → ℤ) → ℤ) (v : Variable → ℤ) (cs : List Variable) → IsLinearOf F → F (spread v cs) ≡ product_of (map (λ a. F (unit_of a)) cs) (map v cs)
spread-product F v [] linear = linear.none
spread-product F v (a ∷ cs) linear =
    linear.more (v a) (unit_of a) (spread v cs) ∙ ap₂ (λ x y. x +ℤ y) (mul_comm_ℤ (v a) (F (unit_of a))) (spread-product F v cs linear)

neither : (x y : Bool) → (x || y) ≡ false → (x ≡ false) × (y ≡ false)
neither false false h = (refl, refl)
neither false true h = cc
neither true y h = cc

pub turned : (a w : Variable) → same_variable w a ≡ false → same_variable a w ≡ false
turned a w e = at (same_variable a w) refl
  where
    at : (b : Bool) → same_variable a w ≡ b → b ≡ false
    at false is = refl
    at true is = let same = same-is a w is in let here : same_variable w w ≡ false = ap (same_variable w) (sym same) ∙ e in let wrong : true ≡ false = sym (same-refl w) ∙ here in cc

none_here : (x t : ℤ) → t ≡ pos 0 → x *ℤ pos 0 +ℤ t ≡ pos 0
none_here x t e = omega (arith, ints, mul-zero_ℤ x)

one_here : (x t : ℤ) → t ≡ pos 0 → x *ℤ pos 1 +ℤ t ≡ x
one_here x t e = omega (arith, ints, mul_comm_ℤ x (pos 1), one-mul_ℤ x)

other_here : (x y t : ℤ) → t ≡ y → x *ℤ pos 0 +ℤ t ≡ y
other_here x y t e = omega (arith, ints, mul-zero_ℤ x)

spread-absent : (v : Variable → ℤ) (cs : List Variable) (w : Variable) → list_any (same_variable w) cs ≡ false → spread v cs w ≡ pos 0
spread-absent v [] w e = refl
spread-absent v (a ∷ cs) w e =
    let (here, later) = neither (same_variable w a) (list_any (same_variable w) cs) e in
    ap (λ (b : Bool). v a *ℤ (if b then pos 1 else pos 0) +ℤ spread v cs w) (turned a w here) ∙ none_here (v a) (spread v cs w) (spread-absent v cs w later)

-- on its own variables it is what v is
pub spread-there : (v : Variable → ℤ) (cs : List Variable) (w : Variable) → AreApart cs → IsNamed cs w → spread v cs w ≡ v w
spread-there v [] w apart named = cc
spread-there v (a ∷ cs) w apart named = at (λ named. spread-there v cs w apart.1 named) (same_variable a w) (same_variable w a) refl refl named
  where
    at : (IsNamed cs w → spread v cs w ≡ v w) → (b c : Bool) → same_variable a w ≡ b → same_variable w a ≡ c → (c || list_any (same_variable w) cs) ≡ true → v a *ℤ unit_of a w +ℤ spread v cs w ≡ v w
    at rest true c is back there =
        let same = same-is a w is in
        let none = ap (λ x. list_any (same_variable x) cs) (sym same) ∙ apart.0 in
        ap (λ (b : Bool). v a *ℤ (if b then pos 1 else pos 0) +ℤ spread v cs w) is ∙ one_here (v a) (spread v cs w) (spread-absent v cs w none) ∙ ap v same
    at rest false true is back there = let wrong : true ≡ false = sym back ∙ turned w a is in cc
    at rest false false is back there =
        ap (λ (b : Bool). v a *ℤ (if b then pos 1 else pos 0) +ℤ spread v cs w) is ∙ other_here (v a) (v w) (spread v cs w) (rest there)

-- ---- columns

-- the variable is of column k, or of one from k on
abbrev pub IsAt : ℕ → Variable → Type 0
IsAt k (After n c) = c ≡ k
IsAt k (Before n c) = c ≡ k
IsAt k (Input n c) = ⊥

abbrev pub IsFrom : ℕ → Variable → Type 0
IsFrom k (After n c) = k ≤ c
IsFrom k (Before n c) = k ≤ c
IsFrom k (Input n c) = ⊥

-- the variables are of columns k, and so on
abbrev pub StandAt : ℕ → List Variable → Type 0
StandAt k [] = Unit {0}
StandAt k (a ∷ cs) = IsAt k a × StandAt (suc k) cs

pub at-from : (k j : ℕ) (a : Variable) → j ≤ k → IsAt k a → IsFrom j a
at-from k j (After n c) h e = omega arith
at-from k j (Before n c) h e = omega arith
at-from k j (Input n c) h e = e

from-less : (k j : ℕ) (a : Variable) → j ≤ k → IsFrom k a → IsFrom j a
from-less k j (After n c) h e = omega arith
from-less k j (Before n c) h e = omega arith
from-less k j (Input n c) h e = e

pub stand-from : (k j : ℕ) (cs : List Variable) → j ≤ k → StandAt k cs → AllByRecursion (IsFrom j) cs
stand-from k j [] h all = tt
stand-from k j (a ∷ cs) h all = (at-from k j a h all.0, stand-from (suc k) j cs (omega arith) all.1)

both-at : (k : ℕ) (a : Variable) → IsAt k a → IsFrom (suc k) a → ⊥
both-at k (After n c) e h = omega arith
both-at k (Before n c) e h = omega arith
both-at k (Input n c) e h = e

-- variables of different columns differ
pub columns-apart : (k : ℕ) (a w : Variable) → IsAt k a → IsFrom (suc k) w → same_variable a w ≡ false
columns-apart k a w here later = at (same_variable a w) refl
  where
    at : (b : Bool) → same_variable a w ≡ b → b ≡ false
    at false is = refl
    at true is = absurd (both-at k a here (subst (IsFrom (suc k)) (sym (same-is a w is)) later))

pub not-later : (k : ℕ) (a : Variable) (cs : List Variable) → IsAt k a → AllByRecursion (IsFrom (suc k)) cs → list_any (same_variable a) cs ≡ false
not-later k a [] here all = refl
not-later k a (w ∷ cs) here all = ap₂ (λ x y. x || y) (columns-apart k a w here all.0) (not-later k a cs here all.1)

pub stand-apart : (k : ℕ) (cs : List Variable) → StandAt k cs → AreApart cs
stand-apart k [] all = tt
stand-apart k (a ∷ cs) all = (not-later k a cs all.0 (stand-from (suc k) (suc k) cs (omega arith) all.1), stand-apart (suc k) cs all.1)

pub shared-stand : (share : Sharing) (home : Home) (k : ℕ) (columns : List Column) (above fresh : List Variable) → StandAt k above → StandAt k fresh → StandAt k (shared share home columns above fresh)
shared-stand share home k [] above fresh p q = tt
shared-stand share home k (column ∷ columns) [] fresh p q = tt
shared-stand share home k (column ∷ columns) (a ∷ above) [] p q = tt
shared-stand share home k (column ∷ columns) (a ∷ above) (o ∷ fresh) p q = (at (share home column.owner), shared-stand share home (suc k) columns above fresh p.1 q.1)
  where
    at : (b : Bool) → IsAt k (if b then a else o)
    at true = p.0
    at false = q.0

before-stand : (n : ℕ) (thread : Thread) (edge : Edge) (k : ℕ) (after : List Variable) → StandAt k after → StandAt k (before_step n thread edge k after)
before-stand n thread edge k [] p = tt
before-stand n thread edge k (a ∷ after) p = (at (is_kept thread.counter edge k), before-stand n thread edge (suc k) after p.1)
  where
    at : (b : Bool) → IsAt k (if b then a else Before n k)
    at true = p.0
    at false = refl

range-stand : (n k m : ℕ) → StandAt k (map (After n) (range_with_len k m))
range-stand n k zero = tt
range-stand n k (suc m) = let next : k + 1 ≡ suc k = omega arith in (refl, subst (λ j. StandAt j (map (After n) (range_with_len (k + 1) m))) next (range-stand n (k + 1) m))

pub own-stand : (program : Program) (n : ℕ) → StandAt 0 (own_after program n)
own-stand program n = range-stand n 0 (length program.columns)

-- each variable before and after is of its column
pub record AtColumns (moments : Moments) : Type 0 where
  pub before : StandAt 0 moments.before
  pub after : StandAt 0 moments.after

state-columns : (program : Program) (share : Sharing) (n : ℕ) (tree : Tree) (above : Moments) → AtColumns above → AtColumns (state_moments program share n tree above)
state-columns program share n tree above at =
    let after = shared-stand share (root_home program tree) 0 program.columns above.after (own_after program n) at.after (own-stand program n) in
    record {
      before = before-stand n (thread_at program (step_thread program tree)) (edge_at program (step_thread program tree) (step_edge program tree)) 0 (state_moments program share n tree above).after after;
      after = after;
    }

pub moments-columns : (program : Program) (share : Sharing) (n : ℕ) (tree : Tree) (above : Moments) → AtColumns above → AtColumns (moments_of program share n tree above)
moments-columns program share n (Guar f e) above at =
    let inner = state-columns program share n (Guar f e) above at in
    record {
      before = shared-stand share (root_home program (Guar f e)) 0 program.columns above.before (state_moments program share n (Guar f e) above).before at.before inner.before;
      after = inner.after;
    }
moments-columns program share n (Init i) above at = state-columns program share n (Init i) above at
moments-columns program share n (Own f e) above at = state-columns program share n (Own f e) above at
moments-columns program share n (Env f t) above at = state-columns program share n (Env f t) above at
moments-columns program share n (Inter f g e) above at = state-columns program share n (Inter f g e) above at

pub before-columns : (moments : Moments) → AtColumns moments → AtColumns (at_before moments)
before-columns moments at = record { before = at.before; after = at.before }

-- ---- the variables before and after a step, each once

abbrev pub zipped : List Variable → List Variable → List Variable
zipped [] cs = []
zipped (b ∷ bs) [] = []
zipped (b ∷ bs) (a ∷ cs) = b ∷ (if same_variable b a then zipped bs cs else a ∷ zipped bs cs)

zipped-from : (k : ℕ) (bs cs : List Variable) → StandAt k bs → StandAt k cs → AllByRecursion (IsFrom k) (zipped bs cs)
zipped-from k [] cs p q = tt
zipped-from k (b ∷ bs) [] p q = tt
zipped-from k (b ∷ bs) (a ∷ cs) p q =
    let rest = AllByRecursion-weaken (IsFrom (suc k)) (IsFrom k) (λ w h. from-less (suc k) k w (omega arith) h) (zipped bs cs) (zipped-from (suc k) bs cs p.1 q.1) in
    (at-from k k b (omega arith) p.0, at (same_variable b a) rest)
  where
    at : (x : Bool) → AllByRecursion (IsFrom k) (zipped bs cs) → AllByRecursion (IsFrom k) (if x then zipped bs cs else a ∷ zipped bs cs)
    at true rest = rest
    at false rest = (at-from k k a (omega arith) q.0, rest)

pub zipped-apart : (k : ℕ) (bs cs : List Variable) → StandAt k bs → StandAt k cs → AreApart (zipped bs cs)
zipped-apart k [] cs p q = tt
zipped-apart k (b ∷ bs) [] p q = tt
zipped-apart k (b ∷ bs) (a ∷ cs) p q =
    let rest = zipped-from (suc k) bs cs p.1 q.1 in
    at (same_variable b a) refl (not-later k b (zipped bs cs) p.0 rest) (not-later k a (zipped bs cs) q.0 rest) (zipped-apart (suc k) bs cs p.1 q.1)
  where
    at : (x : Bool) → same_variable b a ≡ x → list_any (same_variable b) (zipped bs cs) ≡ false → list_any (same_variable a) (zipped bs cs) ≡ false → AreApart (zipped bs cs)
        → AreApart (b ∷ (if x then zipped bs cs else a ∷ zipped bs cs))
    at true is first second rest = (first, rest)
    at false is first second rest = (ap₂ (λ x y. x || y) is first, (second, rest))

or_later : (x y : Bool) → y ≡ true → (x || y) ≡ true
or_later true y e = refl
or_later false y e = e

either-named : (x : Bool) (a w : Variable) (rest : List Variable) → IsNamed rest w → IsNamed (if x then rest else a ∷ rest) w
either-named true a w rest h = h
either-named false a w rest h = or_later (same_variable w a) (list_any (same_variable w) rest) h

later-named : (b a : Variable) (bs cs : List Variable) (w : Variable) → IsNamed (zipped bs cs) w → IsNamed (zipped (b ∷ bs) (a ∷ cs)) w
later-named b a bs cs w h = or_later (same_variable w b) _ (either-named (same_variable b a) a w (zipped bs cs) h)

pub zipped-before : (bs cs : List Variable) → length bs ≡ length cs → AllByRecursion (IsNamed (zipped bs cs)) bs
zipped-before [] cs e = tt
zipped-before (b ∷ bs) [] e = absurd (omega arith)
zipped-before (b ∷ bs) (a ∷ cs) e = (
  ap (λ x. x || list_any (same_variable b) (if same_variable b a then zipped bs cs else a ∷ zipped bs cs)) (same-refl b),
  AllByRecursion-weaken (IsNamed (zipped bs cs)) (IsNamed (zipped (b ∷ bs) (a ∷ cs))) (later-named b a bs cs) bs (zipped-before bs cs (omega arith)),
)

pub zipped-after : (bs cs : List Variable) → length bs ≡ length cs → AllByRecursion (IsNamed (zipped bs cs)) cs
zipped-after [] [] e = tt
zipped-after [] (a ∷ cs) e = absurd (omega arith)
zipped-after (b ∷ bs) [] e = absurd (omega arith)
zipped-after (b ∷ bs) (a ∷ cs) e = (
  at (same_variable b a) refl,
  AllByRecursion-weaken (IsNamed (zipped bs cs)) (IsNamed (zipped (b ∷ bs) (a ∷ cs))) (later-named b a bs cs) cs (zipped-after bs cs (omega arith)),
)
  where
    at : (x : Bool) → same_variable b a ≡ x → IsNamed (b ∷ (if x then zipped bs cs else a ∷ zipped bs cs)) a
    at true is = let same = same-is b a is in ap (λ y. y || list_any (same_variable a) (zipped bs cs)) (ap (same_variable a) same ∙ same-refl a)
    at false is = or_later (same_variable a b) (same_variable a a || list_any (same_variable a) (zipped bs cs)) (ap (λ y. y || list_any (same_variable a) (zipped bs cs)) (same-refl a))

-- ---- sums over these

zip_same : (x y q r p : ℤ) → q +ℤ r ≡ p → (x +ℤ q) +ℤ (pos 0 *ℤ y +ℤ r) ≡ x +ℤ p
zip_same x y q r p e = omega (arith, ints, zero-mul_ℤ y)

zip_other : (x y q r p : ℤ) → q +ℤ r ≡ p → (x +ℤ q) +ℤ (y +ℤ r) ≡ x +ℤ (y +ℤ p)
zip_other x y q r p e = omega (arith, ints)

pub zipped-sum : (c v : Variable → ℤ) (bs cs : List Variable) → length bs ≡ length cs
    → product_of (map c bs) (map v bs) +ℤ product_of (changed_coefficients c bs cs) (map v cs) ≡ product_of (map c (zipped bs cs)) (map v (zipped bs cs))
zipped-sum c v [] [] e = refl
zipped-sum c v [] (a ∷ cs) e = absurd (omega arith)
zipped-sum c v (b ∷ bs) [] e = absurd (omega arith)
zipped-sum c v (b ∷ bs) (a ∷ cs) e = at (same_variable b a) (zipped-sum c v bs cs (omega arith))
  where
    at : (x : Bool) → product_of (map c bs) (map v bs) +ℤ product_of (changed_coefficients c bs cs) (map v cs) ≡ product_of (map c (zipped bs cs)) (map v (zipped bs cs))
        → (c b *ℤ v b +ℤ product_of (map c bs) (map v bs)) +ℤ ((if x then pos 0 else c a) *ℤ v a +ℤ product_of (changed_coefficients c bs cs) (map v cs))
        ≡ c b *ℤ v b +ℤ product_of (map c (if x then zipped bs cs else a ∷ zipped bs cs)) (map v (if x then zipped bs cs else a ∷ zipped bs cs))
    at true rest = zip_same (c b *ℤ v b) (v a) _ _ _ rest
    at false rest = zip_other (c b *ℤ v b) (c a *ℤ v a) _ _ _ rest
