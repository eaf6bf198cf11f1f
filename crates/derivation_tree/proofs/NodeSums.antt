-- The sum of a certificate at a node, where the certificate sums to nothing: it is a function of what the node shares with the one above.
use Rattle.std.proofs.Common.{◌≡◌, ℕ, ◌+◌, ◌<◌, ◌≤◌, List, [], ◌∷◌, ◌++◌, map, length, Bool, true, false, ℤ, pos, ◌+ℤ◌, ◌*ℤ◌, Option, Some, None, refl, sym, ◌∙◌, ap, ap₂, subst, arith}
use Rattle.std.specs.Prelude.{◌||◌, if◌then◌else◌}
use Rattle.std.specs.List.{AllByRecursion, list_any}
use Rattle.std.proofs.lemmas.Int.{ints}
use Rattle.std.proofs.lemmas.List.{length-map, map-append}
use Rattle.std.proofs.lemmas.Grind.{flat_map-append}
use Rattle.lin_rows.specs.Row.{product_of}
use Rattle.lin_rows.proofs.Integers.{mul-zero_ℤ, one-mul_ℤ, mul_comm_ℤ}
use Rattle.lin_rows.proofs.Points.{product_of-nil}
use Rattle.farkas_cert.specs.Cert.{Pairs, weighted_sum}
use Rattle.transition_formula.specs.Program.{Program, at_number}
use Rattle.transition_formula.proofs.ProductLemmas.{product_of-append}
use Rattle.derivation_tree.specs.Tree.{Tree, Guar, size_of, thread_at, edge_at, thread_of, root_home}
use Rattle.derivation_tree.specs.Variable.{Variable, After, Before, Input, NamedRow, same_variable, variables_of, system_over}
use Rattle.derivation_tree.specs.Nodes.{Sharing, Moments, Node, state_moments, moments_of, nodes_of, rows_of}
use Rattle.derivation_tree.specs.Sums.{pairs_within, coefficient_at, changed_coefficients}
use Rattle.derivation_tree.proofs.Values.{same-is, same-refl, IsNamed, AreApart}
use Rattle.derivation_tree.proofs.Numbering.{variables-apart, variables-named}
use Rattle.derivation_tree.proofs.Shared.{HasEach, Keeps, moments-each}
use Rattle.derivation_tree.proofs.Weights.{row_worth, total, total-product, total-linear, total-none, inside, inside-true, inside-false, frame, within-alike, SignsFit, part-inside, part-outside}
use Rattle.derivation_tree.proofs.Agree.{number_of, IsOwn, AlikeOn, AlikeOff, AlikeMoments, SameWorth, before-alike, nodes-same, size-positive, at-node}
use Rattle.derivation_tree.proofs.Spread.{unit_of, spread, IsLinearOf, spread-product, spread-there, turned, AtColumns, moments-columns, stand-apart, zipped, zipped-apart, zipped-before, zipped-after, zipped-sum}
use Rattle.derivation_tree.proofs.Found.{Parts}

-- ---- what is known of a node

-- variables behind the first ones, up to node n, but not those after n's step
abbrev pub IsInner : ℕ → ℕ → Variable → Type 0
IsInner first n (After m c) = (first < m) × (m < n)
IsInner first n (Before m c) = (first < m) × (m ≤ n)
IsInner first n (Input m c) = (first < m) × (m ≤ n)

abbrev pub AlikeAround : ℕ → ℕ → (Variable → ℤ) → (Variable → ℤ) → Type 0
AlikeAround first n u v = (w : Variable) → (IsInner first n w → ⊥) → u w ≡ v w

-- a step that is told has the columns of the step above
abbrev pub ToldAbove : Program → Tree → Moments → Type 0
ToldAbove program (Guar f e) above =
    Keeps (thread_at program (thread_of (root_home program f))) (edge_at program (thread_of (root_home program f)) e) above
    × Parts (thread_at program (thread_of (root_home program f))) (edge_at program (thread_of (root_home program f)) e) above
ToldAbove program tree above = Unit {0}

-- the nodes of a subtree among all, and what is outside it
pub record Placed (program : Program) (share : Sharing) (tree : Tree) (first : ℕ) (above : Moments) (all front back : List Node) : Type 0 where
  pub split : all ≡ front ++ (nodes_of program share first tree above ++ back)
  pub first_is : length front ≡ first
  pub each : HasEach program above
  pub columns : AtColumns above
  pub around : (u v : Variable → ℤ) → AlikeAround first (first + size_of tree) u v → AlikeMoments u v above
  pub outside : (u v : Variable → ℤ) → AlikeOff first (first + size_of tree) u v → AllByRecursion (SameWorth u v) (rows_of front) × AllByRecursion (SameWorth u v) (rows_of back)
  pub told : ToldAbove program tree above

-- the certificate sums to nothing, and its signs fit
pub record SumsToNothing (rows : List NamedRow) (pairs : Pairs) : Type 0 where
  pub nothing : (v : Variable → ℤ) → total (row_worth v) rows pairs ≡ pos 0
  pub signs : SignsFit rows pairs

-- ---- the rows of a subtree, by numbers

abbrev pub from_of : List Node → ℕ
from_of front = length (rows_of front)

abbrev pub to_of : Program → Sharing → Tree → ℕ → Moments → List Node → ℕ
to_of program share tree first above front = length (rows_of front) + length (rows_of (nodes_of program share first tree above))

-- the sum over a part
abbrev pub part_sum : List NamedRow → Pairs → ℕ → ℕ → (Variable → ℤ) → ℤ
part_sum rows pairs from to v = total (row_worth v) rows (pairs_within from to pairs)

pub part-linear : (rows : List NamedRow) (pairs : Pairs) (from to : ℕ) → IsLinearOf (part_sum rows pairs from to)
part-linear rows pairs from to = record { none = total-none rows (pairs_within from to pairs); more = λ k x y. total-linear k x y rows (pairs_within from to pairs) }

pub rows-split : (program : Program) (share : Sharing) (tree : Tree) (first : ℕ) (above : Moments) (all front back : List Node) → Placed program share tree first above all front back
    → rows_of all ≡ rows_of front ++ (rows_of (nodes_of program share first tree above) ++ rows_of back)
rows-split program share tree first above all front back placed =
    ap rows_of placed.split ∙ flat_map-append (λ (n : Node). n.rows) front (nodes_of program share first tree above ++ back)
    ∙ ap (λ l. rows_of front ++ l) (flat_map-append (λ (n : Node). n.rows) (nodes_of program share first tree above) back)

option-same : (u v : Variable → ℤ) (o : Option NamedRow) → ((row : NamedRow) → o ≡ Some row → SameWorth u v row) → row_worth u o ≡ row_worth v o
option-same u v None h = refl
option-same u v (Some row) h = h row refl

cancels : (t u p q : ℤ) → t ≡ pos 0 → u ≡ pos 0 → t +ℤ p ≡ u +ℤ q → q ≡ p
cancels t u p q e f g = omega (arith, ints)

-- values that are alike on what is outside give the same
pub off-alike : (program : Program) (share : Sharing) (tree : Tree) (first : ℕ) (above : Moments) (all front back : List Node) (pairs : Pairs) (u v : Variable → ℤ)
    → Placed program share tree first above all front back → SumsToNothing (rows_of all) pairs → AlikeOff first (first + size_of tree) u v
    → part_sum (rows_of all) pairs (from_of front) (to_of program share tree first above front) u ≡ part_sum (rows_of all) pairs (from_of front) (to_of program share tree first above front) v
off-alike program share tree first above all front back pairs u v placed sums alike =
    let part = rows_of (nodes_of program share first tree above) in
    let split = rows-split program share tree first above all front back placed in
    let (one, other) = placed.outside u v alike in
    cancels (total (row_worth u) (rows_of all) pairs) (total (row_worth v) (rows_of all) pairs) _ _ (sums.nothing u) (sums.nothing v)
    (frame (row_worth u) (row_worth v) (rows_of all) (from_of front) (to_of program share tree first above front) pairs
    (λ k out. option-same u v (at_number (rows_of all) k) (λ row is. part-outside (SameWorth u v) (rows_of front) part (rows_of back) k row out (ap (λ l. at_number l k) (sym split) ∙ is) one other)))

-- and so do values that are alike on the rows inside
in-alike : (program : Program) (share : Sharing) (tree : Tree) (first : ℕ) (above : Moments) (all front back : List Node) (pairs : Pairs) (u v : Variable → ℤ)
    → Placed program share tree first above all front back → AllByRecursion (SameWorth u v) (rows_of (nodes_of program share first tree above))
    → part_sum (rows_of all) pairs (from_of front) (to_of program share tree first above front) u ≡ part_sum (rows_of all) pairs (from_of front) (to_of program share tree first above front) v
in-alike program share tree first above all front back pairs u v placed same =
    let part = rows_of (nodes_of program share first tree above) in
    let split = rows-split program share tree first above all front back placed in
    within-alike (row_worth u) (row_worth v) (rows_of all) (from_of front) (to_of program share tree first above front) pairs
    (λ k within. option-same u v (at_number (rows_of all) k) (λ row is. part-inside (SameWorth u v) (rows_of front) part (rows_of back) k row within (ap (λ l. at_number l k) (sym split) ∙ is) same))

-- ---- values that are one thing inside, another outside

abbrev pub mixed : ℕ → ℕ → (Variable → ℤ) → (Variable → ℤ) → Variable → ℤ
mixed first n u v w = if inside first n (number_of w) then v w else u w

mixed-off : (first n : ℕ) (u v : Variable → ℤ) → AlikeOff first n u (mixed first n u v)
mixed-off first n u v w out = ap (λ (b : Bool). if b then v w else u w) (sym (inside-false first n (number_of w) (λ p q. out (record { behind = p; up_to = q }))))

mixed-on : (first n : ℕ) (u v : Variable → ℤ) → AlikeOn first n (mixed first n u v) v
mixed-on first n u v w own = ap (λ (b : Bool). if b then v w else u w) (inside-true first n (number_of w) own.behind own.up_to)

mixed-list : (first n : ℕ) (u v : Variable → ℤ) (xs : List Variable) → map u xs ≡ map v xs → map (mixed first n u v) xs ≡ map v xs
mixed-list first n u v [] e = refl
mixed-list first n u v (x ∷ xs) e = ap₂ (λ a l. a ∷ l) (at (inside first n (number_of x))) (mixed-list first n u v xs cc)
  where
    at : (b : Bool) → (if b then v x else u x) ≡ v x
    at true = refl
    at false = cc

-- values that are alike on the node's variables give the same
both-alike : (program : Program) (share : Sharing) (tree : Tree) (first : ℕ) (above : Moments) (all front back : List Node) (pairs : Pairs) (u v : Variable → ℤ)
    → Placed program share tree first above all front back → SumsToNothing (rows_of all) pairs
    → AlikeMoments (mixed first (first + size_of tree) u v) v (moments_of program share (first + size_of tree) tree above)
    → part_sum (rows_of all) pairs (from_of front) (to_of program share tree first above front) u ≡ part_sum (rows_of all) pairs (from_of front) (to_of program share tree first above front) v
both-alike program share tree first above all front back pairs u v placed sums alike =
    let n = first + size_of tree in
    let m = mixed first n u v in
    off-alike program share tree first above all front back pairs u m placed sums (mixed-off first n u v)
    ∙ in-alike program share tree first above all front back pairs m v placed (nodes-same program share tree first above m v (mixed-on first n u v) alike)

-- a node at a location
pub state-alike : (program : Program) (share : Sharing) (tree : Tree) (first : ℕ) (above : Moments) (all front back : List Node) (pairs : Pairs) (u v : Variable → ℤ)
    → Placed program share tree first above all front back → SumsToNothing (rows_of all) pairs
    → moments_of program share (first + size_of tree) tree above ≡ state_moments program share (first + size_of tree) tree above
    → map u (state_moments program share (first + size_of tree) tree above).after ≡ map v (state_moments program share (first + size_of tree) tree above).after
    → part_sum (rows_of all) pairs (from_of front) (to_of program share tree first above front) u ≡ part_sum (rows_of all) pairs (from_of front) (to_of program share tree first above front) v
state-alike program share tree first above all front back pairs u v placed sums plain after =
    let n = first + size_of tree in
    let m = mixed first n u v in
    let positive = size-positive tree in
    let own = at-node first n n m v (mixed-on first n u v) (omega arith) (omega arith) in
    both-alike program share tree first above all front back pairs u v placed sums
    (subst (AlikeMoments m v) (sym plain) (before-alike program share n tree above m v own (mixed-list first n u v (state_moments program share n tree above).after after)))

pub told-alike : (program : Program) (share : Sharing) (tree : Tree) (first : ℕ) (above : Moments) (all front back : List Node) (pairs : Pairs) (u v : Variable → ℤ)
    → Placed program share tree first above all front back → SumsToNothing (rows_of all) pairs → AlikeMoments u v (moments_of program share (first + size_of tree) tree above)
    → part_sum (rows_of all) pairs (from_of front) (to_of program share tree first above front) u ≡ part_sum (rows_of all) pairs (from_of front) (to_of program share tree first above front) v
told-alike program share tree first above all front back pairs u v placed sums alike =
    let n = first + size_of tree in
    both-alike program share tree first above all front back pairs u v placed sums (record { before = mixed-list first n u v _ alike.before; after = mixed-list first n u v _ alike.after })

-- ---- coefficients

one_there : (a t : ℤ) → t ≡ pos 0 → a ≡ a *ℤ pos 1 +ℤ t
one_there a t e = omega (arith, ints, mul_comm_ℤ a (pos 1), one-mul_ℤ a)

none_there : (a x t : ℤ) → x ≡ t → x ≡ a *ℤ pos 0 +ℤ t
none_there a x t e = omega (arith, ints, mul-zero_ℤ a)

absent-product : (variables : List Variable) (xs : List ℤ) (w : Variable) → list_any (same_variable w) variables ≡ false → product_of xs (map (unit_of w) variables) ≡ pos 0
absent-product [] xs w e = product_of-nil xs
absent-product (u ∷ variables) [] w e = refl
absent-product (u ∷ variables) (x ∷ xs) w e =
    let (here, later) = split (same_variable w u) (list_any (same_variable w) variables) e in
    ap (λ (b : Bool). x *ℤ (if b then pos 1 else pos 0) +ℤ product_of xs (map (unit_of w) variables)) here ∙ sym (none_there x (pos 0) (product_of xs (map (unit_of w) variables)) (sym (absent-product variables xs w later)))
  where
    split : (a b : Bool) → (a || b) ≡ false → (a ≡ false) × (b ≡ false)
    split false false h = (refl, refl)
    split false true h = cc
    split true b h = cc

coefficient-product : (variables : List Variable) (xs : List ℤ) (w : Variable) → AreApart variables → coefficient_at variables xs w ≡ product_of xs (map (unit_of w) variables)
coefficient-product [] xs w apart = sym (product_of-nil xs)
coefficient-product (u ∷ variables) [] w apart = refl
coefficient-product (u ∷ variables) (x ∷ xs) w apart = at (coefficient-product variables xs w apart.1) (same_variable u w) (same_variable w u) refl refl
  where
    at : coefficient_at variables xs w ≡ product_of xs (map (unit_of w) variables) → (b c : Bool) → same_variable u w ≡ b → same_variable w u ≡ c
        → (if b then x else coefficient_at variables xs w) ≡ x *ℤ (if c then pos 1 else pos 0) +ℤ product_of xs (map (unit_of w) variables)
    at rest true true e f = one_there x _ (absent-product variables xs w (ap (λ y. list_any (same_variable y) variables) (sym (same-is u w e)) ∙ apart.0))
    at rest true false e f = let wrong : true ≡ false = sym e ∙ turned u w f in cc
    at rest false true e f = let wrong : true ≡ false = sym f ∙ turned w u e in cc
    at rest false false e f = none_there x (coefficient_at variables xs w) (product_of xs (map (unit_of w) variables)) rest

-- the coefficient of a variable in the sum over a part
abbrev pub part_coefficient : List NamedRow → Pairs → ℕ → ℕ → Variable → ℤ
part_coefficient rows pairs from to w = coefficient_at (variables_of rows) (weighted_sum (system_over rows).rows (pairs_within from to pairs)).coefficients w

pub part-coefficient : (rows : List NamedRow) (pairs : Pairs) (from to : ℕ) (w : Variable) → part_coefficient rows pairs from to w ≡ part_sum rows pairs from to (unit_of w)
part-coefficient rows pairs from to w =
    coefficient-product (variables_of rows) (weighted_sum (system_over rows).rows (pairs_within from to pairs)).coefficients w (variables-apart rows)
    ∙ total-product (unit_of w) (variables_of rows) rows (pairs_within from to pairs) (variables-apart rows) (variables-named rows)

coefficients-list : (rows : List NamedRow) (pairs : Pairs) (from to : ℕ) (xs : List Variable) → map (part_coefficient rows pairs from to) xs ≡ map (λ w. part_sum rows pairs from to (unit_of w)) xs
coefficients-list rows pairs from to [] = refl
coefficients-list rows pairs from to (x ∷ xs) = ap₂ (λ a l. a ∷ l) (part-coefficient rows pairs from to x) (coefficients-list rows pairs from to xs)

spread-list : (v : Variable → ℤ) (all xs : List Variable) → AreApart all → AllByRecursion (IsNamed all) xs → map (spread v all) xs ≡ map v xs
spread-list v all [] apart named = refl
spread-list v all (x ∷ xs) apart named = ap₂ (λ a l. a ∷ l) (spread-there v all x apart named.0) (spread-list v all xs apart named.1)

self-named : (xs : List Variable) → AllByRecursion (IsNamed xs) xs
self-named xs = later xs (λ w h. h)
  where
    later : (ys : List Variable) → ((w : Variable) → IsNamed ys w → IsNamed xs w) → AllByRecursion (IsNamed xs) ys
    later [] h = tt
    later (y ∷ ys) h = (
      h y (ap (λ b. b || list_any (same_variable y) ys) (same-refl y)),
      later ys (λ w there. h w (or_later (same_variable w y) (list_any (same_variable w) ys) there)),
    )
      where
        or_later : (a b : Bool) → b ≡ true → (a || b) ≡ true
        or_later true b e = refl
        or_later false b e = e

-- ---- the row of a node at its variables

pub state-value : (program : Program) (share : Sharing) (tree : Tree) (first : ℕ) (above : Moments) (all front back : List Node) (pairs : Pairs) (v : Variable → ℤ)
    → Placed program share tree first above all front back → SumsToNothing (rows_of all) pairs
    → moments_of program share (first + size_of tree) tree above ≡ state_moments program share (first + size_of tree) tree above
    → product_of (map (part_coefficient (rows_of all) pairs (from_of front) (to_of program share tree first above front)) (state_moments program share (first + size_of tree) tree above).after)
    (map v (state_moments program share (first + size_of tree) tree above).after)
    ≡ part_sum (rows_of all) pairs (from_of front) (to_of program share tree first above front) v
state-value program share tree first above all front back pairs v placed sums plain =
    let rows = rows_of all in
    let from = from_of front in
    let to = to_of program share tree first above front in
    let n = first + size_of tree in
    let after = (state_moments program share n tree above).after in
    let apart = stand-apart 0 after (subst (λ (m : Moments). AtColumns m) plain (moments-columns program share n tree above placed.columns)).after in
    ap (λ cs. product_of cs (map v after)) (coefficients-list rows pairs from to after)
    ∙ sym (spread-product (part_sum rows pairs from to) v after (part-linear rows pairs from to))
    ∙ state-alike program share tree first above all front back pairs (spread v after) v placed sums plain (spread-list v after after apart (self-named after))

pub told-value : (program : Program) (share : Sharing) (tree : Tree) (first : ℕ) (above : Moments) (all front back : List Node) (pairs : Pairs) (v : Variable → ℤ)
    → Placed program share tree first above all front back → SumsToNothing (rows_of all) pairs
    → product_of (map (part_coefficient (rows_of all) pairs (from_of front) (to_of program share tree first above front)) (moments_of program share (first + size_of tree) tree above).before
    ++ changed_coefficients (part_coefficient (rows_of all) pairs (from_of front) (to_of program share tree first above front)) (moments_of program share (first + size_of tree) tree above).before (moments_of program share (first + size_of tree) tree above).after)
    (map v ((moments_of program share (first + size_of tree) tree above).before ++ (moments_of program share (first + size_of tree) tree above).after))
    ≡ part_sum (rows_of all) pairs (from_of front) (to_of program share tree first above front) v
told-value program share tree first above all front back pairs v placed sums =
    let rows = rows_of all in
    let from = from_of front in
    let to = to_of program share tree first above front in
    let n = first + size_of tree in
    let moments = moments_of program share n tree above in
    let c = part_coefficient rows pairs from to in
    let each = moments-each program share n tree above placed.each in
    let columns = moments-columns program share n tree above placed.columns in
    let one = each.before ∙ sym each.after in
    let once = zipped moments.before moments.after in
    let apart = zipped-apart 0 moments.before moments.after columns.before columns.after in
    ap (product_of (map c moments.before ++ changed_coefficients c moments.before moments.after)) (map-append v moments.before moments.after)
    ∙ product_of-append (map c moments.before) (changed_coefficients c moments.before moments.after) (map v moments.before) (map v moments.after) (length-map moments.before c ∙ sym (length-map moments.before v))
    ∙ zipped-sum c v moments.before moments.after one
    ∙ ap (λ cs. product_of cs (map v once)) (coefficients-list rows pairs from to once)
    ∙ sym (spread-product (part_sum rows pairs from to) v once (part-linear rows pairs from to))
    ∙ told-alike program share tree first above all front back pairs (spread v once) v placed sums
    (record { before = spread-list v once moments.before apart (zipped-before moments.before moments.after one); after = spread-list v once moments.after apart (zipped-after moments.before moments.after one) })

-- ---- what is not shared has coefficient 0

unit-off : (first n : ℕ) (w : Variable) → IsOwn first n w → AlikeOff first n (unit_of w) (λ x. pos 0)
unit-off first n w own x out = at (same_variable w x) refl
  where
    at : (b : Bool) → same_variable w x ≡ b → (if b then pos 1 else pos 0) ≡ pos 0
    at false e = refl
    at true e = absurd (out (subst (IsOwn first n) (same-is w x e) own))

pub own-nothing : (program : Program) (share : Sharing) (tree : Tree) (first : ℕ) (above : Moments) (all front back : List Node) (pairs : Pairs) (w : Variable)
    → Placed program share tree first above all front back → SumsToNothing (rows_of all) pairs → IsOwn first (first + size_of tree) w
    → part_coefficient (rows_of all) pairs (from_of front) (to_of program share tree first above front) w ≡ pos 0
own-nothing program share tree first above all front back pairs w placed sums own =
    let from = from_of front in
    let to = to_of program share tree first above front in
    part-coefficient (rows_of all) pairs from to w
    ∙ off-alike program share tree first above all front back pairs (unit_of w) (λ x. pos 0) placed sums (unit-off first (first + size_of tree) w own)
    ∙ total-none (rows_of all) (pairs_within from to pairs)
