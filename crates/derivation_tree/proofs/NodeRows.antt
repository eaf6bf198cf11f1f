-- The row that a certificate's sum is at a node: its numbers, what it is worth, and where it is 0.
use Rattle.std.proofs.Common.{◌≡◌, ℕ, suc, ◌+◌, ◌-◌, ◌≤◌, List, [], ◌∷◌, ◌++◌, map, take, length, Bool, true, false, ℤ, pos, ◌+ℤ◌, ◌*ℤ◌, ◌≤ℤ◌, refl, sym, ◌∙◌, ap, ap₂, subst, arith, length-append, append_assoc}
use Rattle.std.specs.Prelude.{if◌then◌else◌, Option}
use Rattle.std.specs.List.{AllByRecursion, range_with_len}
use Rattle.std.proofs.lemmas.Int.{ints}
use Rattle.std.proofs.lemmas.List.{length-map}
use Rattle.std.proofs.lemmas.Grind.{flat_map-append}
use Rattle.lin_rows.specs.Row.{Row, product_of}
use Rattle.lin_rows.specs.Atom.{inequality}
use Rattle.lin_rows.proofs.Integers.{add-mul_ℤ}
use Rattle.farkas_cert.specs.Cert.{Pairs, weighted_sum}
use Rattle.transition_formula.specs.Program.{Program, Column, Thread, Edge, at_number}
use Rattle.transition_formula.specs.Rows.{is_kept}
use Rattle.horn_rules.specs.Home.{Home, State, Env as AtEdge, home_width}
use Rattle.horn_rules.specs.Scope.{columns_of}
use Rattle.derivation_tree.specs.Tree.{Tree, Init, Own, Guar, Env, Inter, size_of, IsTreeOf, root_home, thread_at, edge_at, step_thread, step_edge}
use Rattle.derivation_tree.specs.Variable.{Variable, After, Before, NamedRow, same_variable, variables_of, system_over}
use Rattle.derivation_tree.specs.Nodes.{Sharing, Moments, Node, shared, before_step, own_after, state_moments, moments_of, at_before, node_at, nodes_of, rows_of}
use Rattle.derivation_tree.specs.Sums.{pairs_within, if_changed, changed_coefficients, home_coefficients, sum_at}
use Rattle.derivation_tree.proofs.Values.{AllMeetAt, MeetsAt}
use Rattle.derivation_tree.proofs.Below.{root-home}
use Rattle.derivation_tree.proofs.Shared.{state-each, moments-each, Vanishes}
use Rattle.derivation_tree.proofs.Solved.{seen, product-above, told-product-above}
use Rattle.derivation_tree.proofs.Weights.{row_worth, row_bound, total, total-bound, within-split, within-at-most, part-inside, SignsFit}
use Rattle.derivation_tree.proofs.Agree.{IsOwn, size-positive}
use Rattle.derivation_tree.proofs.NodeSums.{Placed, SumsToNothing, from_of, to_of, part_sum, part_coefficient, state-value, told-value, own-nothing}

-- ---- where coefficients are 0

vanish-shared : (share : Sharing) (home : Home) (c : Variable → ℤ) (columns : List Column) (above fresh : List Variable) → AllByRecursion (λ w. c w ≡ pos 0) fresh → Vanishes (share home) columns (map c (shared share home columns above fresh))
vanish-shared share home c [] above fresh zeros = tt
vanish-shared share home c (column ∷ columns) [] fresh zeros = tt
vanish-shared share home c (column ∷ columns) (a ∷ above) [] zeros = tt
vanish-shared share home c (column ∷ columns) (a ∷ above) (o ∷ fresh) zeros = (λ none. ap (λ (b : Bool). c (if b then a else o)) none ∙ zeros.0, vanish-shared share home c columns above fresh zeros.1)

vanish-before : (share : Sharing) (home : Home) (c : Variable → ℤ) (n : ℕ) (thread : Thread) (edge : Edge) (k : ℕ) (columns : List Column) (above later fresh : List Variable)
    → ((j : ℕ) → c (Before n j) ≡ pos 0) → AllByRecursion (λ w. c w ≡ pos 0) fresh
    → Vanishes (share home) columns (map c (shared share home columns above (before_step n thread edge k (shared share home columns later fresh))))
vanish-before share home c n thread edge k [] above later fresh own zeros = tt
vanish-before share home c n thread edge k (column ∷ columns) [] later fresh own zeros = tt
vanish-before share home c n thread edge k (column ∷ columns) (a ∷ above) [] fresh own zeros = tt
vanish-before share home c n thread edge k (column ∷ columns) (a ∷ above) (l ∷ later) [] own zeros = tt
vanish-before share home c n thread edge k (column ∷ columns) (a ∷ above) (l ∷ later) (o ∷ fresh) own zeros = (
  λ none. ap (λ (b : Bool). c (if b then a else (if is_kept thread.counter edge k then (if b then l else o) else Before n k))) none ∙ at (is_kept thread.counter edge k),
  vanish-before share home c n thread edge (suc k) columns above later fresh own zeros.1,
)
  where
    at : (b : Bool) → c (if b then o else Before n k) ≡ pos 0
    at true = zeros.0
    at false = own k

vanish-changed : (share : Sharing) (home : Home) (c : Variable → ℤ) (columns : List Column) (before above fresh : List Variable) → AllByRecursion (λ w. c w ≡ pos 0) fresh
    → Vanishes (share home) columns (changed_coefficients c before (shared share home columns above fresh))
vanish-changed share home c [] before above fresh zeros = at before
  where
    at : (bs : List Variable) → Vanishes (share home) [] (changed_coefficients c bs [])
    at [] = tt
    at (b ∷ bs) = tt
vanish-changed share home c (column ∷ columns) [] above fresh zeros = tt
vanish-changed share home c (column ∷ columns) (b ∷ before) [] fresh zeros = tt
vanish-changed share home c (column ∷ columns) (b ∷ before) (a ∷ above) [] zeros = tt
vanish-changed share home c (column ∷ columns) (b ∷ before) (a ∷ above) (o ∷ fresh) zeros = (
  λ none. ap (λ (x : Bool). if_changed (c (if x then a else o)) b (if x then a else o)) none ∙ at (same_variable b o),
  vanish-changed share home c columns before above fresh zeros.1,
)
  where
    at : (x : Bool) → (if x then pos 0 else c o) ≡ pos 0
    at true = refl
    at false = zeros.0

vanish-append : (shares : Option ℕ → Bool) (columns more : List Column) (xs ys : List ℤ) → length xs ≡ length columns → Vanishes shares columns xs → Vanishes shares more ys → Vanishes shares (columns ++ more) (xs ++ ys)
vanish-append shares [] more [] ys e h k = k
vanish-append shares [] more (x ∷ xs) ys e h k = absurd (omega arith)
vanish-append shares (column ∷ columns) more [] ys e h k = absurd (omega arith)
vanish-append shares (column ∷ columns) more (x ∷ xs) ys e h k = (h.0, vanish-append shares columns more xs ys (omega arith) h.1 k)

length-changed : (c : Variable → ℤ) (before after : List Variable) → length before ≡ length after → length (changed_coefficients c before after) ≡ length after
length-changed c [] [] e = refl
length-changed c [] (a ∷ after) e = absurd (omega arith)
length-changed c (b ∷ before) [] e = absurd (omega arith)
length-changed c (b ∷ before) (a ∷ after) e = ap suc (length-changed c before after (omega arith))

made-zeros : (c : Variable → ℤ) (make : ℕ → Variable) (js : List ℕ) → ((j : ℕ) → c (make j) ≡ pos 0) → AllByRecursion (λ w. c w ≡ pos 0) (map make js)
made-zeros c make [] h = tt
made-zeros c make (j ∷ js) h = (h j, made-zeros c make js h)

-- ---- where a node's rows stand

take-front : (xs ys : List Node) → take (length xs) (xs ++ ys) ≡ xs
take-front [] ys = refl
take-front (x ∷ xs) ys = ap (λ l. x ∷ l) (take-front xs ys)

length-last : (xs : List Node) (x : Node) (n : ℕ) → length xs ≡ n → length (xs ++ x ∷ []) ≡ n + 1
length-last xs x n e = omega (arith, length-append xs (x ∷ []))

length-two : (xs ys : List Node) (x : Node) (n m : ℕ) → length xs ≡ n → length ys ≡ m → length (xs ++ (ys ++ x ∷ [])) ≡ n + m + 1
length-two xs ys x n m e f = omega (arith, length-append xs (ys ++ x ∷ []), length-append ys (x ∷ []))

pub length-nodes : (program : Program) (share : Sharing) (tree : Tree) (first : ℕ) (above : Moments) → length (nodes_of program share first tree above) ≡ size_of tree
length-nodes program share (Init i) first above = refl
length-nodes program share (Own f e) first above =
    let moments = moments_of program share (first + size_of (Own f e)) (Own f e) above in
    length-last (nodes_of program share first f (at_before moments)) (node_at program (first + size_of (Own f e)) (Own f e) moments) (size_of f) (length-nodes program share f first (at_before moments))
length-nodes program share (Guar f e) first above =
    let moments = moments_of program share (first + size_of (Guar f e)) (Guar f e) above in
    length-last (nodes_of program share first f (at_before moments)) (node_at program (first + size_of (Guar f e)) (Guar f e) moments) (size_of f) (length-nodes program share f first (at_before moments))
length-nodes program share (Env f t) first above =
    let moments = moments_of program share (first + size_of (Env f t)) (Env f t) above in
    length-two (nodes_of program share first f (at_before moments)) (nodes_of program share (first + size_of f) t moments) (node_at program (first + size_of (Env f t)) (Env f t) moments) (size_of f) (size_of t)
    (length-nodes program share f first (at_before moments)) (length-nodes program share t (first + size_of f) moments)
length-nodes program share (Inter f g e) first above =
    let moments = moments_of program share (first + size_of (Inter f g e)) (Inter f g e) above in
    length-two (nodes_of program share first f (at_before moments)) (nodes_of program share (first + size_of f) g (at_before moments)) (node_at program (first + size_of (Inter f g e)) (Inter f g e) moments) (size_of f) (size_of g)
    (length-nodes program share f first (at_before moments)) (length-nodes program share g (first + size_of f) (at_before moments))

-- the sum at a node, by the rows before its subtree and those of it
pub sum-is : (program : Program) (share : Sharing) (tree : Tree) (first : ℕ) (above : Moments) (all front back : List Node) (pairs : Pairs) → Placed program share tree first above all front back
    → sum_at all pairs (first + size_of tree) (node_at program (first + size_of tree) tree (moments_of program share (first + size_of tree) tree above))
    ≡ inequality (home_coefficients (part_coefficient (rows_of all) pairs (from_of front) (to_of program share tree first above front)) (root_home program tree) (moments_of program share (first + size_of tree) tree above))
    (weighted_sum (system_over (rows_of all)).rows (pairs_within (from_of front) (to_of program share tree first above front) pairs)).bound
sum-is program share tree first above all front back pairs placed =
    let n = first + size_of tree in
    let part = nodes_of program share first tree above in
    let moments = moments_of program share n tree above in
    let one : n - size_of tree ≡ length front = omega (arith, placed.first_is) in
    let both : n ≡ length (front ++ part) = omega (arith, placed.first_is, length-append front part, length-nodes program share tree first above) in
    let low : length (rows_of (take (n - size_of tree) all)) ≡ from_of front = ap₂ (λ k l. length (rows_of (take k l))) one placed.split ∙ ap (λ l. length (rows_of l)) (take-front front (part ++ back)) in
    let high : length (rows_of (take n all)) ≡ to_of program share tree first above front =
    ap₂ (λ k l. length (rows_of (take k l))) both (placed.split ∙ sym (append_assoc front part back)) ∙ ap (λ l. length (rows_of l)) (take-front (front ++ part) back)
    ∙ ap length (flat_map-append (λ (m : Node). m.rows) front part) ∙ length-append (rows_of front) (rows_of part) in
    ap₂ (λ from to. inequality (home_coefficients (part_coefficient (rows_of all) pairs from to) (root_home program tree) moments) (weighted_sum (system_over (rows_of all)).rows (pairs_within from to pairs)).bound) low high

-- ---- what is known of it

pub record Gives (program : Program) (share : Sharing) (tree : Tree) (home : Home) (first : ℕ) (above : Moments) (all front : List Node) (pairs : Pairs) : Type 0 where
  pub row : Row
  pub is : sum_at all pairs (first + size_of tree) (node_at program (first + size_of tree) tree (moments_of program share (first + size_of tree) tree above)) ≡ row
  pub no_equality : row.equal ≡ false
  pub width : length row.coefficients ≡ home_width (length program.columns) home
  pub zeros : Vanishes (share home) (columns_of program home) row.coefficients
  pub here : (v : Variable → ℤ) → product_of row.coefficients (map v (seen home (moments_of program share (first + size_of tree) tree above))) ≡ part_sum (rows_of all) pairs (from_of front) (to_of program share tree first above front) v
  pub higher : (v : Variable → ℤ) → product_of row.coefficients (map v (seen home above)) ≡ part_sum (rows_of all) pairs (from_of front) (to_of program share tree first above front) v
  pub bound : row.bound ≡ total row_bound (rows_of all) (pairs_within (from_of front) (to_of program share tree first above front) pairs)

own-numbers : (first : ℕ) (tree : Tree) → IsOwn first (first + size_of tree) (After (first + size_of tree) 0)
own-numbers first tree = let positive = size-positive tree in record { behind = omega arith; up_to = omega arith }

pub state-gives : (program : Program) (share : Sharing) (tree : Tree) (i l : ℕ) (first : ℕ) (above : Moments) (all front back : List Node) (pairs : Pairs)
    → Placed program share tree first above all front back → SumsToNothing (rows_of all) pairs → IsTreeOf program tree (State i l)
    → moments_of program share (first + size_of tree) tree above ≡ state_moments program share (first + size_of tree) tree above
    → Gives program share tree (State i l) first above all front pairs
state-gives program share tree i l first above all front back pairs placed sums is plain =
    let n = first + size_of tree in
    let home = State i l in
    let from = from_of front in
    let to = to_of program share tree first above front in
    let c = part_coefficient (rows_of all) pairs from to in
    let after = (state_moments program share n tree above).after in
    let bound = (weighted_sum (system_over (rows_of all)).rows (pairs_within from to pairs)).bound in
    let positive = size-positive tree in
    let own = λ (j : ℕ). own-nothing program share tree first above all front back pairs (After n j) placed sums (record { behind = omega arith; up_to = omega arith }) in
    let zeros = subst (λ h. Vanishes (share home) program.columns (map c (shared share h program.columns above.after (own_after program n)))) (sym (root-home program tree home is))
    (vanish-shared share home c program.columns above.after (own_after program n) (made-zeros c (After n) (range_with_len 0 (length program.columns)) own)) in
    let value = λ (v : Variable → ℤ). state-value program share tree first above all front back pairs v placed sums plain in
    record {
      row = inequality (map c after) bound;
      is = sum-is program share tree first above all front back pairs placed
          ∙ ap₂ (λ h (m : Moments). inequality (home_coefficients c h m) bound) (root-home program tree home is) plain;
      no_equality = refl;
      width = length-map after c ∙ (state-each program share n tree above placed.each).after;
      zeros = zeros;
      here = λ v. ap (λ (m : Moments). product_of (map c after) (map v m.after)) plain ∙ value v;
      higher = λ v. sym (product-above program share n tree above v i l (map c after) is placed.each zeros) ∙ value v;
      bound = total-bound (variables_of (rows_of all)) (rows_of all) (pairs_within from to pairs);
    }

pub told-gives : (program : Program) (share : Sharing) (f : Tree) (e i k : ℕ) (first : ℕ) (above : Moments) (all front back : List Node) (pairs : Pairs)
    → Placed program share (Guar f e) first above all front back → SumsToNothing (rows_of all) pairs → IsTreeOf program (Guar f e) (AtEdge i k)
    → Gives program share (Guar f e) (AtEdge i k) first above all front pairs
told-gives program share f e i k first above all front back pairs placed sums is =
    let tree = Guar f e in
    let n = first + size_of tree in
    let home = AtEdge i k in
    let from = from_of front in
    let to = to_of program share tree first above front in
    let c = part_coefficient (rows_of all) pairs from to in
    let moments = moments_of program share n tree above in
    let each = moments-each program share n tree above placed.each in
    let bound = (weighted_sum (system_over (rows_of all)).rows (pairs_within from to pairs)).bound in
    let positive = size-positive f in
    let thread = thread_at program (step_thread program tree) in
    let edge = edge_at program (step_thread program tree) (step_edge program tree) in
    let own = λ (j : ℕ). own-nothing program share tree first above all front back pairs (After n j) placed sums (record { behind = omega arith; up_to = omega arith }) in
    let own_before = λ (j : ℕ). own-nothing program share tree first above all front back pairs (Before n j) placed sums (record { behind = omega arith; up_to = omega arith }) in
    let fresh = made-zeros c (After n) (range_with_len 0 (length program.columns)) own in
    let coefficients = map c moments.before ++ changed_coefficients c moments.before moments.after in
    let zeros = vanish-append (share home) program.columns program.columns (map c moments.before) (changed_coefficients c moments.before moments.after) (length-map moments.before c ∙ each.before)
    (subst (λ h. Vanishes (share home) program.columns (map c (shared share h program.columns above.before (before_step n thread edge 0 (shared share h program.columns above.after (own_after program n)))))) (sym (root-home program tree home is))
    (vanish-before share home c n thread edge 0 program.columns above.before above.after (own_after program n) own_before fresh))
    (subst (λ h. Vanishes (share home) program.columns (changed_coefficients c moments.before (shared share h program.columns above.after (own_after program n)))) (sym (root-home program tree home is))
    (vanish-changed share home c program.columns moments.before above.after (own_after program n) fresh)) in
    let value = λ (v : Variable → ℤ). told-value program share tree first above all front back pairs v placed sums in
    record {
      row = inequality coefficients bound;
      is = sum-is program share tree first above all front back pairs placed ∙ ap (λ h. inequality (home_coefficients c h moments) bound) (root-home program tree home is);
      no_equality = refl;
      width = omega (arith, length-append (map c moments.before) (changed_coefficients c moments.before moments.after), length-map moments.before c, length-changed c moments.before moments.after (each.before ∙ sym each.after), each.before, each.after);
      zeros = zeros;
      here = value;
      higher = λ v. sym (told-product-above program share n f e i k above v coefficients is placed.each zeros) ∙ value v;
      bound = total-bound (variables_of (rows_of all)) (rows_of all) (pairs_within from to pairs);
    }

-- ---- sums of parts

-- the rows of a part that are met
pub part-holds : (rows front part back : List NamedRow) (pairs : Pairs) (v : Variable → ℤ) (d : ℤ) → rows ≡ front ++ (part ++ back) → SignsFit rows pairs → AllMeetAt v d part
    → part_sum rows pairs (length front) (length front + length part) v ≤ℤ (total row_bound rows (pairs_within (length front) (length front + length part) pairs) *ℤ d)
part-holds rows front part back pairs v d split signs met =
    within-at-most v d rows (length front) (length front + length part) pairs
    (λ k row within is. part-inside (MeetsAt v d) front part back k row within (ap (λ l. at_number l k) (sym split) ∙ is) met) signs

joined : (p q r s t u : ℤ) (d : ℤ) → p ≡ q +ℤ r → s ≡ t +ℤ u → q ≤ℤ (t *ℤ d) → r ≤ℤ (u *ℤ d) → p ≤ℤ (s *ℤ d)
joined p q r s t u d e f h k = subst (λ x. p ≤ℤ (x *ℤ d)) (sym f) (let g = add-mul_ℤ t u d in omega (arith, ints, g))

pub parts-hold : (rows : List NamedRow) (pairs : Pairs) (v : Variable → ℤ) (d : ℤ) (a b c : ℕ) → a ≤ b → b ≤ c
    → part_sum rows pairs a b v ≤ℤ (total row_bound rows (pairs_within a b pairs) *ℤ d) → part_sum rows pairs b c v ≤ℤ (total row_bound rows (pairs_within b c pairs) *ℤ d)
    → part_sum rows pairs a c v ≤ℤ (total row_bound rows (pairs_within a c pairs) *ℤ d)
parts-hold rows pairs v d a b c p q h k =
    joined _ _ _ _ _ _ d (within-split (row_worth v) rows a b c pairs p q) (within-split row_bound rows a b c pairs p q) h k
