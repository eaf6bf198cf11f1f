-- The sums of a refuting certificate are a solution, and those of the cut system a modular one.
use Rattle.std.proofs.Common.{◌≡◌, ℕ, zero, suc, ◌+◌, ◌≤◌, List, [], ◌∷◌, map, length, Bool, true, false, ℤ, pos, ◌+ℤ◌, ◌*ℤ◌, ◌<ℤ◌, Option, Some, refl, sym, ◌∙◌, ap, subst, arith, inl, inr, length-append}
use Rattle.std.specs.Prelude.{if◌then◌else◌, slice_get}
use Rattle.std.specs.List.{AllByRecursion, range_with_len}
use Rattle.std.proofs.lemmas.Bool.Decides.{leb_tells}
use Rattle.std.proofs.lemmas.List.{length-map, append-nil}
use Rattle.std.proofs.lemmas.Option.{slice_get_past}
use Rattle.lin_rows.specs.Row.{Row}
use Rattle.lin_rows.specs.Atom.{inequality}
use Rattle.lin_rows.proofs.Points.{product_of-AllZero}
use Rattle.lin_rows.proofs.Lists.{AllByRecursion-weaken}
use Rattle.farkas_cert.specs.Cert.{Pairs, AllowsAt, InOrder, row_numbered, weighted_sum, Refutes}
use Rattle.transition_formula.specs.Program.{Program, Column, IsProgram, at_number}
use Rattle.horn_rules.specs.Home.{Home, State, Env as AtEdge, home_width}
use Rattle.horn_rules.specs.Instance as instance
use Rattle.horn_rules.specs.Scope.{in_scope, columns_of, IsModular}
use Rattle.horn_rules.proofs.Cases.{shape}
use Rattle.derivation_tree.specs.Tree.{Tree, Init, Own, Guar, Env, Inter, size_of, IsTreeOf, root_home, thread_at, edge_at, thread_of, place_of}
use Rattle.derivation_tree.specs.Variable.{Variable, After, NamedRow, variables_of, row_over, system_over}
use Rattle.derivation_tree.specs.Nodes.{Sharing, Moments, Node, shared, own_after, state_moments, moments_of, bare, at_before, root_moments, tree_nodes, rows_of}
use Rattle.derivation_tree.specs.System.{share_scope, share_all}
use Rattle.derivation_tree.specs.Solution.{NodeRow, IsSolution}
use Rattle.derivation_tree.specs.Sums.{pairs_within, home_coefficients, sums_of}
use Rattle.derivation_tree.specs.Laws.{SumsAreSolutions, CutSumsAreModular, ModularLessonsAreModular, FullLessonsAreNeeded}
use Rattle.derivation_tree.proofs.Numbering.{variables-apart, variables-named}
use Rattle.derivation_tree.proofs.Below.{root-home}
use Rattle.derivation_tree.proofs.Shared.{Keeps, moments-each, before-each, state-keeps, Vanishes}
use Rattle.derivation_tree.proofs.Solved.{IsHere}
use Rattle.derivation_tree.proofs.Modular.{root-each, cut-points}
use Rattle.derivation_tree.proofs.Derivations.{Derives, init, own, guar, env, inter, derives-home, tree-derives}
use Rattle.derivation_tree.proofs.Weights.{row_bound, total, total-product, total-bound, inside-true, order-signs, within-true}
use Rattle.derivation_tree.proofs.Agree.{at_before-same, made-alike, size-positive}
use Rattle.derivation_tree.proofs.Spread.{moments-columns, before-columns, own-stand}
use Rattle.derivation_tree.proofs.Found.{Parts}
use Rattle.derivation_tree.proofs.NodeSums.{Placed, SumsToNothing, from_of, to_of, part_coefficient, own-nothing}
use Rattle.derivation_tree.proofs.NodeRows.{sum-is}
use Rattle.derivation_tree.proofs.Premises.{one-placed, first-placed, second-placed, state-parts, state-told, edge-told}
use Rattle.derivation_tree.proofs.SumParts.{SumsAt}
use Rattle.derivation_tree.proofs.SumSolutions.{init-sums, own-sums, guar-sums, env-sums, inter-sums}

-- ---- all nodes

pub all-sums : (program : Program) (share : Sharing) (tree : Tree) (home : Home) → Derives program tree home → (first : ℕ) (above : Moments) (all front back : List Node) (pairs : Pairs)
    → Placed program share tree first above all front back → SumsToNothing (rows_of all) pairs → SumsAt program share tree home first above all front pairs
all-sums program share tree home (init i given there case same) first above all front back pairs placed sums =
    init-sums program share i first above all front back pairs given home case same placed sums (derives-home program tree home (init i given there case same))
all-sums program share tree home (own f e from given there h case same) first above all front back pairs placed sums =
    let moments = moments_of program share (first + size_of (Own f e)) (Own f e) above in
    let (step, shaped) = shape program (instance.Own (bare from) e) given case in
    let inner = one-placed program share (Own f e) f first above all front back placed refl refl (state-told program f from step.i step.edge.from (at_before moments) h step.home_is) in
    own-sums program share f e from first above all front back pairs given home case same placed sums (derives-home program f from h) (derives-home program tree home (own f e from given there h case same))
    (all-sums program share f from h first (at_before moments) all front _ pairs inner sums)
all-sums program share tree home (guar f e from given there h case same) first above all front back pairs placed sums =
    let moments = moments_of program share (first + size_of (Guar f e)) (Guar f e) above in
    let (step, shaped) = shape program (instance.Guar (bare from) e) given case in
    let inner = one-placed program share (Guar f e) f first above all front back placed refl refl (state-told program f from step.i step.edge.from (at_before moments) h step.home_is) in
    guar-sums program share f e from first above all front back pairs given home case same placed sums (derives-home program f from h) (derives-home program tree home (guar f e from given there h case same))
    (all-sums program share f from h first (at_before moments) all front _ pairs inner sums)
all-sums program share tree home (env f t from told given there h k case same) first above all front back pairs placed sums =
    let n = first + size_of (Env f t) in
    let moments = moments_of program share n (Env f t) above in
    let (stay, tells, shaped) = shape program (instance.Env (bare from) (bare told)) given case in
    let each = moments-each program share n (Env f t) above placed.each in
    let columns = moments-columns program share n (Env f t) above placed.columns in
    let told_home = root-home program t (AtEdge tells.i tells.e) (derives-home program t told k ∙ ap Some tells.home_is) in
    let keeps = subst (λ h. Keeps (thread_at program (thread_of h)) (edge_at program (thread_of h) (place_of h)) moments) told_home (state-keeps program share n (Env f t) above) in
    let parts = subst (λ h. Parts (thread_at program (thread_of h)) (edge_at program (thread_of h) (place_of h)) moments) told_home (state-parts program share (Env f t) first above all front back placed) in
    let inner = first-placed program share (Env f t) f t first above moments all front back placed refl (λ u v alike. alike) refl (state-told program f from stay.k stay.l (at_before moments) h stay.home_is) in
    let side = second-placed program share (Env f t) f t first above moments all front back placed refl (λ u v alike. alike) each columns refl (edge-told program t told tells.i tells.e moments k tells.home_is keeps parts) in
    env-sums program share f t from told first above all front back pairs given home case same placed sums (derives-home program f from h) (derives-home program t told k)
    (derives-home program tree home (env f t from told given there h k case same))
    (all-sums program share f from h first (at_before moments) all front _ pairs inner sums) (all-sums program share t told k (first + size_of f) moments all _ _ pairs side sums)
all-sums program share tree home (inter f g e from other given there h k case same) first above all front back pairs placed sums =
    let n = first + size_of (Inter f g e) in
    let moments = moments_of program share n (Inter f g e) above in
    let (stay, step, shaped) = shape program (instance.Inter (bare from) (bare other) e) given case in
    let each = before-each program moments (moments-each program share n (Inter f g e) above placed.each) in
    let columns = before-columns moments (moments-columns program share n (Inter f g e) above placed.columns) in
    let inner = first-placed program share (Inter f g e) f g first above (at_before moments) all front back placed refl (λ u v alike. at_before-same u v moments alike) refl
    (state-told program f from stay.k stay.l (at_before moments) h stay.home_is) in
    let side = second-placed program share (Inter f g e) f g first above (at_before moments) all front back placed refl (λ u v alike. at_before-same u v moments alike) each columns refl
    (state-told program g other step.i step.edge.from (at_before moments) k step.home_is) in
    inter-sums program share f g e from other first above all front back pairs given home case same placed sums (derives-home program f from h) (derives-home program g other k)
    (derives-home program tree home (inter f g e from other given there h k case same))
    (all-sums program share f from h first (at_before moments) all front _ pairs inner sums) (all-sums program share g other k (first + size_of f) (at_before moments) all _ _ pairs side sums)

-- ---- the root

pub root-placed : (program : Program) (share : Sharing) (tree : Tree) (i l : ℕ) → Derives program tree (State i l) → Placed program share tree 0 (root_moments program tree) (tree_nodes program share tree) [] []
root-placed program share tree i l h =
    let n = size_of tree in
    let positive = size-positive tree in
    let mine = λ (u v : Variable → ℤ) (j : ℕ) (alike : u (After n j) ≡ v (After n j)). alike in
    record {
      split = sym (append-nil (tree_nodes program share tree));
      first_is = refl;
      each = root-each program tree;
      columns = record { before = own-stand program n; after = own-stand program n };
      around = λ u v alike.
          let same = made-alike u v (After n) (range_with_len 0 (length program.columns)) (λ j. alike (After n j) (λ inner. let p = inner.1 in omega arith)) in
          record { before = same; after = same };
      outside = λ u v alike. (tt, tt);
      told = state-told program tree (State i l) i l (root_moments program tree) h refl;
    }

-- ---- certificates

pub certificate-sums : (rows : List NamedRow) (pairs : Pairs) → Refutes (system_over rows) pairs → SumsToNothing rows pairs
certificate-sums rows pairs refutes = record {
  nothing = λ v. sym (total-product v (variables_of rows) rows pairs (variables-apart rows) (variables-named rows)) ∙ product_of-AllZero (weighted_sum (system_over rows).rows pairs).coefficients (map v (variables_of rows)) refutes.contradicts.cancels;
  signs = order-signs (variables_of rows) rows 0 pairs refutes.in_order;
}

in-range : (rows : List Row) (k : ℕ) (m : ℤ) → AllowsAt (row_numbered rows k) m → k ≤ length rows
in-range rows zero m h = absurd h
in-range rows (suc j) m h = elim (leb_tells (length rows) j) [
  | inl (hit, past) ↦ absurd (subst (λ o. AllowsAt o m) (slice_get_past rows j past) h)
  | inr (miss, within) ↦ omega arith
]

all-inside : (give : Option NamedRow → ℤ) (variables : List Variable) (rows : List NamedRow) (last : ℕ) (pairs : Pairs) → InOrder (map (row_over variables) rows) last pairs
    → total give rows (pairs_within 0 (length rows) pairs) ≡ total give rows pairs
all-inside give variables rows last [] h = refl
all-inside give variables rows last ((k, m) ∷ pairs) h =
    let most = in-range (map (row_over variables) rows) k m h.1 in
    let low = h.0 in
    within-true give rows 0 (length rows) k m pairs (inside-true 0 (length rows) k (omega arith) (omega (arith, length-map rows (row_over variables))))
    ∙ ap (λ t. m *ℤ give (at_number rows k) +ℤ t) (all-inside give variables rows k pairs h.2)

-- ---- the root's row

zero-list : (c : Variable → ℤ) (xs : List Variable) → AllByRecursion (λ w. c w ≡ pos 0) xs → AllByRecursion (λ a. a ≡ pos 0) (map c xs)
zero-list c [] all = tt
zero-list c (x ∷ xs) all = (all.0, zero-list c xs all.1)

zero-made : (c : Variable → ℤ) (make : ℕ → Variable) (js : List ℕ) → ((j : ℕ) → c (make j) ≡ pos 0) → AllByRecursion (λ w. c w ≡ pos 0) (map make js)
zero-made c make [] h = tt
zero-made c make (j ∷ js) h = (h j, zero-made c make js h)

zero-shared : (share : Sharing) (home : Home) (c : Variable → ℤ) (columns : List Column) (above fresh : List Variable) → AllByRecursion (λ w. c w ≡ pos 0) above → AllByRecursion (λ w. c w ≡ pos 0) fresh
    → AllByRecursion (λ w. c w ≡ pos 0) (shared share home columns above fresh)
zero-shared share home c [] above fresh p q = tt
zero-shared share home c (column ∷ columns) [] fresh p q = tt
zero-shared share home c (column ∷ columns) (a ∷ above) [] p q = tt
zero-shared share home c (column ∷ columns) (a ∷ above) (o ∷ fresh) p q = (at (share home column.owner), zero-shared share home c columns above fresh p.1 q.1)
  where
    at : (b : Bool) → c (if b then a else o) ≡ pos 0
    at true = p.0
    at false = q.0

after-is : (program : Program) (share : Sharing) (n : ℕ) (tree : Tree) (above : Moments) → (moments_of program share n tree above).after ≡ (state_moments program share n tree above).after
after-is program share n (Init i) above = refl
after-is program share n (Own f e) above = refl
after-is program share n (Guar f e) above = refl
after-is program share n (Env f t) above = refl
after-is program share n (Inter f g e) above = refl

pub sums-solve : (program : Program) (share : Sharing) (tree : Tree) (i l : ℕ) (pairs : Pairs) → IsProgram program → IsTreeOf program tree (State i l) → Refutes (system_over (rows_of (tree_nodes program share tree))) pairs
    → IsSolution program tree (sums_of (tree_nodes program share tree) pairs) × AllByRecursion (IsHere program share) (sums_of (tree_nodes program share tree) pairs)
sums-solve program share tree i l pairs is_program is refutes =
    let all = tree_nodes program share tree in
    let rows = rows_of all in
    let n = 0 + size_of tree in
    let above = root_moments program tree in
    let h = (tree-derives program tree (State i l) is_program is).derives in
    let placed = root-placed program share tree i l h in
    let sums = certificate-sums rows pairs refutes in
    let at = all-sums program share tree (State i l) h 0 above all [] [] pairs placed sums in
    let given = at.given in
    let c = part_coefficient rows pairs (from_of []) (to_of program share tree 0 above []) in
    let bound = (weighted_sum (system_over rows).rows (pairs_within (from_of []) (to_of program share tree 0 above []) pairs)).bound in
    let positive = size-positive tree in
    let row_is = sym given.is ∙ sum-is program share tree 0 above all [] [] pairs placed
    ∙ ap (λ hm. inequality (home_coefficients c hm (moments_of program share n tree above)) bound) (root-home program tree (State i l) is)
    ∙ ap (λ xs. inequality (map c xs) bound) (after-is program share n tree above) in
    let mine = zero-made c (After (size_of tree)) (range_with_len 0 (length program.columns)) (λ j. own-nothing program share tree 0 above all [] [] pairs (After (size_of tree) j) placed sums (record { behind = omega arith; up_to = omega arith })) in
    let fresh = zero-made c (After n) (range_with_len 0 (length program.columns)) (λ j. own-nothing program share tree 0 above all [] [] pairs (After n j) placed sums (record { behind = omega arith; up_to = omega arith })) in
    let cancels = subst (λ (r : Row). AllByRecursion (λ a. a ≡ pos 0) r.coefficients) (sym row_is)
    (zero-list c (state_moments program share n tree above).after (zero-shared share (root_home program tree) c program.columns above.after (own_after program n) mine fresh)) in
    let size : 0 + length rows ≡ length rows = omega arith in
    let whole : given.row.bound ≡ (weighted_sum (system_over rows).rows pairs).bound =
    given.bound ∙ ap (λ to. total row_bound rows (pairs_within 0 to pairs)) size ∙ all-inside row_bound (variables_of rows) rows 0 pairs refutes.in_order ∙ sym (total-bound (variables_of rows) rows pairs) in (
      record { root = record { home = State i l; row = given.row }; solves = at.solves; contradicts = record { cancels = cancels; negative = subst (λ b. b <ℤ pos 0) (sym whole) refutes.contradicts.negative } },
      at.shared,
    )

-- ---- the laws

pub sums-are-solutions : SumsAreSolutions
sums-are-solutions program tree i l pairs is_program is refutes = (sums-solve program share_all tree i l pairs is_program is refutes).0

vanishes-at : (shares : Option ℕ → Bool) (columns : List Column) (xs : List ℤ) → length xs ≡ length columns → Vanishes shares columns xs → (c : ℕ) (column : Column) → slice_get columns c ≡ Some column → shares column.owner ≡ false
    → slice_get xs c ≡ Some (pos 0)
vanishes-at shares [] xs e h zero column is none = cc
vanishes-at shares [] xs e h (suc c) column is none = cc
vanishes-at shares (x ∷ columns) [] e h c column is none = absurd (omega arith)
vanishes-at shares (x ∷ columns) (a ∷ xs) e h zero column is none = let same : x ≡ column = cc in ap (λ (k : ℤ). Some k) (h.0 (ap (λ (y : Column). shares y.owner) same ∙ none))
vanishes-at shares (x ∷ columns) (a ∷ xs) e h (suc c) column is none = vanishes-at shares columns xs (omega arith) h.1 c column is none

columns-width : (program : Program) (home : Home) → home_width (length program.columns) home ≡ length (columns_of program home)
columns-width program (State i l) = refl
columns-width program (AtEdge i e) = sym (length-append program.columns program.columns)

here-modular : (program : Program) (at : NodeRow) → IsHere program share_scope at → IsModular program at.home at.row
here-modular program at is = vanishes-at (in_scope at.home) (columns_of program at.home) at.row.coefficients (is.width ∙ columns-width program at.home) is.zeros

pub cut-sums-are-modular : CutSumsAreModular
cut-sums-are-modular program tree i l pairs is_program is refutes =
    let (solution, here) = sums-solve program share_scope tree i l pairs is_program is refutes in
    (solution, AllByRecursion-weaken (IsHere program share_scope) (λ (at : NodeRow). IsModular program at.home at.row) (here-modular program) (sums_of (tree_nodes program share_scope tree) pairs) here)

-- ---- what a tree teaches

pub modular-lessons : ModularLessonsAreModular
modular-lessons program tree i l predicates is_program is (within, taught) =
    let (solution, modular) = cut-sums-are-modular program tree i l taught.pairs is_program is taught.refutes in
    (record { rows = sums_of (tree_nodes program share_scope tree) taught.pairs; solution = solution; forms = taught.are_sums }, modular)

pub full-lessons : FullLessonsAreNeeded
full-lessons program tree i l predicates is_program is (within, point, wide, taught) = (
  record {
    rows = sums_of (tree_nodes program share_all tree) taught.pairs;
    solution = sums-are-solutions program tree i l taught.pairs is_program is taught.refutes;
    forms = taught.are_sums;
  },
  cut-points program tree point,
)
