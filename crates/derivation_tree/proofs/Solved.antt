-- Values that meet the rows of a tree's nodes meet the rows of a solution, where these speak only of what a premise shares.
use Rattle.std.proofs.Common.{◌≡◌, ℕ, ◌+◌, List, [], ◌++◌, map, length, ℤ, pos, ◌*ℤ◌, ◌≤ℤ◌, ◌<ℤ◌, MatchBool, Some, sym, ◌∙◌, ap, subst, arith, length-append}
use Rattle.std.proofs.lemmas.List.{length-map}
use Rattle.std.proofs.lemmas.List.FromFn.{length-map-range_with_len}
use Rattle.lin_rows.specs.Row.{Row, product_of, MeetsOver}
use Rattle.lin_rows.specs.System.{IsRationalPoint}
use Rattle.transition_formula.specs.Program.{Program, Thread, Edge, IsEdgeOf}
use Rattle.horn_rules.specs.Home.{Home, State, Env as AtEdge, home_width}
use Rattle.horn_rules.specs.Instance as instance
use Rattle.horn_rules.specs.Case.{Case, IsCaseOf, init_case}
use Rattle.horn_rules.specs.Scope.{columns_of}
use Rattle.horn_rules.proofs.Cases.{shape}
use Rattle.derivation_tree.specs.Tree.{Tree, Init, Own, Guar, Env, Inter, IsTreeOf, root_home, thread_at, edge_at, thread_of, place_of}
use Rattle.derivation_tree.specs.Variable.{Variable, Input}
use Rattle.derivation_tree.specs.Nodes.{Sharing, Moments, shared, own_after, state_moments, moments_of, at_before, own_rows}
use Rattle.derivation_tree.specs.Solution.{NodeRow, says, Follows}
use Rattle.derivation_tree.proofs.Values.{AllMeetAt, named-all}
use Rattle.derivation_tree.proofs.Below.{thread-at, edge-at, root-home}
use Rattle.derivation_tree.proofs.Shared.{HasEach, Keeps, state-each, moments-each, state-keeps, told-keeps, length-own_after, Vanishes, shared-product, shared-append}
use Rattle.derivation_tree.proofs.CaseRows.{values, inputs_at, own-rows, guar-rows, env-rows, inter-rows}
use Rattle.derivation_tree.proofs.CasePoints.{StepVariables, own-point, env-point, inter-point, product-after, product-both}

-- ---- what is known of threads and edges

pub step-known : (program : Program) (f : Tree) (e i : ℕ) (thread : Thread) (edge : Edge) (P : Thread → Edge → Type 0) → IsTreeOf program f (State i edge.from) → IsEdgeOf program i e thread edge
    → P (thread_at program (thread_of (root_home program f))) (edge_at program (thread_of (root_home program f)) e) → P thread edge
step-known program f e i thread edge P is at p =
    let home = root-home program f (State i edge.from) is in
    subst (λ t. P t edge) (ap (λ h. thread_at program (thread_of h)) home ∙ thread-at program i thread at.thread_is)
    (subst (λ x. P (thread_at program (thread_of (root_home program f))) x) (ap (λ h. edge_at program (thread_of h) e) home ∙ edge-at program i e thread edge at) p)

pub told-known : (program : Program) (t : Tree) (i e : ℕ) (thread : Thread) (edge : Edge) (P : Thread → Edge → Type 0) → IsTreeOf program t (AtEdge i e) → IsEdgeOf program i e thread edge
    → P (thread_at program (thread_of (root_home program t))) (edge_at program (thread_of (root_home program t)) (place_of (root_home program t))) → P thread edge
told-known program t i e thread edge P is at p =
    let home = root-home program t (AtEdge i e) is in
    subst (λ x. P x edge) (ap (λ h. thread_at program (thread_of h)) home ∙ thread-at program i thread at.thread_is)
    (subst (λ x. P (thread_at program (thread_of (root_home program t))) x) (ap (λ h. edge_at program (thread_of h) (place_of h)) home ∙ edge-at program i e thread edge at) p)

-- ---- what a home's rows are over

abbrev pub seen : Home → Moments → List Variable
seen (State i l) moments = moments.after
seen (AtEdge i e) moments = moments.before ++ moments.after

-- the step above keeps what the edge keeps
abbrev pub Tells : Program → Home → Moments → Type 0
Tells program (State i l) above = Unit {0}
Tells program (AtEdge i e) above = Keeps (thread_at program i) (edge_at program i e) above

-- ---- from a node's variables to those of the node above

-- the product of a node's row is that over the variables above
pub product-above : (program : Program) (share : Sharing) (n : ℕ) (tree : Tree) (above : Moments) (v : Variable → ℤ) (i l : ℕ) (xs : List ℤ) → IsTreeOf program tree (State i l) → HasEach program above
    → Vanishes (share (State i l)) program.columns xs → product_of xs (map v (state_moments program share n tree above).after) ≡ product_of xs (map v above.after)
product-above program share n tree above v i l xs is each zeros =
    ap (λ h. product_of xs (map v (shared share h program.columns above.after (own_after program n)))) (root-home program tree (State i l) is)
    ∙ shared-product share (State i l) v program.columns above.after (own_after program n) xs each.after (length-own_after program n) zeros

pub told-product-above : (program : Program) (share : Sharing) (n : ℕ) (f : Tree) (e i k : ℕ) (above : Moments) (v : Variable → ℤ) (xs : List ℤ) → IsTreeOf program (Guar f e) (AtEdge i k) → HasEach program above
    → Vanishes (share (AtEdge i k)) (program.columns ++ program.columns) xs
    → product_of xs (map v ((moments_of program share n (Guar f e) above).before ++ (moments_of program share n (Guar f e) above).after)) ≡ product_of xs (map v (above.before ++ above.after))
told-product-above program share n f e i k above v xs is each zeros =
    let home = AtEdge i k in
    let inner = state_moments program share n (Guar f e) above in
    let own = own_after program n in
    let before_own : length inner.before ≡ length program.columns = (state-each program share n (Guar f e) above each).before in
    ap (λ h. product_of xs (map v (shared share h program.columns above.before inner.before ++ shared share h program.columns above.after own))) (root-home program (Guar f e) home is)
    ∙ ap (λ l. product_of xs (map v l)) (shared-append share home program.columns program.columns above.before inner.before above.after own each.before before_own)
    ∙ shared-product share home v (program.columns ++ program.columns) (above.before ++ above.after) (inner.before ++ own) xs
    (omega (arith, length-append above.before above.after, length-append program.columns program.columns, each.before, each.after))
    (omega (arith, length-append inner.before own, length-append program.columns program.columns, before_own, length-own_after program n)) zeros

-- ---- one node

-- a row meets where its product is the same
pub alike-over : (row : Row) (y z : List ℤ) (d : ℤ) → product_of row.coefficients y ≡ product_of row.coefficients z → MeetsOver row y d → MeetsOver row z d
alike-over row y z d e h = subst (λ p. MatchBool row.equal (p ≡ row.bound *ℤ d) (p ≤ℤ (row.bound *ℤ d))) e h

placed-over : (row : Row) (xs y z : List ℤ) (d : ℤ) → product_of xs z ≡ product_of row.coefficients y → MatchBool row.equal (product_of xs z ≡ row.bound *ℤ d) (product_of xs z ≤ℤ (row.bound *ℤ d)) → MeetsOver row y d
placed-over row xs y z d e h = subst (λ p. MatchBool row.equal (p ≡ row.bound *ℤ d) (p ≤ℤ (row.bound *ℤ d))) e h

-- what a node at a location is asked for and gives
pub record IsHere (program : Program) (share : Sharing) (here : NodeRow) : Type 0 where
  pub width : length here.row.coefficients ≡ home_width (length program.columns) here.home
  pub zeros : Vanishes (share here.home) (columns_of program here.home) here.row.coefficients

state-here : (program : Program) (share : Sharing) (n : ℕ) (tree : Tree) (above : Moments) (v : Variable → ℤ) (d : ℤ) (here : NodeRow) (i l : ℕ) → IsTreeOf program tree here.home → here.home ≡ State i l → HasEach program above
    → IsHere program share here → MeetsOver here.row (map v (state_moments program share n tree above).after) d → MeetsOver here.row (map v (seen here.home above)) d
state-here program share n tree above v d here i l is home each at h =
    let zeros = subst (λ k. Vanishes (share k) (columns_of program k) here.row.coefficients) home at.zeros in
    subst (λ k. MeetsOver here.row (map v (seen k above)) d) (sym home)
    (alike-over here.row (map v (state_moments program share n tree above).after) (map v above.after) d (product-above program share n tree above v i l here.row.coefficients (is ∙ ap Some home) each zeros) h)

state-width : (program : Program) (here : NodeRow) (i l : ℕ) → here.home ≡ State i l → length here.row.coefficients ≡ home_width (length program.columns) here.home → length here.row.coefficients ≡ length program.columns
state-width program here i l home one = one ∙ ap (home_width (length program.columns)) home

pub own-here : (program : Program) (share : Sharing) (n : ℕ) (f : Tree) (e : ℕ) (above : Moments) (v : Variable → ℤ) (d : ℤ) (first here : NodeRow) (given : Case) → pos 0 <ℤ d
    → IsTreeOf program f first.home → IsTreeOf program (Own f e) here.home → length first.row.coefficients ≡ home_width (length program.columns) first.home
    → IsCaseOf program (instance.Own (says first) e) given → Follows program given here → IsHere program share here → HasEach program above
    → AllMeetAt v d (own_rows program n (Own f e) (moments_of program share n (Own f e) above))
    → MeetsOver first.row (map v (seen first.home (at_before (moments_of program share n (Own f e) above)))) d
    → MeetsOver here.row (map v (seen here.home above)) d
own-here program share n f e above v d first here given positive is here_is width case follows at each rows premise =
    let (step, same) = shape program (instance.Own (says first) e) given case in
    let i = step.i in
    let thread = step.thread in
    let edge = step.edge in
    let moments = moments_of program share n (Own f e) above in
    let below : IsTreeOf program f (State i edge.from) = is ∙ ap Some step.home_is in
    let lengths = state-each program share n (Own f e) above each in
    let keeps : Keeps thread edge moments = step-known program f e i thread edge (λ t x. Keeps t x moments) below step.edge_is (state-keeps program share n (Own f e) above) in
    let known : StepVariables program thread edge moments (inputs_at n edge) = record { each = lengths; keeps = keeps; inputs_each = length-map-range_with_len (Input n) 0 edge.inputs } in
    let placed = subst (λ (c : Case). Follows program c here) same follows in
    let home : here.home ≡ State i edge.to = placed.at_target in
    let point = own-point program i thread edge moments (inputs_at n edge) v d first known positive (state-width program first i edge.from step.home_is width)
    (subst (AllMeetAt v d) (own-rows program n f e i thread edge moments below step.edge_is) rows)
    (subst (λ h. MeetsOver first.row (map v (seen h (at_before moments))) d) step.home_is premise) in
    state-here program share n (Own f e) above v d here i edge.to here_is home each at
    (placed-over here.row _ (map v moments.after) (values v moments (inputs_at n edge)) d
    (product-after program moments (inputs_at n edge) edge.inputs v here.row.coefficients lengths (state-width program here i edge.to home at.width)) (placed.meets (values v moments (inputs_at n edge)) d point))

pub guar-here : (program : Program) (share : Sharing) (n : ℕ) (f : Tree) (e : ℕ) (above : Moments) (v : Variable → ℤ) (d : ℤ) (first here : NodeRow) (given : Case) → pos 0 <ℤ d
    → IsTreeOf program f first.home → IsTreeOf program (Guar f e) here.home → length first.row.coefficients ≡ home_width (length program.columns) first.home
    → IsCaseOf program (instance.Guar (says first) e) given → Follows program given here → IsHere program share here → HasEach program above → Tells program here.home above
    → AllMeetAt v d (own_rows program n (Guar f e) (moments_of program share n (Guar f e) above))
    → MeetsOver first.row (map v (seen first.home (at_before (moments_of program share n (Guar f e) above)))) d
    → MeetsOver here.row (map v (seen here.home above)) d
guar-here program share n f e above v d first here given positive is here_is width case follows at each tells rows premise =
    let (step, same) = shape program (instance.Guar (says first) e) given case in
    let i = step.i in
    let thread = step.thread in
    let edge = step.edge in
    let moments = moments_of program share n (Guar f e) above in
    let below : IsTreeOf program f (State i edge.from) = is ∙ ap Some step.home_is in
    let placed = subst (λ (c : Case). Follows program c here) same follows in
    let home : here.home ≡ AtEdge i e = placed.at_target in
    let told_above : Keeps (thread_at program i) (edge_at program i e) above = subst (λ h. Tells program h above) home tells in
    let own_above : Keeps (thread_at program (thread_of (root_home program f))) (edge_at program (thread_of (root_home program f)) e) above =
    subst (λ h. Keeps (thread_at program (thread_of h)) (edge_at program (thread_of h) e) above) (sym (root-home program f (State i edge.from) below)) told_above in
    let lengths = moments-each program share n (Guar f e) above each in
    let keeps : Keeps thread edge moments = step-known program f e i thread edge (λ t x. Keeps t x moments) below step.edge_is (told-keeps program share n f e above each own_above) in
    let known : StepVariables program thread edge moments (inputs_at n edge) = record { each = lengths; keeps = keeps; inputs_each = length-map-range_with_len (Input n) 0 edge.inputs } in
    let point = own-point program i thread edge moments (inputs_at n edge) v d first known positive (state-width program first i edge.from step.home_is width)
    (subst (AllMeetAt v d) (guar-rows program n f e i thread edge moments below step.edge_is) rows)
    (subst (λ h. MeetsOver first.row (map v (seen h (at_before moments))) d) step.home_is premise) in
    let wide : length here.row.coefficients ≡ length program.columns + length program.columns = at.width ∙ ap (home_width (length program.columns)) home in
    let zeros = subst (λ h. Vanishes (share h) (columns_of program h) here.row.coefficients) home at.zeros in
    let both = placed-over here.row _ (map v (moments.before ++ moments.after)) (values v moments (inputs_at n edge)) d
    (product-both program moments (inputs_at n edge) edge.inputs v here.row.coefficients lengths wide) (placed.meets (values v moments (inputs_at n edge)) d point) in
    subst (λ h. MeetsOver here.row (map v (seen h above)) d) (sym home)
    (alike-over here.row (map v (moments.before ++ moments.after)) (map v (above.before ++ above.after)) d
    (told-product-above program share n f e i e above v here.row.coefficients (here_is ∙ ap Some home) each zeros) both)

pub env-here : (program : Program) (share : Sharing) (n : ℕ) (f t : Tree) (above : Moments) (v : Variable → ℤ) (d : ℤ) (first told here : NodeRow) (given : Case) → pos 0 <ℤ d
    → IsTreeOf program f first.home → IsTreeOf program t told.home → IsTreeOf program (Env f t) here.home → length first.row.coefficients ≡ home_width (length program.columns) first.home
    → IsCaseOf program (instance.Env (says first) (says told)) given → Follows program given here → IsHere program share here → HasEach program above
    → AllMeetAt v d (own_rows program n (Env f t) (moments_of program share n (Env f t) above))
    → MeetsOver first.row (map v (seen first.home (at_before (moments_of program share n (Env f t) above)))) d
    → (((i e : ℕ) → told.home ≡ AtEdge i e → Tells program told.home (moments_of program share n (Env f t) above)) → MeetsOver told.row (map v (seen told.home (moments_of program share n (Env f t) above))) d)
    → MeetsOver here.row (map v (seen here.home above)) d
env-here program share n f t above v d first told here given positive is told_is here_is width case follows at each rows premise second =
    let (stay, tells, same) = shape program (instance.Env (says first) (says told)) given case in
    let thread = tells.thread in
    let edge = tells.edge in
    let moments = moments_of program share n (Env f t) above in
    let below : IsTreeOf program f (State stay.k stay.l) = is ∙ ap Some stay.home_is in
    let beside : IsTreeOf program t (AtEdge tells.i tells.e) = told_is ∙ ap Some tells.home_is in
    let lengths = state-each program share n (Env f t) above each in
    let by_root = state-keeps program share n (Env f t) above in
    let keeps : Keeps thread edge moments = told-known program t tells.i tells.e thread edge (λ s x. Keeps s x moments) beside tells.edge_is by_root in
    let by_home : Keeps (thread_at program tells.i) (edge_at program tells.i tells.e) moments =
    subst (λ h. Keeps (thread_at program (thread_of h)) (edge_at program (thread_of h) (place_of h)) moments) (root-home program t (AtEdge tells.i tells.e) beside) by_root in
    let row_told = second (λ i e home. subst (λ h. Tells program h moments) (sym tells.home_is) by_home) in
    let placed = subst (λ (c : Case). Follows program c here) same follows in
    let home : here.home ≡ State stay.k stay.l = placed.at_target in
    let point = env-point program stay.k stay.l stay.thread thread edge moments v d first told lengths keeps positive (state-width program first stay.k stay.l stay.home_is width)
    (subst (AllMeetAt v d) (env-rows program n f t stay.k stay.l tells.i tells.e stay.thread thread edge moments below beside stay.thread_is tells.edge_is) rows)
    (subst (λ h. MeetsOver first.row (map v (seen h (at_before moments))) d) stay.home_is premise)
    (subst (λ h. MeetsOver told.row (map v (seen h moments)) d) tells.home_is row_told) in
    state-here program share n (Env f t) above v d here stay.k stay.l here_is home each at
    (placed-over here.row _ (map v moments.after) (values v moments []) d
    (product-after program moments [] 0 v here.row.coefficients lengths (state-width program here stay.k stay.l home at.width)) (placed.meets (values v moments []) d point))

pub inter-here : (program : Program) (share : Sharing) (n : ℕ) (f g : Tree) (e : ℕ) (above : Moments) (v : Variable → ℤ) (d : ℤ) (first other here : NodeRow) (given : Case) → pos 0 <ℤ d
    → IsTreeOf program f first.home → IsTreeOf program g other.home → IsTreeOf program (Inter f g e) here.home
    → length first.row.coefficients ≡ home_width (length program.columns) first.home → length other.row.coefficients ≡ home_width (length program.columns) other.home
    → IsCaseOf program (instance.Inter (says first) (says other) e) given → Follows program given here → IsHere program share here → HasEach program above
    → AllMeetAt v d (own_rows program n (Inter f g e) (moments_of program share n (Inter f g e) above))
    → MeetsOver first.row (map v (seen first.home (at_before (moments_of program share n (Inter f g e) above)))) d
    → MeetsOver other.row (map v (seen other.home (at_before (moments_of program share n (Inter f g e) above)))) d
    → MeetsOver here.row (map v (seen here.home above)) d
inter-here program share n f g e above v d first other here given positive is other_is here_is width more case follows at each rows premise second =
    let (stay, step, same) = shape program (instance.Inter (says first) (says other) e) given case in
    let i = step.i in
    let thread = step.thread in
    let edge = step.edge in
    let moments = moments_of program share n (Inter f g e) above in
    let below : IsTreeOf program f (State stay.k stay.l) = is ∙ ap Some stay.home_is in
    let beside : IsTreeOf program g (State i edge.from) = other_is ∙ ap Some step.home_is in
    let lengths = state-each program share n (Inter f g e) above each in
    let keeps : Keeps thread edge moments = step-known program g e i thread edge (λ s x. Keeps s x moments) beside step.edge_is (state-keeps program share n (Inter f g e) above) in
    let known : StepVariables program thread edge moments (inputs_at n edge) = record { each = lengths; keeps = keeps; inputs_each = length-map-range_with_len (Input n) 0 edge.inputs } in
    let placed = subst (λ (c : Case). Follows program c here) same follows in
    let home : here.home ≡ State stay.k stay.l = placed.at_target in
    let point = inter-point program stay.k stay.l stay.thread thread edge moments (inputs_at n edge) v d first other known positive
    (state-width program first stay.k stay.l stay.home_is width) (state-width program other i edge.from step.home_is more)
    (subst (AllMeetAt v d) (inter-rows program n f g stay.k stay.l i e stay.thread thread edge moments below beside stay.thread_is step.edge_is) rows)
    (subst (λ h. MeetsOver first.row (map v (seen h (at_before moments))) d) stay.home_is premise)
    (subst (λ h. MeetsOver other.row (map v (seen h (at_before moments))) d) step.home_is second) in
    state-here program share n (Inter f g e) above v d here stay.k stay.l here_is home each at
    (placed-over here.row _ (map v moments.after) (values v moments (inputs_at n edge)) d
    (product-after program moments (inputs_at n edge) edge.inputs v here.row.coefficients lengths (state-width program here stay.k stay.l home at.width)) (placed.meets (values v moments (inputs_at n edge)) d point))

pub init-here : (program : Program) (share : Sharing) (n : ℕ) (i : ℕ) (above : Moments) (v : Variable → ℤ) (d : ℤ) (here : NodeRow) (given : Case) → pos 0 <ℤ d
    → IsTreeOf program (Init i) here.home → IsCaseOf program (instance.Init i) given → Follows program given here → IsHere program share here → HasEach program above
    → AllMeetAt v d (own_rows program n (Init i) (moments_of program share n (Init i) above)) → MeetsOver here.row (map v (seen here.home above)) d
init-here program share n i above v d here given positive here_is case follows at each rows =
    let moments = moments_of program share n (Init i) above in
    let lengths = state-each program share n (Init i) above each in
    let placed = subst (λ (c : Case). Follows program c here) (shape program (instance.Init i) given case) follows in
    let point : IsRationalPoint (init_case program i).system (map v moments.after) d =
    record { whole = length-map moments.after v ∙ lengths.after; positive = positive; meets = named-all v d moments.after (init_case program i).system.rows rows } in
    state-here program share n (Init i) above v d here i 1 here_is placed.at_target each at (placed.meets (map v moments.after) d point)
