-- The sums of a refuting certificate are a solution: each follows from the node's rows and the sums at its premises.
use Rattle.std.proofs.Common.{◌≡◌, ℕ, ◌+◌, List, [], ◌∷◌, ◌++◌, map, length, Some, refl, sym, ◌∙◌, ap, subst, arith}
use Rattle.std.specs.List.{AllByRecursion, range_with_len}
use Rattle.lin_rows.specs.Row.{product_of, MeetsOver}
use Rattle.lin_rows.specs.System.{IsRationalPoint}
use Rattle.lin_rows.proofs.Lists.{AllByRecursion-front, AllByRecursion-append}
use Rattle.farkas_cert.specs.Cert.{Pairs}
use Rattle.transition_formula.specs.Program.{Program}
use Rattle.transition_formula.specs.Rows.{kept_row, kept_columns, init_rows}
use Rattle.horn_rules.specs.Home.{Home, State, Env as AtEdge}
use Rattle.horn_rules.specs.Instance as instance
use Rattle.horn_rules.specs.Case as cases
use Rattle.horn_rules.specs.Case.{Case, IsCaseOf, wider_row, moved_row, init_case, own_case, guar_case, env_case, inter_case}
use Rattle.horn_rules.proofs.Cases.{shape}
use Rattle.derivation_tree.specs.Tree.{Tree, Init, Own, Guar, Env, Inter, size_of, IsTreeOf}
use Rattle.derivation_tree.specs.Nodes.{Sharing, Moments, Node, moments_of, bare, at_before, node_at, nodes_of, rows_of}
use Rattle.derivation_tree.specs.Solution.{NodeRow, says, Follows, Solves, init, own, guar, env, inter}
use Rattle.derivation_tree.specs.Sums.{coefficient_at}
use Rattle.derivation_tree.proofs.Values.{AllMeetAt, values-list, all-named}
use Rattle.derivation_tree.proofs.Shared.{moments-each}
use Rattle.derivation_tree.proofs.CaseRows.{inputs_at, own-rows, guar-rows, env-rows, inter-rows}
use Rattle.derivation_tree.proofs.CasePoints.{point-own, point-env, point-inter}
use Rattle.derivation_tree.proofs.Solved.{seen, IsHere, step-known, told-known}
use Rattle.derivation_tree.proofs.Spread.{moments-columns, stand-apart}
use Rattle.derivation_tree.proofs.Found.{Parts, found-values}
use Rattle.derivation_tree.proofs.NodeSums.{Placed, SumsToNothing, from_of, to_of}
use Rattle.derivation_tree.proofs.NodeRows.{length-nodes, Gives, state-gives, told-gives}
use Rattle.derivation_tree.proofs.Premises.{state-parts, told-parts}
use Rattle.derivation_tree.proofs.TwoPremises.{two-of}
use Rattle.derivation_tree.proofs.SumParts.{Holds, SumsAt, sums_from, premise-holds, placed-meets, node-holds, one-holds, two-hold, last-sum, two-sums, node-is, state-placed, told-placed, state-premise, state-wide}

-- ---- by kinds

pub init-sums : (program : Program) (share : Sharing) (i : ℕ) (first : ℕ) (above : Moments) (all front back : List Node) (pairs : Pairs) (given : Case) (home : Home) → IsCaseOf program (instance.Init i) given → given.target ≡ home
    → Placed program share (Init i) first above all front back → SumsToNothing (rows_of all) pairs → IsTreeOf program (Init i) home → SumsAt program share (Init i) home first above all front pairs
init-sums program share i first above all front back pairs given home case same placed sums is =
    let n = first + size_of (Init i) in
    let moments = moments_of program share n (Init i) above in
    let each = moments-each program share n (Init i) above placed.each in
    let columns = moments-columns program share n (Init i) above placed.columns in
    let shaped = shape program (instance.Init i) given case in
    let home_is : home ≡ State i 1 = sym same ∙ ap (λ (c : Case). c.target) shaped in
    let gives = subst (λ h. Gives program share (Init i) h first above all front pairs) (sym home_is) (state-gives program share (Init i) i 1 first above all front back pairs placed sums (is ∙ ap Some home_is) refl) in
    let here : NodeRow = record { home = home; row = gives.row } in
    let node = node_at program n (Init i) moments in
    let follows : Follows program given here = record {
      at_target = sym same;
      no_equality = gives.no_equality;
      one_each = gives.width;
      meets = λ x d point. subst (λ (c : Case). MeetsOver (c.place gives.row) x d) (sym shaped)
          (let whole = subst (λ (c : Case). IsRationalPoint c.system x d) shaped point in
          let v = coefficient_at moments.after x in
          let same_x : map v moments.after ≡ x = values-list moments.after x (stand-apart 0 moments.after columns.after) (whole.whole ∙ sym each.after) in
          let met : AllMeetAt v d node.rows = all-named v d moments.after (init_rows program) (subst (λ y. AllByRecursion (λ row. MeetsOver row y d) (init_rows program)) (sym same_x) whole.meets) in
          let holds = node-holds all front [] node back pairs v d placed.split sums.signs met in
          let from_there : from_of front + 0 ≡ from_of front = omega arith in
          let part = subst (λ a. Holds (rows_of all) pairs v d a (to_of program share (Init i) first above front)) from_there holds in
          let row = placed-meets program share (Init i) home first above all front pairs v d (product_of gives.row.coefficients (map v (seen home moments))) gives part refl in
          subst (λ y. MeetsOver gives.row y d) (ap (λ h. map v (seen h moments)) home_is ∙ same_x) row);
    } in
    let number : first + 1 ≡ first + size_of (Init i) = refl in
    record {
      given = gives;
      solves = subst (λ rows. Solves program (Init i) rows here) (ap (λ (x : NodeRow). x ∷ []) (sym (node-is program share (Init i) home first above all front pairs gives is))) (init i given here case follows);
      shared = subst (AllByRecursion (IsHere program share)) (ap (λ (x : NodeRow). x ∷ []) (sym (node-is program share (Init i) home first above all front pairs gives is))) (record { width = gives.width; zeros = gives.zeros }, tt);
    }

pub own-sums : (program : Program) (share : Sharing) (f : Tree) (e : ℕ) (from : Home) (first : ℕ) (above : Moments) (all front back : List Node) (pairs : Pairs) (given : Case) (home : Home)
    → IsCaseOf program (instance.Own (bare from) e) given → given.target ≡ home → Placed program share (Own f e) first above all front back → SumsToNothing (rows_of all) pairs
    → IsTreeOf program f from → IsTreeOf program (Own f e) home
    → SumsAt program share f from first (at_before (moments_of program share (first + size_of (Own f e)) (Own f e) above)) all front pairs
    → SumsAt program share (Own f e) home first above all front pairs
own-sums program share f e from first above all front back pairs given home case same placed sums from_is is below =
    let n = first + size_of (Own f e) in
    let moments = moments_of program share n (Own f e) above in
    let each = moments-each program share n (Own f e) above placed.each in
    let columns = moments-columns program share n (Own f e) above placed.columns in
    let (step, shaped) = shape program (instance.Own (bare from) e) given case in
    let i = step.i in
    let thread = step.thread in
    let edge = step.edge in
    let home_is : home ≡ State i edge.to = sym same ∙ ap (λ (c : Case). c.target) shaped in
    let below_is : IsTreeOf program f (State i edge.from) = from_is ∙ ap Some step.home_is in
    let gives_state = state-gives program share (Own f e) i edge.to first above all front back pairs placed sums (is ∙ ap Some home_is) refl in
    let parts : Parts thread edge moments = step-known program f e i thread edge (λ t x. Parts t x moments) below_is step.edge_is (state-parts program share (Own f e) first above all front back placed) in
    let first_row : NodeRow = record { home = from; row = below.given.row } in
    let case_is : IsCaseOf program (instance.Own (says first_row) e) (own_case program i thread edge (says first_row)) = cases.own i e thread edge (says first_row) step.edge_is step.home_is in
    let nodes_f = nodes_of program share first f (at_before moments) in
    let node = node_at program n (Own f e) moments in
    let here : NodeRow = record { home = State i edge.to; row = gives_state.row } in
    let wide = state-wide program share f from i edge.from first (at_before moments) all front pairs step.home_is below.given in
    let follows : Follows program (own_case program i thread edge (says first_row)) here = record {
      at_target = refl;
      no_equality = gives_state.no_equality;
      one_each = gives_state.width;
      meets = λ x d point.
          let (v, same_x) = found-values program thread edge n edge.inputs moments x d (range_with_len 0 edge.inputs) each columns parts refl point.whole
          (AllByRecursion-front (λ row. MeetsOver row x d) (map (kept_row (length program.columns) edge.inputs) (kept_columns (length program.columns) thread.counter edge)) _ point.meets.1.1.1.1) in
          let (rows, premise) = point-own program i thread edge moments (inputs_at n edge) v d first_row each wide (subst (λ y. IsRationalPoint (own_case program i thread edge (says first_row)).system y d) (sym same_x) point) in
          let met : AllMeetAt v d node.rows = subst (AllMeetAt v d) (sym (own-rows program n f e i thread edge moments below_is step.edge_is)) rows in
          let part = one-holds all front nodes_f node back pairs v d placed.split sums.signs met
          (state-premise program share f from i edge.from first moments all front pairs v d step.home_is below.given premise) in
          subst (λ y. MeetsOver (moved_row (length program.columns) edge.inputs gives_state.row) y d) same_x
          (state-placed program share (Own f e) i edge.to first above all front pairs v d (inputs_at n edge) edge.inputs gives_state each part);
    } in
    let rows_are = last-sum all pairs (first + 1) n nodes_f node here (omega (arith, length-nodes program share f first (at_before moments)))
    (node-is program share (Own f e) (State i edge.to) first above all front pairs gives_state (is ∙ ap Some home_is)) in
    subst (λ h. SumsAt program share (Own f e) h first above all front pairs) (sym home_is)
    (record {
      given = gives_state;
      solves = subst (λ rows. Solves program (Own f e) rows here) (sym rows_are)
          (own f e (sums_from all pairs (first + 1) nodes_f) first_row (own_case program i thread edge (says first_row)) here below.solves case_is follows);
      shared = subst (AllByRecursion (IsHere program share)) (sym rows_are)
          (AllByRecursion-append (IsHere program share) (sums_from all pairs (first + 1) nodes_f) (here ∷ []) below.shared (record { width = gives_state.width; zeros = gives_state.zeros }, tt));
    })

pub guar-sums : (program : Program) (share : Sharing) (f : Tree) (e : ℕ) (from : Home) (first : ℕ) (above : Moments) (all front back : List Node) (pairs : Pairs) (given : Case) (home : Home)
    → IsCaseOf program (instance.Guar (bare from) e) given → given.target ≡ home → Placed program share (Guar f e) first above all front back → SumsToNothing (rows_of all) pairs
    → IsTreeOf program f from → IsTreeOf program (Guar f e) home
    → SumsAt program share f from first (at_before (moments_of program share (first + size_of (Guar f e)) (Guar f e) above)) all front pairs
    → SumsAt program share (Guar f e) home first above all front pairs
guar-sums program share f e from first above all front back pairs given home case same placed sums from_is is below =
    let n = first + size_of (Guar f e) in
    let moments = moments_of program share n (Guar f e) above in
    let each = moments-each program share n (Guar f e) above placed.each in
    let columns = moments-columns program share n (Guar f e) above placed.columns in
    let (step, shaped) = shape program (instance.Guar (bare from) e) given case in
    let i = step.i in
    let thread = step.thread in
    let edge = step.edge in
    let home_is : home ≡ AtEdge i e = sym same ∙ ap (λ (c : Case). c.target) shaped in
    let below_is : IsTreeOf program f (State i edge.from) = from_is ∙ ap Some step.home_is in
    let gives_told = told-gives program share f e i e first above all front back pairs placed sums (is ∙ ap Some home_is) in
    let parts : Parts thread edge moments = step-known program f e i thread edge (λ t x. Parts t x moments) below_is step.edge_is (told-parts program share f e first above all front back placed) in
    let first_row : NodeRow = record { home = from; row = below.given.row } in
    let case_is : IsCaseOf program (instance.Guar (says first_row) e) (guar_case program i e thread edge (says first_row)) = cases.guar i e thread edge (says first_row) step.edge_is step.home_is in
    let nodes_f = nodes_of program share first f (at_before moments) in
    let node = node_at program n (Guar f e) moments in
    let here : NodeRow = record { home = AtEdge i e; row = gives_told.row } in
    let wide = state-wide program share f from i edge.from first (at_before moments) all front pairs step.home_is below.given in
    let follows : Follows program (guar_case program i e thread edge (says first_row)) here = record {
      at_target = refl;
      no_equality = gives_told.no_equality;
      one_each = gives_told.width;
      meets = λ x d point.
          let (v, same_x) = found-values program thread edge n edge.inputs moments x d (range_with_len 0 edge.inputs) each columns parts refl point.whole
          (AllByRecursion-front (λ row. MeetsOver row x d) (map (kept_row (length program.columns) edge.inputs) (kept_columns (length program.columns) thread.counter edge)) _ point.meets.1.1.1.1) in
          let (rows, premise) = point-own program i thread edge moments (inputs_at n edge) v d first_row each wide (subst (λ y. IsRationalPoint (own_case program i thread edge (says first_row)).system y d) (sym same_x) point) in
          let met : AllMeetAt v d node.rows = subst (AllMeetAt v d) (sym (guar-rows program n f e i thread edge moments below_is step.edge_is)) rows in
          let part = one-holds all front nodes_f node back pairs v d placed.split sums.signs met
          (state-premise program share f from i edge.from first moments all front pairs v d step.home_is below.given premise) in
          subst (λ y. MeetsOver (wider_row edge.inputs gives_told.row) y d) same_x
          (told-placed program share (Guar f e) i e first above all front pairs v d (inputs_at n edge) edge.inputs gives_told each part);
    } in
    let rows_are = last-sum all pairs (first + 1) n nodes_f node here (omega (arith, length-nodes program share f first (at_before moments)))
    (node-is program share (Guar f e) (AtEdge i e) first above all front pairs gives_told (is ∙ ap Some home_is)) in
    subst (λ h. SumsAt program share (Guar f e) h first above all front pairs) (sym home_is)
    (record {
      given = gives_told;
      solves = subst (λ rows. Solves program (Guar f e) rows here) (sym rows_are)
          (guar f e (sums_from all pairs (first + 1) nodes_f) first_row (guar_case program i e thread edge (says first_row)) here below.solves case_is follows);
      shared = subst (AllByRecursion (IsHere program share)) (sym rows_are)
          (AllByRecursion-append (IsHere program share) (sums_from all pairs (first + 1) nodes_f) (here ∷ []) below.shared (record { width = gives_told.width; zeros = gives_told.zeros }, tt));
    })

-- ---- instances with two premises

pub env-sums : (program : Program) (share : Sharing) (f t : Tree) (from told : Home) (first : ℕ) (above : Moments) (all front back : List Node) (pairs : Pairs) (given : Case) (home : Home)
    → IsCaseOf program (instance.Env (bare from) (bare told)) given → given.target ≡ home → Placed program share (Env f t) first above all front back → SumsToNothing (rows_of all) pairs
    → IsTreeOf program f from → IsTreeOf program t told → IsTreeOf program (Env f t) home
    → SumsAt program share f from first (at_before (moments_of program share (first + size_of (Env f t)) (Env f t) above)) all front pairs
    → SumsAt program share t told (first + size_of f) (moments_of program share (first + size_of (Env f t)) (Env f t) above) all
    (front ++ nodes_of program share first f (at_before (moments_of program share (first + size_of (Env f t)) (Env f t) above))) pairs
    → SumsAt program share (Env f t) home first above all front pairs
env-sums program share f t from told first above all front back pairs given home case same placed sums from_is told_is is below beside =
    let n = first + size_of (Env f t) in
    let moments = moments_of program share n (Env f t) above in
    let each = moments-each program share n (Env f t) above placed.each in
    let columns = moments-columns program share n (Env f t) above placed.columns in
    let two = two-of program (instance.Env (bare from) (bare told)) given case in
    let thread = two.thread in
    let edge = two.edge in
    let home_is : home ≡ State two.k two.l = sym same ∙ ap (λ (c : Case). c.target) two.is in
    let below_is : IsTreeOf program f (State two.k two.l) = from_is ∙ ap Some two.home_f in
    let beside_is : IsTreeOf program t (AtEdge two.i two.e) = told_is ∙ ap Some two.home_t in
    let gives_state = state-gives program share (Env f t) two.k two.l first above all front back pairs placed sums (is ∙ ap Some home_is) refl in
    let parts : Parts thread edge moments = told-known program t two.i two.e thread edge (λ s x. Parts s x moments) beside_is two.edge_is (state-parts program share (Env f t) first above all front back placed) in
    let first_row : NodeRow = record { home = from; row = below.given.row } in
    let told_row : NodeRow = record { home = told; row = beside.given.row } in
    let by_case = env_case program two.k two.l two.other thread edge (says first_row) (says told_row) in
    let case_is : IsCaseOf program (instance.Env (says first_row) (says told_row)) by_case =
    cases.env two.k two.l two.i two.e two.other thread edge (says first_row) (says told_row) two.apart two.there two.edge_is two.home_f two.home_t in
    let nodes_f = nodes_of program share first f (at_before moments) in
    let nodes_t = nodes_of program share (first + size_of f) t moments in
    let node = node_at program n (Env f t) moments in
    let here : NodeRow = record { home = State two.k two.l; row = gives_state.row } in
    let wide = state-wide program share f from two.k two.l first (at_before moments) all front pairs two.home_f below.given in
    let follows : Follows program by_case here = record {
      at_target = refl;
      no_equality = gives_state.no_equality;
      one_each = gives_state.width;
      meets = λ x d point.
          let (v, same_x) = found-values program thread edge n 0 moments x d [] each columns parts refl (omega (arith, point.whole))
          (AllByRecursion-front (λ row. MeetsOver row x d) (map (kept_row (length program.columns) 0) (kept_columns (length program.columns) thread.counter edge)) _ point.meets.1.1.1.1) in
          let (rows, premise, second) = point-env program two.k two.l two.other thread edge moments v d first_row told_row each wide (subst (λ y. IsRationalPoint by_case.system y d) (sym same_x) point) in
          let met : AllMeetAt v d node.rows = subst (AllMeetAt v d) (sym (env-rows program n f t two.k two.l two.i two.e two.other thread edge moments below_is beside_is two.there.thread_is two.edge_is)) rows in
          let part = two-hold all front nodes_f nodes_t node back pairs v d placed.split sums.signs met
          (state-premise program share f from two.k two.l first moments all front pairs v d two.home_f below.given premise)
          (premise-holds program share t told (first + size_of f) moments all (front ++ nodes_f) pairs v d beside.given (subst (λ h. MeetsOver beside.given.row (map v (seen h moments)) d) (sym two.home_t) second)) in
          subst (λ y. MeetsOver (moved_row (length program.columns) 0 gives_state.row) y d) same_x
          (state-placed program share (Env f t) two.k two.l first above all front pairs v d [] 0 gives_state each part);
    } in
    let rows_are = two-sums all pairs (first + 1) (first + size_of f + 1) n nodes_f nodes_t node here
    (omega (arith, length-nodes program share f first (at_before moments))) (omega (arith, length-nodes program share t (first + size_of f) moments))
    (node-is program share (Env f t) (State two.k two.l) first above all front pairs gives_state (is ∙ ap Some home_is)) in
    subst (λ h. SumsAt program share (Env f t) h first above all front pairs) (sym home_is)
    (record {
      given = gives_state;
      solves = subst (λ rows. Solves program (Env f t) rows here) (sym rows_are)
          (env f t (sums_from all pairs (first + 1) nodes_f) (sums_from all pairs (first + size_of f + 1) nodes_t) first_row told_row by_case here below.solves beside.solves case_is follows);
      shared = subst (AllByRecursion (IsHere program share)) (sym rows_are)
          (AllByRecursion-append (IsHere program share) (sums_from all pairs (first + 1) nodes_f) (sums_from all pairs (first + size_of f + 1) nodes_t ++ here ∷ []) below.shared
          (AllByRecursion-append (IsHere program share) (sums_from all pairs (first + size_of f + 1) nodes_t) (here ∷ []) beside.shared (record { width = gives_state.width; zeros = gives_state.zeros }, tt)));
    })

pub inter-sums : (program : Program) (share : Sharing) (f g : Tree) (e : ℕ) (from other : Home) (first : ℕ) (above : Moments) (all front back : List Node) (pairs : Pairs) (given : Case) (home : Home)
    → IsCaseOf program (instance.Inter (bare from) (bare other) e) given → given.target ≡ home → Placed program share (Inter f g e) first above all front back → SumsToNothing (rows_of all) pairs
    → IsTreeOf program f from → IsTreeOf program g other → IsTreeOf program (Inter f g e) home
    → SumsAt program share f from first (at_before (moments_of program share (first + size_of (Inter f g e)) (Inter f g e) above)) all front pairs
    → SumsAt program share g other (first + size_of f) (at_before (moments_of program share (first + size_of (Inter f g e)) (Inter f g e) above)) all
    (front ++ nodes_of program share first f (at_before (moments_of program share (first + size_of (Inter f g e)) (Inter f g e) above))) pairs
    → SumsAt program share (Inter f g e) home first above all front pairs
inter-sums program share f g e from other first above all front back pairs given home case same placed sums from_is other_is is below beside =
    let n = first + size_of (Inter f g e) in
    let moments = moments_of program share n (Inter f g e) above in
    let each = moments-each program share n (Inter f g e) above placed.each in
    let columns = moments-columns program share n (Inter f g e) above placed.columns in
    let two = two-of program (instance.Inter (bare from) (bare other) e) given case in
    let i = two.i in
    let thread = two.thread in
    let edge = two.edge in
    let home_is : home ≡ State two.k two.l = sym same ∙ ap (λ (c : Case). c.target) two.is in
    let below_is : IsTreeOf program f (State two.k two.l) = from_is ∙ ap Some two.home_f in
    let beside_is : IsTreeOf program g (State i edge.from) = other_is ∙ ap Some two.home_g in
    let gives_state = state-gives program share (Inter f g e) two.k two.l first above all front back pairs placed sums (is ∙ ap Some home_is) refl in
    let parts : Parts thread edge moments = step-known program g e i thread edge (λ s x. Parts s x moments) beside_is two.edge_is (state-parts program share (Inter f g e) first above all front back placed) in
    let first_row : NodeRow = record { home = from; row = below.given.row } in
    let other_row : NodeRow = record { home = other; row = beside.given.row } in
    let by_case = inter_case program two.k two.l two.other thread edge (says first_row) (says other_row) in
    let case_is : IsCaseOf program (instance.Inter (says first_row) (says other_row) e) by_case =
    cases.inter two.k two.l i e two.other thread edge (says first_row) (says other_row) two.apart two.there two.edge_is two.home_f two.home_g in
    let nodes_f = nodes_of program share first f (at_before moments) in
    let nodes_g = nodes_of program share (first + size_of f) g (at_before moments) in
    let node = node_at program n (Inter f g e) moments in
    let here : NodeRow = record { home = State two.k two.l; row = gives_state.row } in
    let wide = state-wide program share f from two.k two.l first (at_before moments) all front pairs two.home_f below.given in
    let wide_too = state-wide program share g other i edge.from (first + size_of f) (at_before moments) all (front ++ nodes_f) pairs two.home_g beside.given in
    let follows : Follows program by_case here = record {
      at_target = refl;
      no_equality = gives_state.no_equality;
      one_each = gives_state.width;
      meets = λ x d point.
          let (v, same_x) = found-values program thread edge n edge.inputs moments x d (range_with_len 0 edge.inputs) each columns parts refl point.whole
          (AllByRecursion-front (λ row. MeetsOver row x d) (map (kept_row (length program.columns) edge.inputs) (kept_columns (length program.columns) thread.counter edge)) _ point.meets.1.1.1.1.1.1) in
          let (rows, premise, second) = point-inter program two.k two.l two.other thread edge moments (inputs_at n edge) v d first_row other_row each wide wide_too (subst (λ y. IsRationalPoint by_case.system y d) (sym same_x) point) in
          let met : AllMeetAt v d node.rows = subst (AllMeetAt v d) (sym (inter-rows program n f g two.k two.l i e two.other thread edge moments below_is beside_is two.there.thread_is two.edge_is)) rows in
          let part = two-hold all front nodes_f nodes_g node back pairs v d placed.split sums.signs met
          (state-premise program share f from two.k two.l first moments all front pairs v d two.home_f below.given premise)
          (state-premise program share g other i edge.from (first + size_of f) moments all (front ++ nodes_f) pairs v d two.home_g beside.given second) in
          subst (λ y. MeetsOver (moved_row (length program.columns) edge.inputs gives_state.row) y d) same_x
          (state-placed program share (Inter f g e) two.k two.l first above all front pairs v d (inputs_at n edge) edge.inputs gives_state each part);
    } in
    let rows_are = two-sums all pairs (first + 1) (first + size_of f + 1) n nodes_f nodes_g node here
    (omega (arith, length-nodes program share f first (at_before moments))) (omega (arith, length-nodes program share g (first + size_of f) (at_before moments)))
    (node-is program share (Inter f g e) (State two.k two.l) first above all front pairs gives_state (is ∙ ap Some home_is)) in
    subst (λ h. SumsAt program share (Inter f g e) h first above all front pairs) (sym home_is)
    (record {
      given = gives_state;
      solves = subst (λ rows. Solves program (Inter f g e) rows here) (sym rows_are)
          (inter f g e (sums_from all pairs (first + 1) nodes_f) (sums_from all pairs (first + size_of f + 1) nodes_g) first_row other_row by_case here below.solves beside.solves case_is follows);
      shared = subst (AllByRecursion (IsHere program share)) (sym rows_are)
          (AllByRecursion-append (IsHere program share) (sums_from all pairs (first + 1) nodes_f) (sums_from all pairs (first + size_of f + 1) nodes_g ++ here ∷ []) below.shared
          (AllByRecursion-append (IsHere program share) (sums_from all pairs (first + size_of f + 1) nodes_g) (here ∷ []) beside.shared (record { width = gives_state.width; zeros = gives_state.zeros }, tt)));
    })
