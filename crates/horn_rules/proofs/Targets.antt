-- An instance comes to a case exactly where the homes of its premises give it a target.
use Rattle.std.proofs.Common.{◌≡◌, ℕ, zero, suc, Bool, true, false, [], Option, Some, None, refl, sym, ap, ap₂, subst, ◌∙◌}
use Rattle.std.specs.Prelude.{◌==◌, if◌then◌else◌, option_map}
use Rattle.transition_formula.specs.Program.{Program, Thread, Edge, IsThreadOf, IsEdgeOf, at_number}
use Rattle.horn_rules.specs.Home.{Home, State, Env, IsHomeOf}
use Rattle.horn_rules.specs.Instance.{Init, Own, Guar, Env as Environment, Inter}
use Rattle.horn_rules.specs.Instances.{edges_of, tells_another, of_another}
use Rattle.horn_rules.specs.Case.{init, own, guar, env, inter, init_case, own_case, guar_case, env_case, inter_case}
use Rattle.horn_rules.specs.Target.{if_from, edge_from, location_beside, edge_beside}
use Rattle.horn_rules.specs.Laws.{CasesHaveTheirTarget, TargetsHaveCases}
use Rattle.horn_rules.proofs.Numbers.{state_home-place}
use Rattle.horn_rules.proofs.HomesThere.{place-location, edge-home, some-thread}
use Rattle.std.specs.Option.{IsSome}
use Rattle.horn_rules.proofs.InstanceLists.{eq-is, is-eq, is-told, is-apart, told-is, apart-is, other-number, same-number, edge-there}
use Rattle.farkas_cert.proofs.Slack.{map_is}

-- ---- from cases

edge-from_source : (program : Program) (home : Home) (i e : ℕ) (thread : Thread) (edge : Edge) → IsEdgeOf program i e thread edge → home ≡ State i edge.from → edge_from program home e ≡ Some edge
edge-from_source program home i e thread edge at is =
    ap (λ h. edge_from program h e) is
    ∙ ap (λ found. if_from edge.from (at_number (edges_of found) e)) at.thread_is
    ∙ ap (if_from edge.from) at.edge_is
    ∙ ap (λ b. if b then Some edge else None) (is-eq edge.from edge.from refl)

pub cases-have-their-target : CasesHaveTheirTarget
cases-have-their-target program instance given (init i thread at) = ap (option_map (λ thread. State i 1)) at
cases-have-their-target program instance given (own i e thread edge f at home) =
    ap₂ (λ h found. option_map (λ edge. location_beside h edge.to) found) home (edge-from_source program f.home i e thread edge at home)
cases-have-their-target program instance given (guar i e thread edge f at home) =
    ap₂ (λ h found. option_map (λ edge. edge_beside h e) found) home (edge-from_source program f.home i e thread edge at home)
cases-have-their-target program instance given (env k l i e other thread edge f t apart there at home_f home_t) =
    ap (λ b. if b then Some f.home else None) (is-told f.home t.home k l i e apart home_f home_t) ∙ ap Some home_f
cases-have-their-target program instance given (inter k l i e other thread edge f g apart there at home_f home_g) =
    ap (λ b. if b then option_map (λ edge. f.home) (edge_from program g.home e) else None) (is-apart f.home g.home k l i edge.from apart home_f home_g)
    ∙ ap (option_map (λ edge. f.home)) (edge-from_source program g.home i e thread edge at home_g)
    ∙ ap Some home_f

-- ---- to cases

if-some : {A : Type 0} (b : Bool) (x y : A) → (if b then Some x else None) ≡ Some y → (b ≡ true) × (x ≡ y)
if-some true x y e = (refl, cc)
if-some false x y e = cc

if-option : {A : Type 0} (b : Bool) (x : Option A) (y : A) → (if b then x else None) ≡ Some y → (b ≡ true) × (x ≡ Some y)
if-option true x y e = (refl, e)
if-option false x y e = cc

record LeadsBy (program : Program) (home : Home) (e : ℕ) (edge : Edge) : Type 0 where
  i : ℕ
  thread : Thread
  edge_is : IsEdgeOf program i e thread edge
  home_is : home ≡ State i edge.from

no-edge : (l e : ℕ) (edge : Edge) → if_from l (at_number [] e) ≡ Some edge → ⊥
no-edge l zero edge is = cc
no-edge l (suc e) edge is = cc

from-edge : (l : ℕ) (found : Option Edge) (edge : Edge) → if_from l found ≡ Some edge → (found ≡ Some edge) × (edge.from ≡ l)
from-edge l None edge is = cc
from-edge l (Some x) edge is =
    let (leads, same) = if-some (x.from == l) x edge is in
    (ap Some same, subst (λ (y : Edge). y.from ≡ l) same (eq-is x.from l leads))

leads-by : (program : Program) (home : Home) (e : ℕ) (edge : Edge) → edge_from program home e ≡ Some edge → LeadsBy program home e edge
leads-by program (Env i k) e edge is = cc
leads-by program (State i l) e edge is = of-thread (at_number program.threads i) refl is
  where
    of-thread : (found : Option Thread) → at_number program.threads i ≡ found → if_from l (at_number (edges_of found) e) ≡ Some edge → LeadsBy program (State i l) e edge
    of-thread None at is = absurd (no-edge l e edge is)
    of-thread (Some thread) at is =
        let (there, from) = from-edge l (at_number thread.edges e) edge is in
        record { i = i; thread = thread; edge_is = record { thread_is = at; edge_is = there }; home_is = ap (State i) (sym from) }

pub targets-have-cases : TargetsHaveCases
targets-have-cases program (Init i) target homes is =
    let (thread, at, same) = map_is (λ thread. State i 1) (at_number program.threads i) target is in
    (init_case program i, init i thread at, same)
targets-have-cases program (Own f e) target homes is =
    let (edge, at, same) = map_is (λ (edge : Edge). location_beside f.home edge.to) (edge_from program f.home e) target is in
    let leads = leads-by program f.home e edge at in (
      own_case program leads.i leads.thread edge f,
      own leads.i e leads.thread edge f leads.edge_is leads.home_is,
      ap (λ h. location_beside h edge.to) (sym leads.home_is) ∙ same,
    )
targets-have-cases program (Guar f e) target homes is =
    let (edge, at, same) = map_is (λ (edge : Edge). edge_beside f.home e) (edge_from program f.home e) target is in
    let leads = leads-by program f.home e edge at in (
      guar_case program leads.i e leads.thread edge f,
      guar leads.i e leads.thread edge f leads.edge_is leads.home_is,
      ap (λ h. edge_beside h e) (sym leads.home_is) ∙ same,
    )
targets-have-cases program (Environment f t) target homes is =
    let (tells, same) = if-some (tells_another f.home t.home) f.home target is in
    let are = told-is f.home t.home tells in
    let place = state_home-place program are.k are.l (subst (IsHomeOf program) are.home_is homes.0) in
    let (thread, edge, edge_is) = edge-there program are.i are.e (subst (IsHomeOf program) are.told_is homes.1.0) in (
      env_case program are.k are.l place.thread thread edge f t,
      env are.k are.l are.i are.e place.thread thread edge f t are.apart (place-location program are.k are.l place) edge_is are.home_is are.told_is,
      sym are.home_is ∙ same,
    )
targets-have-cases program (Inter f g e) target homes is =
    let (differ, found) = if-option (of_another f.home g.home) (option_map (λ edge. f.home) (edge_from program g.home e)) target is in
    let (edge, at, same) = map_is (λ (edge : Edge). f.home) (edge_from program g.home e) target found in
    let are = apart-is f.home g.home differ in
    let leads = leads-by program g.home e edge at in
    let place = state_home-place program are.k are.l (subst (IsHomeOf program) are.home_is homes.0) in
    let number = same-number g.home are.i are.m leads.i edge.from are.other_is leads.home_is in (
      inter_case program are.k are.l place.thread leads.thread edge f g,
      inter are.k are.l leads.i e place.thread leads.thread edge f g (other-number are.k are.i leads.i are.apart number) (place-location program are.k are.l place) leads.edge_is are.home_is leads.home_is,
      sym are.home_is ∙ same,
    )

-- ---- the edge that a home's thread has

-- where the edge is no home, none leads on
pub no-edge-on : (program : Program) (i l e : ℕ) → (¬ IsHomeOf program (Env i e)) → None ≡ option_map (λ edge. edge.to) (edge_from program (State i l) e)
no-edge-on program i l e none = of-thread (at_number program.threads i) refl
  where
    of-edge : (thread : Thread) (found : Option Edge) → IsThreadOf program i thread → at_number thread.edges e ≡ found → None ≡ option_map (λ edge. edge.to) (if_from l found)
    of-edge thread None at is = refl
    of-edge thread (Some edge) at is = absurd (none (edge-home program i e thread edge (record { thread_is = at; edge_is = is })))

    no-edges : (m : ℕ) → None ≡ option_map (λ edge. edge.to) (if_from l (at_number [] m))
    no-edges zero = refl
    no-edges (suc m) = refl

    of-thread : (found : Option Thread) → at_number program.threads i ≡ found → None ≡ option_map (λ edge. edge.to) (if_from l (at_number (edges_of found) e))
    of-thread None at = no-edges e
    of-thread (Some thread) at = of-edge thread (at_number thread.edges e) at refl

pub edge-thread : (program : Program) (i e : ℕ) → IsHomeOf program (Env i e) → IsSome (at_number program.threads i)
edge-thread program i e is = let (thread, edge, at) = edge-there program i e is in some-thread program.threads i thread at.thread_is

pub edge-some : (program : Program) (i e : ℕ) → IsHomeOf program (Env i e) → (thread : Thread) → IsThreadOf program i thread → IsSome (at_number thread.edges e)
edge-some program i e is thread at =
    let (other, edge, there) = edge-there program i e is in
    let both : Some other ≡ Some thread = sym there.thread_is ∙ at in
    let same : other ≡ thread = cc in
    subst IsSome (sym (ap (λ (t : Thread). at_number t.edges e) (sym same) ∙ there.edge_is)) refl

-- where it is one, and leads from the location, it is found
pub edge-on : (program : Program) (i l e : ℕ) (edge : Edge) → IsHomeOf program (Env i e) → ((thread : Thread) → IsThreadOf program i thread → at_number thread.edges e ≡ Some edge) → edge.from ≡ l
    → Some edge.to ≡ option_map (λ edge. edge.to) (edge_from program (State i l) e)
edge-on program i l e edge is at from =
    let (thread, other, there) = edge-there program i e is in
    ap (option_map (λ (edge : Edge). edge.to)) (sym (edge-from_source program (State i l) i e thread edge (record { thread_is = there.thread_is; edge_is = at thread there.thread_is }) (ap (State i) (sym from))))
