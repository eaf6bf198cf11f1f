-- Where something leads, that home has a number.
use Rattle.std.proofs.Common.{◌≡◌, Some, None, refl, ap, sym, ◌∙◌, List}
use Rattle.thr_base.specs.declared.names.HomeNo.{HomeNo}
use Rattle.thr_base.specs.declared.names.Instance.{Instance}
use Rattle.thr_base.specs.declared.names.Instance.TheVariants as stored
use Rattle.fact_table.specs.declared.live_fact.LiveFact.{LiveFact}
use Rattle.transition_formula.specs.Program.{Program, Edge, at_number}
use Rattle.horn_rules.specs.Home.{Home, State, Env, homes}
use Rattle.horn_rules.specs.Target.{edge_beside, location_beside}
use Rattle.instance_cursors.specs.declared.start.Start.{Start as StartOf}
use Rattle.instance_cursors.specs.Ways.{Layout}
use Rattle.pending_instances.specs.Open.{Leads, LeadsTo, home_live, target_in}
use Rattle.pending_instances.proofs.Leading.{Fits, env_there, guar_there, inter_there, own_there, place_for, start_there}
use Rattle.pending_instances.proofs.Seen.{stands_from}

abbrev HasNumber : Program → Home → Type 0
HasNumber program home = (n : HomeNo) × (at_number (homes program) n.0 ≡ Some home)

number_of : (program : Program) (layout : Layout) (starts : List StartOf) (live : List LiveFact) → Fits program layout starts live → (instance : Instance) (target : Home) → target_in program live instance ≡ Some target
    → HasNumber program target
number_of program layout starts live fits (stored.Init thread) target is =
    let there = start_there program thread (at_number program.threads thread.0) target refl is in
    let start = fits.starts_are.all thread.0 there.0 in
    (start.0.home, fits.starts_are.homes_are start.0 start.1 ∙ ap (λ h. Some h) (ap (λ n. State n 1) start.2 ∙ there.1))
number_of program layout starts live fits (stored.Own id e) target is =
    let there = own_there program id.0 e.0 (home_live program live id.0) None target is in
    let fact = stands_from program live fits.at_homes id.0 there.0 there.2 in
    let place = place_for program layout starts live fits id.0 fact.0 e.0 there.0 there.1 fact.1 there.3 in (
      place.seen.target,
      place.is_seen.target
          ∙ ap (λ h. Some h) (ap (λ (x : Edge). State place.seen.thread.0 x.to) place.same_edge ∙ (ap (λ h. location_beside h there.1.to) (sym place.home_is) ∙ there.4)),
    )
number_of program layout starts live fits (stored.Guar id e) target is =
    let there = guar_there program id.0 e.0 (home_live program live id.0) None target is in
    let fact = stands_from program live fits.at_homes id.0 there.0 there.2 in
    let place = place_for program layout starts live fits id.0 fact.0 e.0 there.0 there.1 fact.1 there.3 in
    (place.seen.told, place.is_seen.told ∙ ap (λ h. Some h) (ap (λ n. Env place.seen.thread.0 n) place.number ∙ (ap (λ h. edge_beside h e.0) (sym place.home_is) ∙ there.4)))
number_of program layout starts live fits (stored.Env f t) target is =
    let there = env_there program f.0 t.0 (home_live program live f.0) (home_live program live t.0) target is in
    let fact = stands_from program live fits.at_homes f.0 there.0 there.2 in
    (fact.0.fact.home, fact.1.number_is ∙ ap (λ h. Some h) there.5)
number_of program layout starts live fits (stored.Inter f g e) target is =
    let there = inter_there program f.0 g.0 e.0 (home_live program live f.0) (home_live program live g.0) target is in
    let fact = stands_from program live fits.at_homes f.0 there.0 there.3 in
    (fact.0.fact.home, fact.1.number_is ∙ ap (λ h. Some h) there.7)

pub leads_somewhere : (program : Program) (layout : Layout) (starts : List StartOf) (live : List LiveFact) → Fits program layout starts live → (instance : Instance) → Leads program layout.rule live instance
    → (home : HomeNo) × LeadsTo program layout.rule live instance home
leads_somewhere program layout starts live fits instance leads =
    let number = number_of program layout starts live fits instance leads.target leads.target_is in
    (number.0, record { has_kind = leads.has_kind; is_target = record { target = leads.target; target_is = leads.target_is; number_is = number.1 } })
