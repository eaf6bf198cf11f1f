use Rattle.std.proofs.Common.{Some, None, sym, ap, subst}
use Rattle.thr_base.specs.declared.names.Instance.TheVariants.{Own}
use Rattle.transition_formula.specs.Program.{Thread, Edge, IsEdgeOf}
use Rattle.transition_formula.specs.Program as specs
use Rattle.horn_rules.specs.Home.{IsHomeOf, State}
use Rattle.horn_rules.specs.Stored.{fact_of}
use Rattle.serial_fix.specs.inside.Run.{InstanceIsSettled, OwnIsSettled}
use Rattle.serial_fix.proofs.Looked.{known-there}
use Rattle.serial_fix.proofs.Instances.{target-home, found-home, own-instance, own-settled, if-step}
use Rattle.serial_fix.proofs.run.own_step.Goals as goal

pub number-home-requires : goal.number-home-requires
number-home-requires c =
    let from = c.requires.from in
    subst (λ l. IsHomeOf c.args.program.now (State c.args.i.0 l)) (sym (ap (λ (edge : specs.Edge). edge.to) (c.edge_at.ensures from.thread from.edge from.edge_is)))
    (target-home c.args.program.now c.args.i.0 c.args.e.0 from.thread from.edge c.requires.run.program_is from.edge_is)

pub as_premise-requires : goal.as_premise-requires
as_premise-requires c = found-home c.args.program.now c.args.sets.now c.args.found.now c.args.known.fact c.requires.run (known-there c.requires.known)

pub add-requires-clause-instance : goal.add-requires-clause-instance
add-requires-clause-instance c =
    own-instance c.args.program.now c.args.sets.now c.args.found.now c.args.known.fact c.args.known.id c.args.i.0 c.args.e c.in_ok-first.first c.number-home.result.0 c.edge_at.result.now.to.0
    c.requires.run (known-there c.requires.known) c.requires.known.at (record { id_is = c.in_ok-first.ensures.id; fact_is = c.in_ok-first.ensures.fact; set_is = c.in_ok-first.ensures.set }) c.requires.from
    (λ thread edge is. ap (λ (e : specs.Edge). e.to) (c.edge_at.ensures thread edge is)) c.number-home.ensures

pub returns : goal.returns
returns c =
    if-step c.args.program.now c.args.sets.now c.args.limits c.args.found.now c.add.new.found _
    (InstanceIsSettled c.args.program.now c.args.sets.now (Own c.args.known.id c.args.e) (Some c.in_ok-first.first) None c.number-home.result.0)
    (OwnIsSettled c.args.program.now c.args.sets.now c.args.i.0 c.args.e.0 (fact_of c.args.program.now c.args.known.fact)) c.add.result c.add.ensures
    (own-settled c.args.program.now c.args.sets.now c.args.found.now c.add.new.found c.args.known.fact c.args.known.id c.args.i.0 c.args.e c.in_ok-first.first c.number-home.result.0 c.edge_at.result.now.to.0
    c.requires.run (known-there c.requires.known) (record { id_is = c.in_ok-first.ensures.id; fact_is = c.in_ok-first.ensures.fact; set_is = c.in_ok-first.ensures.set })
    (λ thread edge is. ap (λ (e : specs.Edge). e.to) (c.edge_at.ensures thread edge is)) c.number-home.ensures)
