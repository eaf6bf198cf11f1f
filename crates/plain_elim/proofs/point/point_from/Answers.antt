use Rattle.std.proofs.Common.{◌≡◌, ◌∙◌, Some, None, length, add-one, rules}
use Rattle.farkas_cert.specs.BackSubstitution.{set_column}
use Rattle.plain_elim.specs.inside.Held.{kept_of}
use Rattle.plain_elim.proofs.PointStages.{point_from-stops, point_from-goes, point_from-end, bounds_of_rest, bounds_of_latest}
use Rattle.plain_elim.proofs.point.point_from.Goals as goal

pub set_column-requires-clause-bounds : goal.set_column-requires-clause-bounds
set_column-requires-clause-bounds c =
    bounds_of_latest c.args.columns c.stages.kept.items c.pop.new.self.items c.in-Some.latest c.in-Some.ensures.items c.stages.invariant.bounds

pub returns-in-None : goal.returns-in-None
returns-in-None c =
    let none : None ≡ set_column c.args.columns c.stages.point (kept_of c.in-Some.latest) = search rules in
    let stopped = point_from-stops c.args.columns c.stages.kept.items c.pop.new.self.items c.in-Some.latest c.stages.point c.in-Some.ensures.items none in
    let size : c.len.result ≡ length c.pop.new.self.items = search rules in
    rw (size, add-one (length c.pop.new.self.items)) (stopped ∙ c.stages.invariant.rest)

pub stages-preserved : goal.stages-preserved
stages-preserved c =
    let next = c.in-Some-set_column.next in
    let some : Some next ≡ set_column c.args.columns c.stages.point (kept_of c.in-Some.latest) = search rules in
    let items = c.in-Some.ensures.items in
    record {
      bounds = bounds_of_rest c.args.columns c.stages.kept.items c.pop.new.self.items c.in-Some.latest items c.stages.invariant.bounds;
      few = search rules;
      width = search rules;
      rest = point_from-goes c.args.columns c.stages.kept.items c.pop.new.self.items c.in-Some.latest c.stages.point next items some ∙ c.stages.invariant.rest;
    }

pub returns : goal.returns
returns c =
    let none : length c.stages.kept.items ≡ 0 = search rules in
    let end = point_from-end c.args.columns c.stages.kept.items c.stages.point none ∙ c.stages.invariant.rest in
    search (rules, end)
