use Rattle.std.proofs.Common.{rules, ◌∙◌, map, ap}
use Rattle.horn_rules.specs.Instance.{Init}
use Rattle.horn_rules.specs.Stored.{instance_of}
use Rattle.std.proofs.lemmas.List.{map-append}
use Rattle.annotation_form.proofs.Listed.{step-thread}
use Rattle.annotation_form.proofs.listing.push_inits.Goals as goal

pub loop-i-preserved : goal.loop-i-preserved
loop-i-preserved c = step-thread Init c.args.program.now.threads _ (map instance_of c.loop-i.out.items) (map instance_of c.push.new.self.items) c.loop-i.i (search rules) (ap (map instance_of) c.in_ok-push.ensures.items ∙ map-append instance_of _ _) c.loop-i.invariant
