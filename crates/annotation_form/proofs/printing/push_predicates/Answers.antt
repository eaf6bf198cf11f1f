use Rattle.std.proofs.Common.{rules, ◌≡◌, ◌+◌, ◌<◌, length, arith}
use Rattle.horn_rules.specs.Home.{homes}
use Rattle.horn_rules.specs.Stored.{home_of}
use Rattle.predicate_sets.specs.Sets.{set_at}
use Rattle.annotation_form.proofs.PrintedLines.{printed-home}
use Rattle.annotation_form.proofs.printing.push_predicates.Goals as goal

pub loop-n-preserved : goal.loop-n-preserved
loop-n-preserved c =
    let atoms : c.atoms.result.now ≡ set_at c.args.sets.now (c.loop-n.n + 1) = search rules in
    printed-home c.args.program.now (homes c.args.program.now) c.args.sets.now c.loop-n.n (home_of c.named.result) c.atoms.result.now c.loop-n.text.items c.push_atoms.new.text.items _
    c.named.ensures atoms (omega (arith, c.requires.one_each, c.home_count-count.ensures)) c.in_ok-push_atoms.ensures c.loop-n.invariant
