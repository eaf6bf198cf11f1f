use Rattle.std.proofs.Common.{◌≡◌, replicate, length, ap, refl, ◌∙◌, arith}
use Rattle.horn_rules.specs.Home.{homes}
use Rattle.fact_table.specs.Table.{no_facts}
use Rattle.core_steps.proofs.Opened.{kept-opened, none_only}
use Rattle.core_steps.proofs.stored_core.Core.open.Goals as goal

pub invariant_of-result : goal.invariant_of-result
invariant_of-result c =
    let epochs : c.in_ok-epochs.epochs.items ≡ replicate (length (homes c.args.program.now)) 0 =
    c.in_ok-epochs.ensures.items_if_clones_equal (λ y e. e) ∙ ap (λ n. replicate n 0) c.home_count-homes.ensures in
    kept-opened _ (record {
      is_program = c.threads-threads.ensures.program;
      start = c.requires.sets;
      limits = c.requires.limits;
      some_workers = c.requires.some_workers;
      few_workers = c.requires.few_workers;
      sets = c.in_ok-copy.ensures;
      lists = c.in_ok-lists.ensures;
      epochs = epochs;
      table = c.in_ok-table.ensures ∙ ap (λ n. no_facts n c.args.limits.facts) c.home_count-homes.ensures;
      waiting = c.in_ok-waiting.ensures;
      holds = c.in_ok-holds.ensures.items_if_clones_equal (none_only _ (λ x is. is));
      claims = c.in_ok-claims.ensures.items_if_clones_equal (none_only _ (λ x is. is));
      published = refl;
      refined = refl;
      stopped = refl;
      journal = c.in_ok-journal.ensures.items;
      room = omega (arith, c.in_ok-journal.ensures.capacity, c.most_events.ensures);
    })
