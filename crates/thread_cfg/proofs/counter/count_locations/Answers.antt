use Rattle.std.proofs.Common.{◌≡◌, ◌≤◌, false, ap, arith, rules}
use Rattle.thr_base.specs.Limits.{most_locations}
use Rattle.thread_cfg.specs.inside.Sizes.{count_start, counted, counted_all}
use Rattle.thread_cfg.specs.inside.Counter.{counted_of}
use Rattle.thread_cfg.proofs.SizeLemmas.{counted-over}
use Rattle.thread_cfg.proofs.counter.count_locations.Goals as goal

pub returns-then-not-few : goal.returns-then-not-few
returns-then-not-few c =
    let many : c.in_ok-few.few ≡ false = search rules in
    let over : most_locations ≤ (counted (counted_of c.code.counter) c.instruction-item.result).at = rw many at c.in_ok-few.ensures in
    let here = ap (λ i. (counted (counted_of c.code.counter) i).at) c.instruction-item.is in
    counted-over c.args.code.now c.code.instruction-index c.instruction-item.result (counted_of c.code.counter) (counted_all c.args.code.now count_start)
    c.code-test.true (omega (arith, here, over)) c.code.invariant.all
