use Rattle.std.proofs.Common.{◌≡◌, reverse, Some, refl, ap, arith}
use Rattle.std.proofs.lemmas.Bool.{false≢true}
use Rattle.c_tree.specs.inside.Input.{peek}
use Rattle.c_tree.specs.inside.Item.{open_after}
use Rattle.c_tree.proofs.Steps.{next_shorter}
use Rattle.c_tree.proofs.Skipping.{at_start, goes_on, refuses, all_skipped, is_there, fits_so, fails_so, some_open}
use Rattle.c_tree.proofs.skips.skip_through.Goals as goal
use Rattle.c_tree.proofs.skips.skip_through.Goals.{After-take}

pub loop-ends-init : goal.loop-ends-init
loop-ends-init c = rw (c.in_ok-push.ensures.ok, c.new-ends.ensures) (at_start c.args.close c.args.tokens.now)

pub returns-then-not-fits : goal.returns-then-not-fits
returns-then-not-fits c =
    rw c.refuse.ensures (refuses c.args.close c.args.tokens.now (reverse c.loop-ends.ends) c.loop-ends.tokens (some_open c.loop-ends.ends (λ none. false≢true (c.loop-ends-test.ensures.1 none)))
    (fails_so c.loop-ends.tokens c.peek.result (reverse c.loop-ends.ends) (reverse c.open_after.new.ends) c.in_ok-fits.fits c.peek.ensures c.if-not-fits.true c.in_ok-fits.ensures) c.loop-ends.invariant)

fits : (c : After-take) → open_after (peek c.loop-ends.tokens) (reverse c.loop-ends.ends) ≡ Some (reverse c.open_after.new.ends)
fits c = fits_so c.loop-ends.tokens c.peek.result (reverse c.loop-ends.ends) (reverse c.open_after.new.ends) c.in_ok-fits.fits c.peek.ensures c.if-not-fits.false c.in_ok-fits.ensures

pub loop-ends-preserved : goal.loop-ends-preserved
loop-ends-preserved c =
    rw c.take.ensures.next (goes_on c.args.close c.args.tokens.now (reverse c.loop-ends.ends) (reverse c.open_after.new.ends) c.loop-ends.tokens (some_open c.loop-ends.ends (λ none. false≢true (c.loop-ends-test.ensures.1 none))) (fits c) c.loop-ends.invariant)

pub loop-ends-smaller : goal.loop-ends-smaller
loop-ends-smaller c =
    let shorter = next_shorter c.loop-ends.tokens (is_there c.loop-ends.tokens (reverse c.loop-ends.ends) (reverse c.open_after.new.ends) (fits c)) in
    rw c.take.ensures.next (omega (arith, shorter))

pub returns : goal.returns
returns c = all_skipped c.args.close c.args.tokens.now (reverse c.loop-ends.ends) c.loop-ends.tokens (ap reverse (c.loop-ends-test.ensures.0 refl)) c.loop-ends.invariant
