use Rattle.std.proofs.Common.{◌+◌, drop, sym, subst}
use Rattle.derivation_tree.specs.Kept.{predicates_of_stored}
use Rattle.core_steps.specs.Course.{state_of}
use Rattle.core_steps.specs.inside.Changing.{GrowsBy, HasItsNumber, IsGrown}
use Rattle.core_steps.proofs.ClaimTests.{all-one}
use Rattle.core_steps.proofs.Growths.{drop-next, drop-all, grown-step, numbers-step, grown-full, grown-all}
use Rattle.core_steps.proofs.stored_core.Core.grow.Goals as goal

pub returns-then-full : goal.returns-then-full
returns-then-full c =
    let program = c.args.self.now.program in
    let state = state_of c.args.self.now in
    let stored = c.args.predicates.now in
    let i = c.loop-pair.pair-index in
    let pair = c.pair-item.result in
    let some = subst (HasItsNumber program) (sym c.pair-item.is) (all-one (HasItsNumber program) stored i pair c.loop-pair-test.true c.requires.homes) in
    let grows = subst (λ b. GrowsBy c.loop-pair.sets c.loop-pair.new.items pair b c.grow_by.new.sets c.grow_by.new.new.items) c.if-full.true c.in_ok-full.ensures in
    let grown = subst (λ l. IsGrown program state (predicates_of_stored program stored) (predicates_of_stored program l) (predicates_of_stored program c.loop-pair.new.items) c.loop-pair.sets)
    (drop-next stored i pair c.loop-pair-test.true c.pair-item.is) c.loop-pair.invariant.0 in
    (some, grown-full program state (predicates_of_stored program stored) (predicates_of_stored program (drop (i + 1) stored)) c.loop-pair.new.items c.grow_by.new.new.items c.loop-pair.sets c.grow_by.new.sets pair some grows grown)

pub loop-pair-preserved : goal.loop-pair-preserved
loop-pair-preserved c =
    let program = c.args.self.now.program in
    let state = state_of c.args.self.now in
    let stored = c.args.predicates.now in
    let i = c.loop-pair.pair-index in
    let pair = c.pair-item.result in
    let some = subst (HasItsNumber program) (sym c.pair-item.is) (all-one (HasItsNumber program) stored i pair c.loop-pair-test.true c.requires.homes) in
    let grows = subst (λ b. GrowsBy c.loop-pair.sets c.loop-pair.new.items pair b c.grow_by.new.sets c.grow_by.new.new.items) c.if-full.false c.in_ok-full.ensures in
    let grown = subst (λ l. IsGrown program state (predicates_of_stored program stored) (predicates_of_stored program l) (predicates_of_stored program c.loop-pair.new.items) c.loop-pair.sets)
    (drop-next stored i pair c.loop-pair-test.true c.pair-item.is) c.loop-pair.invariant.0 in (
      grown-step program state (predicates_of_stored program stored) (predicates_of_stored program (drop (i + 1) stored)) c.loop-pair.new.items c.grow_by.new.new.items c.loop-pair.sets c.grow_by.new.sets pair some grows grown,
      numbers-step program c.loop-pair.new.items c.grow_by.new.new.items c.loop-pair.sets c.grow_by.new.sets pair some grows c.loop-pair.invariant.1,
    )

pub returns : goal.returns
returns c =
    let program = c.args.self.now.program in
    let state = state_of c.args.self.now in
    let stored = c.args.predicates.now in
    let grown = subst (λ l. IsGrown program state (predicates_of_stored program stored) (predicates_of_stored program l) (predicates_of_stored program c.loop-pair.new.items) c.loop-pair.sets)
    (drop-all stored c.loop-pair.pair-index c.loop-pair-test.false) c.loop-pair.invariant.0 in
    let both = grown-all program state (predicates_of_stored program stored) (predicates_of_stored program c.loop-pair.new.items) c.loop-pair.sets grown in
    (both.0, both.1, c.loop-pair.invariant.1)
