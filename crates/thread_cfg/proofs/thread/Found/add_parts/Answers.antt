use Rattle.std.proofs.Common.{◌≡◌, ◌+◌, ◌-◌, take, subst, arith}
use Rattle.thread_cfg.specs.inside.Adds.{AreDone, AreLeft}
use Rattle.thread_cfg.specs.inside.Passing.{parts_held, written_of}
use Rattle.thread_cfg.specs.inside.Sizes.{written_size}
use Rattle.thread_cfg.proofs.DoneLemmas.{done-all, done-next, left-next, parts_held-at}
use Rattle.thread_cfg.proofs.thread.Found.add_parts.Goals as goal

pub add_part-requires : goal.add_part-requires
add_part-requires c =
    let running = c.args.running.now in
    let parts = c.args.parts.now in
    let item = c.index-parts-index.result in
    let k = c.parts.index - 1 in
    let rest = parts_held (take k parts) in
    let split = parts_held-at parts c.parts.index k item (omega arith) (omega (arith, c.parts.invariant.within)) c.index-parts-index.is in
    let next = left-next running c.parts.at.0 (written_of item) rest (subst (AreLeft running c.parts.at.0) split c.parts.invariant.left) in
    record { room = next.room; within = (next.part, next.written_so, next.within) }

pub behind-at-requires : goal.behind-at-requires
behind-at-requires c =
    let running = c.args.running.now in
    let parts = c.args.parts.now in
    let item = c.index-parts-index.result in
    let k = c.parts.index - 1 in
    let rest = parts_held (take k parts) in
    let split = parts_held-at parts c.parts.index k item (omega arith) (omega (arith, c.parts.invariant.within)) c.index-parts-index.is in
    let next = left-next running c.parts.at.0 (written_of item) rest (subst (AreLeft running c.parts.at.0) split c.parts.invariant.left) in
    omega (arith, next.room, c.part_size.ensures)

pub parts-preserved : goal.parts-preserved
parts-preserved c =
    let running = c.args.running.now in
    let parts = c.args.parts.now in
    let item = c.index-parts-index.result in
    let k = c.parts.index - 1 in
    let rest = parts_held (take k parts) in
    let split = parts_held-at parts c.parts.index k item (omega arith) (omega (arith, c.parts.invariant.within)) c.index-parts-index.is in
    let next = left-next running c.parts.at.0 (written_of item) rest (subst (AreLeft running c.parts.at.0) split c.parts.invariant.left) in
    let size : c.parts.at.0 + written_size (written_of item) ≡ c.behind-at.result.0 = omega (arith, c.behind-at.ensures, c.part_size.ensures) in
    record {
      within = omega (arith, c.parts.invariant.within);
      left = subst (λ n. AreLeft running n rest) size next.left;
      far = λ whole e. subst (λ n. AreDone running c.args.self.now c.add_part.new.self n rest whole) size
          (done-next running c.args.self.now c.parts.self c.add_part.new.self c.parts.at.0 (written_of item) rest whole
          (subst (λ l. AreDone running c.args.self.now c.parts.self c.parts.at.0 l whole) split (c.parts.invariant.far whole e))
          (λ p is. c.in_ok-add_part.ensures p is));
    }

pub returns : goal.returns
returns c ps e =
    let running = c.args.running.now in
    let none : c.parts.index ≡ 0 = omega arith in
    done-all running c.args.self.now c.parts.self c.parts.at.0 ps
    (subst (λ n. AreDone running c.args.self.now c.parts.self c.parts.at.0 (parts_held (take n c.args.parts.now)) ps) none (c.parts.invariant.far ps e))
