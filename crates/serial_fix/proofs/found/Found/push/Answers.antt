use Rattle.std.proofs.Common.{◌≡◌, ◌+◌, ◌-◌, ◌∷◌, [], ◌++◌, ◌<◌, ◌≤◌, ◌^◌, length, ap, ◌∙◌, arith}
use Rattle.serial_fix.specs.inside.Found.{FoundFacts, held_at}
use Rattle.serial_fix.proofs.Index.{index-push, index-same, popped, words-at, kept-on-err, made-on-ok}
use Rattle.serial_fix.proofs.found.Found.push.Goals as goal

pub invariant_of-self-then-is_err : goal.invariant_of-self-then-is_err
invariant_of-self-then-is_err c =
    let facts = c.self.inside.facts.items in
    let within : c.args.fact.home.0 - 1 < length c.self.inside.at_home.items = omega (arith, ap (λ (f : FoundFacts). f.homes) c.self.view_is) in
    let same : c.pop.new.self.items ≡ facts = popped facts c.push.new.self.items c.pop.new.self.items c.args.fact _ c.in_ok-push.ensures.items c.pop.ensures.rest (omega (arith, c.in_ok-push.ensures.len, c.self.inside.facts.ok)) in
    index-same (λ words. words.items) c.self.inside.at_home.items facts c.pop.new.self.items c.push-2.new.self c.index_mut.result.now (c.args.fact.home.0 - 1)
    c.self.invariant same within (kept-on-err c.push-2.result _ _ _ c.if-is_err.ensures.value c.push-2.ensures.items) c.index_mut.ensures.value

pub invariant_of-self-else-is_err : goal.invariant_of-self-else-is_err
invariant_of-self-else-is_err c =
    let facts = c.self.inside.facts.items in
    let within : c.args.fact.home.0 ≤ length c.self.inside.at_home.items = omega (arith, ap (λ (f : FoundFacts). f.homes) c.self.view_is) in
    let held : c.index_mut.result.now.items ≡ held_at c.args.fact.home.0 facts =
    words-at (λ words. words.items) c.self.inside.at_home.items facts c.args.fact.home.0 c.index_mut.result.now c.self.invariant c.requires.from_1 within c.index_mut.ensures.value in
    let room : length facts + 1 < 2 ^ 32 = omega (arith, c.if-len.false, c.len.ensures, c.self.inside.facts.ok) in
    index-push (λ words. words.items) c.self.inside.at_home.items facts c.push.new.self.items c.args.fact c.push-2.new.self (c.args.fact.home.0 - 1)
    c.self.invariant c.in_ok-push.ensures.items (omega arith) room
    (made-on-ok c.push-2.result _ _ _ c.if-is_err.ensures.value c.push-2.ensures.items ∙ ap (λ l. l ++ c.args.fact.held ∷ []) held)
