use Rattle.std.proofs.Common.{◌≡◌, ◌∙◌, ap, sym, subst, map, ◌++◌, [], List, Option, arith}
use Rattle.std.specs.Option.{option_map}
use Rattle.std.specs.Vec.Iter.{into_iter_items, into_iter_steps}
use Rattle.std.proofs.lemmas.List.{nil_from_length}
use Rattle.farkas_cert.specs.Line.{Line}
use Rattle.farkas_cert.specs.Elimination.{every, substituted_line}
use Rattle.plain_elim.proofs.Everyone.{every-more, every-stops, every-ends}
use Rattle.plain_elim.proofs.substitution.substituted_lines.Goals as goal

pub loop-line-preserved : goal.loop-line-preserved
loop-line-preserved c =
    let f = substituted_line c.args.column c.args.equality.now in
    let it = c.loop-line.line-iterator in
    let turn = (subst (λ (r : Option Line). into_iter_steps it r c.next.new.self) c.in-Some.is c.next.ensures.steps).0 in
    every-more c.loop-line.all.items c.push.new.self.items c.in-Some-made.made (f c.in-Some.line) (map f (into_iter_items c.next.new.self)) _
    (sym c.in-Some-made.is ∙ c.in_ok-made.ensures) c.in_ok-push-in-Some-made.ensures.items
    (ap (λ (ls : List Line). option_map (λ rest. c.loop-line.all.items ++ rest) (every (map f ls))) (sym turn) ∙ c.loop-line.invariant)

pub returns-in-None-made : goal.returns-in-None-made
returns-in-None-made c =
    let f = substituted_line c.args.column c.args.equality.now in
    let it = c.loop-line.line-iterator in
    let turn = (subst (λ (r : Option Line). into_iter_steps it r c.next.new.self) c.in-Some.is c.next.ensures.steps).0 in
    every-stops c.loop-line.all.items (f c.in-Some.line) (map f (into_iter_items c.next.new.self)) _ (sym c.in-None-made.is ∙ c.in_ok-made.ensures)
    (ap (λ (ls : List Line). option_map (λ rest. c.loop-line.all.items ++ rest) (every (map f ls))) (sym turn) ∙ c.loop-line.invariant)

pub returns : goal.returns
returns c =
    let f = substituted_line c.args.column c.args.equality.now in
    let it = c.loop-line.line-iterator in
    let end = subst (λ (r : Option Line). into_iter_steps it r c.next.new.self) c.in-None.is c.next.ensures.steps in
    let none : into_iter_items it ≡ [] = nil_from_length (into_iter_items it) (omega (arith, it.rest.ok, end.0)) in
    every-ends c.loop-line.all.items _
    (ap (λ (ls : List Line). option_map (λ rest. c.loop-line.all.items ++ rest) (every (map f ls))) (sym none) ∙ c.loop-line.invariant)
