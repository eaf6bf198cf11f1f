use Rattle.std.proofs.Common.{◌≡◌, ◌+◌, map, ap, refl, ◌∙◌}
use Rattle.c_check.specs.Plan.{code}
use Rattle.thread_cfg.specs.declared.running.Running.{Running}
use Rattle.thread_cfg.specs.inside.Meant.{frame_of}
use Rattle.thread_cfg.specs.inside.Parts.{written}
use Rattle.thread_cfg.specs.inside.Passing.{locations_held, parts_held}
use Rattle.thread_cfg.proofs.FoundLemmas.{found-parts, found-too_many, parts-found, parts-left, parts_of}
use Rattle.thread_cfg.proofs.thread.find_edges.Goals as goal

pub returns-in_default : goal.returns-in_default
returns-in_default c f is =
    let body : c.as_slice-code.result.now ≡ code f.body = c.as_slice-code.ensures ∙ ap (λ x. x.body) is in
    found-too_many c.args.columns (frame_of c.args.frame.now) f _ c.as_slice-code.result.now body (rw c.in_default.is at c.in_ok-counted.ensures)
    (rw is refl)

pub add_parts-requires : goal.add_parts-requires
add_parts-requires c =
    let f = c.requires.of_text.0 in
    let is = c.requires.of_text.1 in
    let body : c.as_slice-code.result.now ≡ code f.body = c.as_slice-code.ensures ∙ ap (λ x. x.body) is in
    let counter = c.in-Some.counter in
    let counted = rw c.in-Some.is at c.in_ok-counted.ensures in
    let held = c.in_ok-parts.ensures in
    let all : parts_held c.as_slice.result.now ≡ map written (parts_of f.body) =
    ap parts_held c.as_slice.ensures.value
    ∙ parts-found f.body c.as_slice-code.result.now counter.at (locations_held counter.loops.items) (parts_held c.in_ok-parts.parts.items) body
    (ap (λ s. s.at) counted.0) (ap (λ s. s.loops) counted.0) held in
    record { left = parts-left _ f c.as_slice-code.result.now (parts_held c.as_slice.result.now) body counted.1 (ap (λ x. x.locals) is) all c.requires.of_text.2 }

pub returns : goal.returns
returns c f is =
    let body : c.as_slice-code.result.now ≡ code f.body = c.as_slice-code.ensures ∙ ap (λ x. x.body) is in
    let counter = c.in-Some.counter in
    let counted = rw c.in-Some.is at c.in_ok-counted.ensures in
    let held = c.in_ok-parts.ensures in
    let all : parts_held c.as_slice.result.now ≡ map written (parts_of f.body) =
    ap parts_held c.as_slice.ensures.value
    ∙ parts-found f.body c.as_slice-code.result.now counter.at (locations_held counter.loops.items) (parts_held c.in_ok-parts.parts.items) body
    (ap (λ s. s.at) counted.0) (ap (λ s. s.loops) counted.0) held in
    let running : Running = record {
      columns = c.args.columns;
      frame = c.args.frame.now;
      temporary = c.args.function.now.locals;
      few_columns = c.requires.few_columns;
    } in
    found-parts running f _ c.add_parts.new.self c.as_slice-code.result.now body counted.1 (ap (λ x. x.locals) is) refl c.new.ensures.items (counter.at + 1) (ap (λ s. s.at + 1) counted.0)
    (c.in_ok-add_parts.ensures (parts_of f.body) all)
