use Rattle.std.proofs.Common.{◌≡◌, true, false, map, ap, sym, ◌∙◌}
use Rattle.std.specs.List.{list_any}
use Rattle.thread_cfg.specs.Path.{block_paths}
use Rattle.thread_cfg.specs.Action.{block_action}
use Rattle.thread_cfg.specs.Graph.{is_too_large}
use Rattle.thread_cfg.specs.inside.Few.{going_start, gone_all}
use Rattle.thread_cfg.specs.inside.Gone.{is_long_path, path_of, ways_of}
use Rattle.thread_cfg.proofs.AddLemmas.{AddsActions-ways}
use Rattle.thread_cfg.proofs.BlockLemmas.{AddsActions-too_large, too_large-few, too_large-many}
use Rattle.thread_cfg.proofs.FewLemmas.{gone-code, ways}
use Rattle.thread_cfg.proofs.PassSteps.{on_ok-then}
use Rattle.thread_cfg.proofs.thread.Found.add_block.Goals as goal

pub returns-then-has_long : goal.returns-then-has_long
returns-then-has_long c inner is =
    let found : ways_of c.in_ok-ways.ways ≡ ways (block_paths inner) =
    c.in_ok-ways.ensures ∙ ap (λ l. (gone_all l going_start).ways) is ∙ gone-code inner in
    let paths = c.in-Few.paths.items in
    let case = too_large-few c.args.from inner c.args.next.0 paths (sym (ap ways_of c.in-Few.is) ∙ found) in
    let size : is_too_large (block_action c.args.from inner c.args.next.0) ≡ true =
    case.0 ∙ ap (list_any is_long_path) (sym c.as_slice.ensures.value) ∙ sym c.has_long.ensures ∙ c.if-has_long.true in
    AddsActions-too_large c.args.running.now c.args.at.0 c.args.self.now c.refuse_block.new.self (block_action c.args.from inner c.args.next.0) size
    c.refuse_block.ensures.refusal

pub add_paths-requires-clause-within : goal.add_paths-requires-clause-within
add_paths-requires-clause-within c =
    let inner = c.requires.within.0 in
    let is = c.requires.within.1 in
    let found : ways_of c.in_ok-ways.ways ≡ ways (block_paths inner) =
    c.in_ok-ways.ensures ∙ ap (λ l. (gone_all l going_start).ways) is ∙ gone-code inner in
    let paths = c.in-Few.paths.items in
    let case = too_large-few c.args.from inner c.args.next.0 paths (sym (ap ways_of c.in-Few.is) ∙ found) in
    (block_paths inner, ap (map path_of) c.as_slice-in-Few.ensures.value ∙ case.1, c.requires.within.2.0)

pub returns-else-has_long : goal.returns-else-has_long
returns-else-has_long c inner is =
    let found : ways_of c.in_ok-ways.ways ≡ ways (block_paths inner) =
    c.in_ok-ways.ensures ∙ ap (λ l. (gone_all l going_start).ways) is ∙ gone-code inner in
    let paths = c.in-Few.paths.items in
    let case = too_large-few c.args.from inner c.args.next.0 paths (sym (ap ways_of c.in-Few.is) ∙ found) in
    let size : is_too_large (block_action c.args.from inner c.args.next.0) ≡ false =
    case.0 ∙ ap (list_any is_long_path) (sym c.as_slice.ensures.value) ∙ sym c.has_long.ensures ∙ c.if-has_long.false in
    on_ok-then
    (AddsActions-ways c.args.running.now c.args.at.0 c.args.self.now c.add_paths.new.self (block_action c.args.from inner c.args.next.0) size)
    c.add_paths.result (c.add_paths.ensures (block_paths inner) (ap (map path_of) c.as_slice-in-Few.ensures.value ∙ case.1))

pub returns-in-Many : goal.returns-in-Many
returns-in-Many c inner is =
    let found : ways_of c.in_ok-ways.ways ≡ ways (block_paths inner) =
    c.in_ok-ways.ensures ∙ ap (λ l. (gone_all l going_start).ways) is ∙ gone-code inner in
    AddsActions-too_large c.args.running.now c.args.at.0 c.args.self.now c.refuse_block-in-Many.new.self (block_action c.args.from inner c.args.next.0)
    (too_large-many c.args.from inner c.args.next.0 (ways_of c.in_ok-ways.ways) found (ap ways_of c.in-Many.is))
    c.refuse_block-in-Many.ensures.refusal
