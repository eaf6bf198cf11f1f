-- The first refusal of all threads is answered, or where there is none the program of the text.
use Rattle.std.proofs.Common.{map, sym, ap, ◌∙◌}
use Rattle.c_check.proofs.FirstOf.{first_of-is}
use Rattle.c_tree.specs.Seen.{plain_tree}
use Rattle.thread_cfg.specs.Graph.{program_column, refusals_of}
use Rattle.thread_cfg.proofs.BuiltProgram.{built}
use Rattle.thread_cfg.proofs.KnownText.{known-of-text}
use Rattle.thread_cfg.proofs.building.build.Goals as goal

pub returns-in-Some : goal.returns-in-Some
returns-in-Some c = λ text tree is.
    first_of-is (refusals_of (plain_tree tree)) c.in-Some.refusal (sym (c.in_ok-found.ensures (plain_tree tree) (known-of-text text tree c.args.plan.now is)).refusal_is ∙ c.in-Some.is)

pub new-requires : goal.new-requires
new-requires c =
    let known = known-of-text c.requires.0 c.requires.1 c.args.plan.now c.requires.2 in
    let tree = plain_tree c.requires.1 in
    (built tree c.args.plan.now c.in_ok-columns-in-None.columns.items c.in_ok-found.found.graphs.items c.in_ok-found.found.refusal known (c.in_ok-found.ensures tree known) c.in-None.is
    (c.in_ok-columns-in-None.ensures ∙ ap (map program_column) c.as_slice.ensures)).is_program

pub returns-in_ok-columns-in-None : goal.returns-in_ok-columns-in-None
returns-in_ok-columns-in-None c = λ text t is.
    let tree = plain_tree t in
    let known = known-of-text text t c.args.plan.now is in
    let b = built tree c.args.plan.now c.in_ok-columns-in-None.columns.items c.in_ok-found.found.graphs.items c.in_ok-found.found.refusal known (c.in_ok-found.ensures tree known) c.in-None.is
    (c.in_ok-columns-in-None.ensures ∙ ap (map program_column) c.as_slice.ensures) in
    (b.none_refused, c.new.ensures ∙ b.program_is)

pub find_graphs-requires : goal.find_graphs-requires
find_graphs-requires c = (plain_tree c.requires.1, known-of-text c.requires.0 c.requires.1 c.args.plan.now c.requires.2)
