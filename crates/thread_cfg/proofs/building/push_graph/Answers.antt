-- What is found of a thread is what there is of the one that runs.
use Rattle.std.proofs.Common.{◌≡◌, ◌-◌, ◌+◌, length, sym, ap, subst, arith, add-one, slice_index_or, ◌∙◌}
use Rattle.c_check.specs.Check.{stored_function}
use Rattle.c_check.specs.Columns.{columns_of}
use Rattle.transition_formula.specs.declared.graph.ThreadGraph.{ThreadGraph}
use Rattle.thread_cfg.specs.Threads.{threads_running}
use Rattle.thread_cfg.specs.Graph.{actions_of}
use Rattle.thread_cfg.specs.inside.Found.{IsFoundOf}
use Rattle.thread_cfg.specs.inside.Meant.{frame_of}
use Rattle.thread_cfg.specs.inside.Within.{ActionsWithin}
use Rattle.thread_cfg.proofs.FoundMore.{found-more}
use Rattle.thread_cfg.proofs.Steps.{index-get, step-is}
use Rattle.thread_cfg.proofs.building.push_graph.Goals as goal

pub find_edges-requires-clause-of_text : goal.find_edges-requires-clause-of_text
find_edges-requires-clause-of_text c =
    let s = step-is c.requires.known.0 c.args.plan.now c.requires.known.1 c.args.i c.args.thread c.requires.there in
    let function = c.index-as_slice-thread.is ∙ ap (λ fs. slice_index_or fs c.args.thread.function c.index-as_slice-thread.result) c.as_slice.ensures
    ∙ index-get c.args.plan.now.functions c.args.thread.function (stored_function s.running.function) c.index-as_slice-thread.result s.function_is in (
      s.running.function,
      function,
      subst (λ m. ActionsWithin m (frame_of c.frame_of-frame.result) (actions_of (record { frame = frame_of c.frame_of-frame.result; function = s.running.function }))) (sym c.len-columns.ensures)
          (subst (λ f. ActionsWithin (length c.args.plan.now.columns) f (actions_of (record { frame = f; function = s.running.function }))) (s.frame_is ∙ sym c.frame_of-frame.ensures) s.within),
    )

pub overflow_sub-graph : goal.overflow_sub-graph
overflow_sub-graph c =
    let s = step-is c.requires.known.0 c.args.plan.now c.requires.known.1 c.args.i c.args.thread c.requires.there in
    omega (arith, s.has_counters, c.len.ensures, c.len-columns.ensures)

pub overflow_add-graph : goal.overflow_add-graph
overflow_add-graph c =
    let s = step-is c.requires.known.0 c.args.plan.now c.requires.known.1 c.args.i c.args.thread c.requires.there in
    omega (arith, s.has_counters, s.few_columns, s.few_threads, c.len.ensures, c.len-columns.ensures)

pub returns : goal.returns
returns c = λ tree known so.
    let s = step-is tree c.args.plan.now known c.args.i c.args.thread c.requires.there in
    let function = c.index-as_slice-thread.is ∙ ap (λ fs. slice_index_or fs c.args.thread.function c.index-as_slice-thread.result) c.as_slice.ensures
    ∙ index-get c.args.plan.now.functions c.args.thread.function (stored_function s.running.function) c.index-as_slice-thread.result s.function_is in
    let columns : c.len-columns.result ≡ length (columns_of tree) = c.len-columns.ensures ∙ s.columns_are in
    let threads : c.len.result ≡ length (threads_running tree) = c.len.ensures ∙ s.threads_are in
    let frame : frame_of c.frame_of-frame.result ≡ s.running.frame = c.frame_of-frame.ensures ∙ sym s.frame_is in
    let found : IsFoundOf (length (columns_of tree)) s.running c.in_ok-more.more =
    subst (λ f. IsFoundOf (length (columns_of tree)) (record { frame = f; function = s.running.function }) c.in_ok-more.more) frame
    (subst (λ m. IsFoundOf m (record { frame = frame_of c.frame_of-frame.result; function = s.running.function }) c.in_ok-more.more) columns (c.in_ok-more.ensures s.running.function function)) in
    let graph : ThreadGraph = record {
      counter = c.len-columns.result - c.len.result + c.args.i;
      locations = c.in_ok-more.more.locations;
      edges = c.in_ok-more.more.edges;
    } in
    let number : s.running.frame.thread ≡ c.args.i + 1 = ap (λ f. f.thread) s.frame_is in
    let counter : c.len-columns.result - c.len.result + c.args.i ≡ (length (columns_of tree) - length (threads_running tree)) + s.running.frame.thread - 1 = omega (arith, columns, threads, number) in
    let more = found-more (length (columns_of tree)) (length (threads_running tree)) (threads_running tree) c.args.i s.running c.args.found.now.graphs.items c.args.found.now.refusal
    c.in_ok-more.more graph s.running_is so found
    (λ none. λ j. record { counter = counter j; locations = found.locations_are none j; edges = found.edges_are none j }) in
    rw (add-one, c.in_ok-push.ensures.items, c.earlier-found.ensures) more
