-- What is known of a thread of a plan whose places are asked for.
use Rattle.std.proofs.Common.{◌≡◌, ℕ, zero, suc, ◌-◌, ◌≤◌, List, length, map, Some, sym, ap, subst, arith, slice_get, ◌∙◌}
use Rattle.std.proofs.lemmas.List.{length-map}
use Rattle.std.proofs.lemmas.Option.{slice_get-map}
use Rattle.std.specs.Option.{option_map}
use Rattle.c_tree.specs.declared.item.Tree.{Tree}
use Rattle.c_tree.specs.Seen.{plain_tree}
use Rattle.c_check.specs.declared.plan.Plan.{Plan}
use Rattle.c_check.specs.declared.plan.Thread.{Thread}
use Rattle.transition_formula.specs.Program.{at_number}
use Rattle.thread_cfg.specs.Action.{Action}
use Rattle.thread_cfg.specs.Threads.{Running, threads_running}
use Rattle.thread_cfg.specs.Graph.{actions_of}
use Rattle.thread_cfg.specs.Places.{ArePlacesOf, location_places}
use Rattle.thread_cfg.specs.Read.{IsPlanOfText}
use Rattle.thread_cfg.proofs.Fronts.{get-exists}
use Rattle.thread_cfg.proofs.KnownText.{known-of-text}
use Rattle.thread_cfg.proofs.ProgramEdges.{thread_actions-laid}
use Rattle.thread_cfg.proofs.Steps.{IsStep, step-is}

-- The plan has the i-th thread, and this is what is known of it.
pub record IsLocated (tree : Tree) (plan : Plan) (i : ℕ) : Type 0 where
  pub thread : Thread
  pub thread_is : slice_get plan.threads (i - 1) ≡ Some thread
  pub step : IsStep (plain_tree tree) plan (i - 1) thread

-- what is known of the thread by a number in the plan of a text
pub located : (text : List ℕ) (tree : Tree) (plan : Plan) (i : ℕ) → IsPlanOfText text tree plan → 1 ≤ i → i ≤ length plan.threads → IsLocated tree plan i
located text tree plan i is some among =
    let there = get-exists plan.threads (i - 1) (omega (arith, some, among)) in
    record { thread = there.0; thread_is = there.1; step = step-is (plain_tree tree) plan (known-of-text text tree plan is) (i - 1) there.0 there.1 }

-- the number of what stands at a place, from 1
numbered-at : {X : Type 0} (xs : List X) (i : ℕ) (x : X) → 1 ≤ i → slice_get xs (i - 1) ≡ Some x → at_number xs i ≡ Some x
numbered-at xs zero x some e = absurd (omega (arith, some))
numbered-at xs (suc i) x some e = let back : suc i - 1 ≡ i = omega arith in subst (λ (k : ℕ). slice_get xs k ≡ Some x) back e

-- a place is that of its action
place-at : (actions : List Action) (l : ℕ) (action : Action) → at_number actions l ≡ Some action → at_number (map (λ a. a.from) actions) l ≡ Some action.from
place-at actions zero action e = absurd cc
place-at actions (suc l) action e = slice_get-map (λ (a : Action). a.from) actions l ∙ ap (option_map (λ a. a.from)) e

-- the places of the actions of a thread that runs are its places
pub places-are : (tree : Tree) (i : ℕ) (t : Running) (places : List ℕ) → 1 ≤ i → slice_get (threads_running (plain_tree tree)) (i - 1) ≡ Some t
    → places ≡ location_places t → ArePlacesOf (plain_tree tree) i places
places-are tree i t places some e is = record {
  running = t;
  running_is = numbered-at (threads_running (plain_tree tree)) i t some e;
  one_each = omega (arith, ap length is, length-map (actions_of t) (λ (a : Action). a.from), (thread_actions-laid t.frame (length t.function.locals) t.function.body).long);
  at_each = λ l action at. subst (λ (ps : List ℕ). at_number ps l ≡ Some action.from) (sym is) (place-at (actions_of t) l action at);
}
