-- What is found of a thread.
use Rattle.std.proofs.Common.{◌≡◌, ℕ, ◌+◌, ◌<◌, ◌≤◌, nat_lt, true, false, List, [], ◌∷◌, ◌++◌, length, map, Some, None, refl, sym, ap, ap₂, subst, ◌∙◌, arith}
use Rattle.thr_base.specs.Limits.{most_locations}
use Rattle.thr_base.specs.Refusals.{too_many}
use Rattle.thr_base.specs.declared.stops.Refusal.{Refusal}
use Rattle.c_check.specs.First.{first_of}
use Rattle.c_check.specs.declared.instruction.Instruction.{Instruction}
use Rattle.c_check.specs.Plan.{Stmts, code}
use Rattle.c_check.specs.Program.{Function}
use Rattle.transition_formula.specs.Stored.{edge_of}
use Rattle.thread_cfg.specs.declared.thread.Found.{Found}
use Rattle.thread_cfg.specs.declared.running.Running as stored
use Rattle.thread_cfg.specs.Source.{Frame}
use Rattle.thread_cfg.specs.Action.{exit_of, thread_actions}
use Rattle.thread_cfg.specs.Threads.{Running}
use Rattle.thread_cfg.specs.Graph.{actions_of, edges_from, locations_of, refusals_from, thread_refusals}
use Rattle.thread_cfg.specs.inside.Adds.{AddsActions, AreLeft, AreWithin, actions_of_parts}
use Rattle.thread_cfg.specs.inside.Found.{IsFoundOf}
use Rattle.thread_cfg.specs.inside.Meant.{frame_of}
use Rattle.thread_cfg.specs.inside.Parts.{Part, Written, parts, written}
use Rattle.thread_cfg.specs.inside.Pass.{pass_start, passed_all}
use Rattle.thread_cfg.specs.inside.Sizes.{count_start, counted_all}
use Rattle.thread_cfg.proofs.PartLemmas.{parts-size, thread_actions-parts}
use Rattle.thread_cfg.proofs.PassLemmas.{passed-code}
use Rattle.thread_cfg.proofs.SizeLemmas.{counted-code}

-- the parts of a function's body, with its last location
abbrev pub parts_of : Stmts → List Part
parts_of body = parts (exit_of body) (exit_of body) 1 (exit_of body) body

-- where counting ends
pub counted-at_exit : (body : Stmts) (os : List Instruction) → os ≡ code body → (counted_all os count_start).at ≡ exit_of body
counted-at_exit body os is = ap (λ l. (counted_all l count_start).at) is ∙ ap (λ s. s.at) (counted-code body) ∙ omega arith

-- the parts that are found are those of the statements
pub parts-found : (body : Stmts) (os : List Instruction) (at : ℕ) (loops : List ℕ) (held : List Written) → os ≡ code body
    → at ≡ (counted_all os count_start).at → loops ≡ (counted_all os count_start).loops → held ≡ (passed_all at os (pass_start at loops)).parts
    → held ≡ map written (parts_of body)
parts-found body os at loops held is exit begins h =
    h
    ∙ ap₂ (λ n l. (passed_all n os (pass_start n l)).parts) (exit ∙ counted-at_exit body os is) begins
    ∙ ap (λ l. (passed_all (exit_of body) l (pass_start (exit_of body) (counted_all l count_start).loops)).parts) is
    ∙ passed-code body

-- a thread with too many locations
pub found-too_many : (columns : ℕ) (frame : Frame) (f : Function) (found : Found) (os : List Instruction) → os ≡ code f.body
    → most_locations ≤ (counted_all os count_start).at → found.refusal ≡ Some (record { code = too_many; place = f.from })
    → IsFoundOf columns (record { frame = frame; function = f }) found
found-too_many columns frame f found os is many e =
    let t : Running = record { frame = frame; function = f } in
    let d : Refusal = record { code = too_many; place = f.from } in
    let over : nat_lt most_locations (locations_of t) ≡ true = above (locations_of t) (omega (arith, counted-at_exit f.body os is)) in
    let all : thread_refusals columns t ≡ d ∷ [] = rw over refl in
    record {
      refusal_is = e ∙ ap first_of (sym all);
      locations_are = λ none. let absent : d ∷ [] ≡ [] = sym all ∙ none in absurd (cc absent);
      edges_are = λ none. let absent : d ∷ [] ≡ [] = sym all ∙ none in absurd (cc absent);
    }
  where
    above : (n : ℕ) → most_locations < n → nat_lt most_locations n ≡ true
    above n h = grind arith

-- a thread whose parts are added
pub found-parts : (running : stored.Running) (f : Function) (old found : Found) (os : List Instruction) → os ≡ code f.body
    → (counted_all os count_start).at < most_locations → running.temporary ≡ length f.locals → old.refusal ≡ None → old.edges.items ≡ []
    → (n : ℕ) → n ≡ (counted_all os count_start).at + 1 → AddsActions running 1 old found (actions_of_parts running 1 (parts_of f.body))
    → IsFoundOf running.columns (record { frame = frame_of running.frame; function = f }) (record found { locations = n })
found-parts running f old found os is few locals none empty n held added =
    let t : Running = record { frame = frame_of running.frame; function = f } in
    let actions : actions_of_parts running 1 (parts_of f.body) ≡ actions_of t =
    sym (thread_actions-parts (frame_of running.frame) running.temporary f.body) ∙ ap (λ n. thread_actions (frame_of running.frame) n f.body) locals in
    let so = subst (AddsActions running 1 old found) actions added in
    let counted : n ≡ locations_of t = omega (arith, held, counted-at_exit f.body os is) in
    let under : nat_lt most_locations (locations_of t) ≡ false = below (locations_of t) (omega (arith, counted-at_exit f.body os is)) in
    let all : thread_refusals running.columns t ≡ refusals_from running.columns t.frame 1 (actions_of t) = rw under refl in
    record {
      refusal_is = so.refusal_is [] none ∙ ap first_of (sym all);
      locations_are = λ absent. counted;
      edges_are = λ absent. so.edges_are (sym all ∙ absent) ∙ ap (λ l. map edge_of l ++ edges_from running.columns t.frame 1 (actions_of t)) empty;
    }
  where
    below : (n : ℕ) → n ≤ most_locations → nat_lt most_locations n ≡ false
    below n h = grind arith

-- what is known of all parts
pub parts-left : (running : stored.Running) (f : Function) (os : List Instruction) (held : List Written) → os ≡ code f.body
    → (counted_all os count_start).at < most_locations → running.temporary ≡ length f.locals → held ≡ map written (parts_of f.body)
    → AreWithin running (actions_of (record { frame = frame_of running.frame; function = f })) → AreLeft running 1 held
parts-left running f os held is few locals e within = record {
  parts = parts_of f.body;
  written_so = e;
  room = omega (arith, counted-at_exit f.body os is, parts-size f.body (exit_of f.body) (exit_of f.body) 1 (exit_of f.body));
  within = subst (AreWithin running)
      (ap (λ n. thread_actions (frame_of running.frame) n f.body) (sym locals) ∙ thread_actions-parts (frame_of running.frame) running.temporary f.body) within;
}
