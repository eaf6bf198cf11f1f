-- One thread more is found.
use Rattle.std.proofs.Common.{◌≡◌, ℕ, zero, suc, List, [], ◌∷◌, ◌++◌, map, flat_map, take, Option, Some, refl, sym, ap, subst, slice_get, append-nil, append_assoc, ◌∙◌}
use Rattle.thr_base.specs.declared.stops.Refusal.{Refusal}
use Rattle.c_check.specs.First.{earlier, first_of}
use Rattle.c_check.proofs.FirstOf.{first_of-append}
use Rattle.transition_formula.specs.Stored.{thread_of}
use Rattle.transition_formula.specs.declared.graph.ThreadGraph.{ThreadGraph}
use Rattle.thread_cfg.specs.declared.thread.Found.{Found}
use Rattle.thread_cfg.specs.Threads.{Running}
use Rattle.thread_cfg.specs.Graph.{thread_graph, thread_refusals}
use Rattle.thread_cfg.specs.inside.Built.{AreFound}
use Rattle.thread_cfg.specs.inside.Found.{IsFoundOf}
use Rattle.thread_cfg.proofs.Numbered.{empty-behind, empty-front, none-some, some-same}

-- the first elements, and the next one
take-next : {X : Type 0} → (xs : List X) (j : ℕ) (x : X) → slice_get xs j ≡ Some x → take (suc j) xs ≡ take j xs ++ x ∷ []
take-next [] j x e = absurd (none-some x e)
take-next (y ∷ xs) zero x e = ap (λ z. z ∷ []) (some-same y x e)
take-next (y ∷ xs) (suc j) x e = ap (λ l. y ∷ l) (take-next xs j x e)

-- one element more at the end adds what the function gives of it
flat-next : {X Y : Type 0} → (f : X → List Y) (xs : List X) (x : X) → flat_map f (xs ++ x ∷ []) ≡ flat_map f xs ++ f x
flat-next f [] x = append-nil (f x)
flat-next f (y ∷ xs) x = ap (λ l. f y ++ l) (flat-next f xs x) ∙ sym (append_assoc (f y) (flat_map f xs) (f x))

-- one element more at the end adds the function of it
map-next : {X Y : Type 0} → (f : X → Y) (xs : List X) (x : X) → map f (xs ++ x ∷ []) ≡ map f xs ++ f x ∷ []
map-next f [] x = refl
map-next f (y ∷ xs) x = ap (λ l. f y ∷ l) (map-next f xs x)

-- one thread more is found
pub found-more : (columns threads : ℕ) (ts : List Running) (j : ℕ) (t : Running) (graphs : List ThreadGraph) (refusal : Option Refusal) (found : Found) (graph : ThreadGraph)
    → slice_get ts j ≡ Some t → AreFound columns threads (take j ts) graphs refusal → IsFoundOf columns t found
    → (thread_refusals columns t ≡ [] → thread_of graph ≡ thread_graph columns threads t)
    → AreFound columns threads (take (suc j) ts) (graphs ++ graph ∷ []) (earlier refusal found.refusal)
found-more columns threads ts j t graphs refusal found graph at so one made = record {
  refusal_is =
      subst (λ l. earlier refusal found.refusal ≡ first_of (flat_map (thread_refusals columns) l)) (sym (take-next ts j t at))
      (ap (λ x. earlier x found.refusal) so.refusal_is ∙ ap (earlier (first_of (flat_map (thread_refusals columns) (take j ts)))) one.refusal_is
      ∙ sym (first_of-append (flat_map (thread_refusals columns) (take j ts)) (thread_refusals columns t))
      ∙ ap first_of (sym (flat-next (thread_refusals columns) (take j ts) t)));
  graphs_are = λ none.
      let split : flat_map (thread_refusals columns) (take j ts) ++ thread_refusals columns t ≡ [] =
      sym (flat-next (thread_refusals columns) (take j ts) t) ∙ ap (flat_map (thread_refusals columns)) (sym (take-next ts j t at)) ∙ none in
      map-next thread_of graphs graph
      ∙ ap (λ l. l ++ thread_of graph ∷ []) (so.graphs_are (empty-front (flat_map (thread_refusals columns) (take j ts)) (thread_refusals columns t) split))
      ∙ ap (λ x. map (thread_graph columns threads) (take j ts) ++ x ∷ []) (made (empty-behind (flat_map (thread_refusals columns) (take j ts)) (thread_refusals columns t) split))
      ∙ sym (map-next (thread_graph columns threads) (take j ts) t)
      ∙ ap (map (thread_graph columns threads)) (sym (take-next ts j t at));
}
