-- The threads of a plan run the functions that the creations of `main` name.
use Rattle.std.proofs.Common.{◌≡◌, ◌↔◌, ℕ, zero, suc, ◌+◌, List, [], ◌∷◌, length, map, slice_get, Some, refl, sym, ap, subst, ◌∙◌}
use Rattle.std.specs.List.{AllByRecursion}
use Rattle.std.specs.Option.{option_map}
use Rattle.std.proofs.lemmas.List.{length-map}
use Rattle.std.proofs.lemmas.Option.{slice_get-map}
use Rattle.c_tree.specs.declared.expr.Name.{Name}
use Rattle.c_tree.specs.Plain as plain
use Rattle.c_check.specs.declared.columns.OwnVariables.{OwnVariables}
use Rattle.c_check.specs.declared.plan.Plan.{Plan}
use Rattle.c_check.specs.declared.plan.Thread.{Thread}
use Rattle.c_check.specs.Scope.{Scopes}
use Rattle.c_check.specs.Plan.{code}
use Rattle.c_check.specs.Items.{Grain, Items, items}
use Rattle.c_check.specs.Program.{Function, Next, behind_item, created_of, creations_of, first_next, first_scopes, functions_from, functions_in, functions_of, past_item}
use Rattle.c_check.specs.Columns.{own_count, owns_of, shared_columns, threads_from}
use Rattle.c_check.specs.Check.{AreItemsOf, IsAccepted, IsPlanOf, PlansHaveItemsOfTexts, RunsFunction, function_items, stored_function}
use Rattle.c_check.proofs.CodeLemmas.{code-injective}
use Rattle.c_check.proofs.Numbered.{of-all_creations}

-- what code of the text stands for
have_items : (f : Function) (is : Items) → AreItemsOf (length f.locals) (code f.body) is ↔ (is ≡ function_items f)
have_items f is = (λ h. h.items_are ∙ ap (items (Grain.Cut (length f.locals))) (sym (code-injective f.body h.statements h.code_is)), λ e. record { statements = f.body; code_is = refl; items_are = e })

-- the numbers of the threads' functions
numbers-threads_from : (owns : List OwnVariables) (first : ℕ) (created : List ℕ) → map (λ (t : Thread). t.function) (threads_from owns first created) ≡ created
numbers-threads_from owns first [] = refl
numbers-threads_from owns first (n ∷ ns) = ap (λ ms. n ∷ ms) (numbers-threads_from owns (first + own_count owns n) ns)

-- functions stand where their names do
places-functions_from : (ss : Scopes) (next : Next) (items : List plain.Item) → map (λ (f : Function). f.from) (functions_from ss next items) ≡ map (λ (x : Name). x.from) (functions_in items)
places-functions_from ss next [] = refl
places-functions_from ss next (plain.Item.Thread name body ∷ items) = ap (λ ms. name.from ∷ ms) (places-functions_from _ _ items)
places-functions_from ss next (item ∷ items) = places-functions_from (behind_item ss next item) (past_item next item) items

-- an element of a list that was mapped is made of one
record Made {X Y : Type 0} (f : X → Y) (xs : List X) (n : ℕ) (y : Y) : Type 0 where
  from : X
  there : slice_get xs n ≡ Some from
  made : f from ≡ y

made-of : {X Y : Type 0} (f : X → Y) (xs : List X) (n : ℕ) (y : Y) → slice_get (map f xs) n ≡ Some y → Made f xs n y
made-of f [] n y e = absurd cc
made-of f (x ∷ xs) zero y e = record { from = x; there = refl; made = cc }
made-of f (x ∷ xs) (suc n) y e = (let more = made-of f xs n y e in record { from = more.from; there = more.there; made = more.made })

-- what is made of an element
made-at : {X Y : Type 0} (f : X → Y) (xs : List X) (n : ℕ) (x : X) → slice_get xs n ≡ Some x → slice_get (map f xs) n ≡ Some (f x)
made-at f xs n x e = slice_get-map f xs n ∙ ap (option_map f) e

-- what holds of all holds of each
all-at : {X : Type 0} (P : X → Type 0) (xs : List X) (n : ℕ) (x : X) → AllByRecursion P xs → slice_get xs n ≡ Some x → P x
all-at P [] n x all e = absurd cc
all-at P (y ∷ ys) zero x all e = let same : y ≡ x = cc in subst P same all.0
all-at P (y ∷ ys) (suc n) x all e = all-at P ys n x all.1 e

module _ (tree : plain.Tree) (plan : Plan) (is : IsPlanOf tree plan) where
  numbers : map (λ (t : Thread). t.function) plan.threads ≡ created_of tree
  numbers = ap (map (λ (t : Thread). t.function)) is.threads_are ∙ numbers-threads_from (owns_of tree) (length (shared_columns tree)) (created_of tree)

  as-many : length plan.threads ≡ length (creations_of tree)
  as-many = sym (length-map plan.threads (λ (t : Thread). t.function)) ∙ ap length numbers ∙ length-map (creations_of tree) (λ (c : Name × ℕ). c.1)

  runs : (k : ℕ) (creation : Name × ℕ) (thread : Thread) → IsAccepted tree → slice_get (creations_of tree) k ≡ Some creation → slice_get plan.threads k ≡ Some thread → RunsFunction tree plan creation thread
  runs k creation thread accepted at is_thread =
      let numbered : Some thread.function ≡ Some creation.1 =
      sym (made-at (λ (t : Thread). t.function) plan.threads k thread is_thread) ∙ ap (λ ns. slice_get ns k) numbers ∙ made-at (λ (c : Name × ℕ). c.1) (creations_of tree) k creation at in
      let number : thread.function ≡ creation.1 = cc in
      let named = made-of (λ (x : Name). x.text) (functions_in tree.items) creation.1 creation.0.text (all-at _ (creations_of tree) k creation (of-all_creations tree [] accepted.none_broken) at) in
      let placed = made-of (λ (f : Function). f.from) (functions_of tree) creation.1 named.from.from
      (ap (λ ms. slice_get ms creation.1) (places-functions_from (first_scopes tree.items) first_next tree.items) ∙ made-at (λ (x : Name). x.from) (functions_in tree.items) creation.1 named.from named.there) in
      record {
        name = named.from;
        function = placed.from;
        stored = stored_function placed.from;
        name_is = ap (slice_get (functions_in tree.items)) number ∙ named.there;
        is_named = named.made;
        function_is = ap (slice_get (functions_of tree)) number ∙ placed.there;
        is_at_name = placed.made;
        stored_is = ap (λ fs. slice_get fs thread.function) is.functions_are ∙ made-at stored_function (functions_of tree) thread.function placed.from (ap (slice_get (functions_of tree)) number ∙ placed.there);
        items_are = have_items placed.from;
      }

pub plans_have_items : PlansHaveItemsOfTexts
plans_have_items = record { as_many = as-many; run = λ tree plan k creation thread accepted is at there. runs tree plan is k creation thread accepted at there }
