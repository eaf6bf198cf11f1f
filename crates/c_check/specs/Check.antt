-- When a text is refused, and what its plan is where it is not.
use Rattle.std.specs.Prelude.{◌≡◌, ◌⊎◌, ◌↔◌, ◌<◌, ◌≤◌, ℕ, List, [], length, map, slice_get, Some, Contains, Result}
use Rattle.thr_base.specs.declared.stops.Refusal.{Refusal}
use Rattle.thr_base.specs.declared.stops.Stop.{Stop}
use Rattle.thr_base.specs.Limits.{most_columns}
use Rattle.thr_base.specs.Refusals.{IsFirst, MatchStop, no_thread, too_many}
use Rattle.c_tree.specs.declared.expr.Name.{Name}
use Rattle.c_tree.specs.Plain as plain
use Rattle.c_check.specs.declared.plan.Function as stored
use Rattle.c_check.specs.declared.plan.Plan.{Plan}
use Rattle.c_check.specs.declared.plan.Thread.{Thread}
use Rattle.c_check.specs.declared.instruction.Instruction.{Instruction}
use Rattle.c_check.specs.Plan.{Stmts, code}
use Rattle.c_check.specs.Items.{Grain, Items, items}
use Rattle.c_check.specs.Temporaries.{need}
use Rattle.c_check.specs.Program.{Function, broken_in, created_of, creations_of, functions_in, functions_of, main_place}
use Rattle.c_check.specs.Columns.{columns_of, threads_of}

-- ---- refusals

-- The text breaks the rule at this place.
abbrev pub Breaks : plain.Tree → Refusal → Type 0
Breaks tree refusal = Contains (broken_in tree) refusal

-- What is looked at last, at the word `main`: that threads are created, and how many columns there are.
pub data IsCounted (tree : plain.Tree) : Refusal → Type 0 where
  no_threads : created_of tree ≡ [] → IsCounted tree (record { code = no_thread; place = main_place tree.items })
  many_columns : most_columns < length (columns_of tree) → IsCounted tree (record { code = too_many; place = main_place tree.items })

-- The text is refused so: by the first rule that it breaks; where it breaks none, by what is looked at last.
abbrev pub IsRefused : plain.Tree → Refusal → Type 0
IsRefused tree refusal = IsFirst (Breaks tree) refusal ⊎ ((broken_in tree ≡ []) × IsFirst (IsCounted tree) refusal)

-- ---- plans

-- a thread function as a plan has it
abbrev pub stored_function : Function → stored.Function
stored_function f = record { from = f.from; locals = length f.locals; temporaries = need f.body; body = code f.body }

-- This is the plan of the text.
pub record IsPlanOf (tree : plain.Tree) (plan : Plan) : Type 0 where
  pub columns_are : plan.columns ≡ columns_of tree
  pub functions_are : plan.functions ≡ map stored_function (functions_of tree)
  pub threads_are : plan.threads ≡ threads_of tree

-- The text breaks no rule, and what is counted is within its limits.
pub record IsAccepted (tree : plain.Tree) : Type 0 where
  pub none_broken : broken_in tree ≡ []
  pub some_threads : ¬ (created_of tree ≡ [])
  pub few_columns : length (columns_of tree) ≤ most_columns

-- When each answer comes.
abbrev pub IsCheckAnswer : plain.Tree → Result Plan Stop → Type 0
IsCheckAnswer tree answer = MatchStop answer (λ plan. IsAccepted tree × IsPlanOf tree plan) (IsRefused tree)

-- A text has one plan or one refusal, and never both.
pub record ChecksAreExact : Type 0 where
  pub one : (tree : plain.Tree) (plan other : Plan) → IsPlanOf tree plan → IsPlanOf tree other → plan ≡ other
  pub one_refusal : (tree : plain.Tree) (refusal other : Refusal) → IsRefused tree refusal → IsRefused tree other → refusal ≡ other
  pub not_both : (tree : plain.Tree) (refusal : Refusal) → IsAccepted tree → ¬ IsRefused tree refusal
  pub either : (tree : plain.Tree) → (IsAccepted tree × ((plan : Plan) × IsPlanOf tree plan)) ⊎ ((refusal : Refusal) × IsRefused tree refusal)

-- ---- items

-- what a thread function does, as items; its temporaries have the numbers behind those of its locals
abbrev pub function_items : Function → Items
function_items f = items (Grain.Cut (length f.locals)) f.body

-- Instructions stand for items: they are the code of statements, which have these items.
pub record AreItemsOf (locals : ℕ) (instructions : List Instruction) (is : Items) : Type 0 where
  pub statements : Stmts
  pub code_is : instructions ≡ code statements
  pub items_are : is ≡ items (Grain.Cut locals) statements

-- The thread runs the function of the text that a creation names, and its code stands for the items of this function, and for no others.
pub record RunsFunction (tree : plain.Tree) (plan : Plan) (creation : Name × ℕ) (thread : Thread) : Type 0 where
  pub name : Name
  pub function : Function
  pub stored : stored.Function
  pub name_is : slice_get (functions_in tree.items) thread.function ≡ Some name
  pub is_named : name.text ≡ creation.0.text
  pub function_is : slice_get (functions_of tree) thread.function ≡ Some function
  pub is_at_name : function.from ≡ name.from
  pub stored_is : slice_get plan.functions thread.function ≡ Some stored
  pub items_are : (is : Items) → AreItemsOf stored.locals stored.body is ↔ (is ≡ function_items function)

-- Thread k of the plan of a text that is accepted runs the function that creation k of its `main` names.
pub record PlansHaveItemsOfTexts : Type 0 where
  pub as_many : (tree : plain.Tree) (plan : Plan) → IsPlanOf tree plan → length plan.threads ≡ length (creations_of tree)
  pub run : (tree : plain.Tree) (plan : Plan) (k : ℕ) (creation : Name × ℕ) (thread : Thread) → IsAccepted tree → IsPlanOf tree plan
      → slice_get (creations_of tree) k ≡ Some creation → slice_get plan.threads k ≡ Some thread → RunsFunction tree plan creation thread

-- Code stands for one list of statements.
abbrev pub CodeTellsStatements : Type 0
CodeTellsStatements = (statements others : Stmts) → code statements ≡ code others → statements ≡ others
