-- What is found of the items of a text, one after another.
use Rattle.std.specs.Prelude.{◌≡◌, List, [], ◌∷◌, ◌++◌, length, map, Option, Some, None, is_some, if◌then◌else◌}
use Rattle.std.specs.Option.{option_or, unwrap_or}
use Rattle.thr_base.specs.declared.stops.Refusal.{Refusal}
use Rattle.thr_base.specs.Refusals.{bad_main}
use Rattle.c_tree.specs.Plain as plain
use Rattle.c_check.specs.declared.items.Walk.{Walk}
use Rattle.c_check.specs.declared.meaning.Meaning.TheVariants as meaning
use Rattle.c_check.specs.Scope.{declare, open_scope}
use Rattle.c_check.specs.Resolve.{with_handles}
use Rattle.c_check.specs.Broken.{broken_if, handles_broken}
use Rattle.c_check.specs.Program.{Function, Next, broken_in, created_from, created_in, created_of, first_scopes, functions_from, functions_of, globals_broken, globals_in, item_broken, items_broken, locks_broken, locks_in, main_broken, main_place, with_globals, with_locks}
use Rattle.c_check.specs.declared.plan.Plan.{Plan}
use Rattle.c_check.specs.Columns.{counters_from, lock_column, own_columns_from, own_variables, owns_of, threads_from, variable_column}
use Rattle.c_check.specs.Check.{stored_function}
use Rattle.c_check.specs.First.{earlier, first_of}

-- the numbers of the next variable, lock and thread function
abbrev pub next_of : Walk → Next
next_of w = record { global = length w.variables; lock = length w.locks; function = length w.functions }

-- before the first item
abbrev pub first_walk : List plain.Item → Walk
first_walk items = record { scopes = first_scopes items; variables = []; locks = []; owns = []; functions = []; main = None; created = []; refusal = None }

-- the functions of an item
abbrev pub item_functions : Walk → plain.Item → List Function
item_functions w i = functions_from w.scopes (next_of w) (i ∷ [])

abbrev pub with_refusal : Walk → Option Refusal → Walk
with_refusal w refusal = record w { refusal = earlier w.refusal refusal }

-- behind one item more
abbrev pub with_item : Walk → plain.Item → Walk
with_item w (plain.Item.Globals gs) = record w {
  scopes = with_globals w.scopes (length w.variables) gs;
  variables = w.variables ++ map variable_column gs;
  refusal = earlier w.refusal (first_of (globals_broken w.scopes (length w.variables) gs));
}
with_item w (plain.Item.Locks names) = record w {
  scopes = with_locks w.scopes (length w.locks) names;
  locks = w.locks ++ map lock_column names;
  refusal = earlier w.refusal (first_of (locks_broken w.scopes (length w.locks) names));
}
with_item w (plain.Item.Handles from names) = record w {
  scopes = with_handles w.scopes names;
  refusal = earlier w.refusal (first_of (handles_broken w.scopes names));
}
with_item w (plain.Item.Thread name body) = record w {
  scopes = declare name (meaning.Function (length w.functions)) w.scopes;
  owns = w.owns ++ map own_variables (item_functions w (plain.Item.Thread name body));
  functions = w.functions ++ map stored_function (item_functions w (plain.Item.Thread name body));
  refusal = earlier w.refusal (first_of (item_broken w.scopes (next_of w) (is_some w.main) (plain.Item.Thread name body)));
}
with_item w (plain.Item.Main from body) = record w {
  main = option_or w.main (Some from);
  created = w.created ++ (if is_some w.main then [] else map (λ c. c.1) (created_from (open_scope w.scopes) 0 body));
  refusal = earlier w.refusal (first_of (broken_if (is_some w.main) bad_main from ++ main_broken w.scopes body));
}
with_item w (plain.Item.Prototype name) = w
with_item w (plain.Item.Profile from) = w

-- So much was found that, with what is found of the rest from here on, it is what is found of the whole text.
pub record IsSoFar (tree : plain.Tree) (w : Walk) (next : Next) (rest : List plain.Item) : Type 0 where
  pub variables : w.variables ++ map variable_column (globals_in rest) ≡ map variable_column (globals_in tree.items)
  pub locks : w.locks ++ map lock_column (locks_in rest) ≡ map lock_column (locks_in tree.items)
  pub owns : w.owns ++ map own_variables (functions_from w.scopes next rest) ≡ owns_of tree
  pub functions : w.functions ++ map stored_function (functions_from w.scopes next rest) ≡ map stored_function (functions_of tree)
  pub main : unwrap_or w.main (main_place rest) ≡ main_place tree.items
  pub created : w.created ++ (if is_some w.main then [] else map (λ c. c.1) (created_in w.scopes next rest)) ≡ created_of tree
  pub refusal : earlier w.refusal (first_of (items_broken w.scopes next (is_some w.main) tree.end rest)) ≡ first_of (broken_in tree)

-- All of the text was gone through.
pub record IsWalked (tree : plain.Tree) (w : Walk) : Type 0 where
  pub variables : w.variables ≡ map variable_column (globals_in tree.items)
  pub locks : w.locks ≡ map lock_column (locks_in tree.items)
  pub owns : w.owns ≡ owns_of tree
  pub functions : w.functions ≡ map stored_function (functions_of tree)
  pub main : unwrap_or w.main 0 ≡ main_place tree.items
  pub created : w.created ≡ created_of tree
  pub refusal : w.refusal ≡ first_of (broken_in tree)

-- the plan of what was found of a whole text
abbrev pub plan_from : Walk → Plan
plan_from w = record {
  columns = (w.variables ++ w.locks) ++ (own_columns_from w.owns 1 w.created ++ counters_from 1 w.created);
  functions = w.functions;
  threads = threads_from w.owns (length (w.variables ++ w.locks)) w.created;
}
