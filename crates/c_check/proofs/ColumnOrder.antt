-- How the columns of a text stand: variables, locks, what each thread has of its own, and the counters.
use Rattle.std.proofs.Common.{◌≡◌, ℕ, zero, suc, ◌+◌, ◌<◌, List, [], ◌∷◌, ◌++◌, length, map, slice_get, Option, Some, None, refl, sym, ap, subst, ◌∙◌, arith}
use Rattle.std.specs.List.{AllByRecursion}
use Rattle.std.proofs.lemmas.List.{length-map}
use Rattle.std.proofs.lemmas.Option.{slice_get-map}
use Rattle.std.specs.Option.{option_map}
use Rattle.thr_base.specs.declared.names.ThreadNo.{ThreadNo}
use Rattle.c_tree.specs.declared.expr.Name.{Name}
use Rattle.c_tree.specs.Plain as plain
use Rattle.c_check.specs.declared.columns.OwnVariables.{OwnVariables}
use Rattle.c_check.specs.declared.plan.ColumnKind.TheVariants as kind
use Rattle.c_check.specs.declared.plan.Plan.{Plan}
use Rattle.c_check.specs.declared.plan.Thread.{Thread}
use Rattle.c_check.specs.Program.{Function, created_of, functions_of, globals_in, locks_in}
use Rattle.c_check.specs.Columns.{columns_if, columns_of, counters_from, local_columns, lock_column, own_columns_from, own_count, own_variables, owns_of, shared_columns, temporary_columns, thread_columns, threads_from, threads_of, variable_column}
use Rattle.c_check.specs.Check.{stored_function}
use Rattle.c_check.specs.WellFormed.{AreCounters, AreOwnColumns, AreThreadColumns, HasColumns, IsColumnOf}
use Rattle.c_check.proofs.ColumnLemmas.{length-columns_if}
use Rattle.c_check.proofs.ColumnTexts.{length-local_columns, length-temporary_columns}

variables-are : (gs : List plain.Global) → AllByRecursion (IsColumnOf kind.Variable None) (map variable_column gs)
variables-are [] = tt
variables-are (g ∷ gs) = ((refl, refl), variables-are gs)

locks-are : (xs : List Name) → AllByRecursion (IsColumnOf kind.Lock None) (map lock_column xs)
locks-are [] = tt
locks-are (x ∷ xs) = ((refl, refl), locks-are xs)

locals-are : (i : ThreadNo) (earlier names : List (List ℕ)) → AllByRecursion (IsColumnOf kind.Local (Some i)) (local_columns i earlier names)
locals-are i earlier [] = tt
locals-are i earlier (x ∷ xs) = ((refl, refl), locals-are i (earlier ++ x ∷ []) xs)

temporaries-are : (i : ThreadNo) (earlier n : ℕ) → AllByRecursion (IsColumnOf kind.Temporary (Some i)) (temporary_columns i earlier n)
temporaries-are i earlier zero = tt
temporaries-are i earlier (suc n) = ((refl, refl), temporaries-are i (earlier + 1) n)

-- the columns of a thread that runs a function
thread-are : (i : ThreadNo) (f : Function) → AreThreadColumns (stored_function f) i (thread_columns i (own_variables f))
thread-are i f = record {
  locals = local_columns i [] (own_variables f).locals;
  temporaries = temporary_columns i 0 (own_variables f).temporaries;
  columns_are = refl;
  locals_are = locals-are i [] (own_variables f).locals;
  temporaries_are = temporaries-are i 0 (own_variables f).temporaries;
  locals_count = length-local_columns i [] (own_variables f).locals ∙ length-map f.locals (λ (l : plain.Local). l.name.text);
  temporaries_count = length-temporary_columns i 0 (own_variables f).temporaries;
}

counters-are : (owns : List OwnVariables) (i first : ℕ) (ns : List ℕ) → AreCounters i (threads_from owns first ns) (counters_from i ns)
counters-are owns i first [] = refl
counters-are owns i first (n ∷ ns) = ((refl, refl), counters-are owns (i + 1) (first + own_count owns n) ns)

-- a number that a function has
record HasFunction (fs : List Function) (n : ℕ) : Type 0 where
  function : Function
  function_is : slice_get fs n ≡ Some function

has-function : (fs : List Function) (n : ℕ) → n < length fs → HasFunction fs n
has-function [] n within = absurd (omega arith)
has-function (f ∷ fs) zero within = record { function = f; function_is = refl }
has-function (f ∷ fs) (suc n) within = (let more = has-function fs n (omega arith) in record { function = more.function; function_is = more.function_is })

mapped : {X Y : Type 0} (f : X → Y) (xs : List X) (n : ℕ) (x : X) → slice_get xs n ≡ Some x → slice_get (map f xs) n ≡ Some (f x)
mapped f xs n x e = slice_get-map f xs n ∙ ap (option_map f) e

module _ (plan : Plan) (fs : List Function) (functions_are : plan.functions ≡ map stored_function fs) where
  own-are : (i first : ℕ) (ns : List ℕ) → AllByRecursion (λ n. n < length fs) ns
      → AreOwnColumns plan i first (threads_from (map own_variables fs) first ns) (own_columns_from (map own_variables fs) i ns)
  own-are i first [] all = refl
  own-are i first (n ∷ ns) all =
      let number : ThreadNo = record { 0 = i } in
      let owns : List OwnVariables = map own_variables fs in
      let known = has-function fs n all.0 in
      let own : slice_get owns n ≡ Some (own_variables known.function) = mapped own_variables fs n known.function known.function_is in (
        stored_function known.function,
        columns_if number (slice_get owns n),
        own_columns_from owns (i + 1) ns,
        ap (λ gs. slice_get gs n) functions_are ∙ mapped stored_function fs n known.function known.function_is,
        refl,
        refl,
        subst (λ (o : Option OwnVariables). AreThreadColumns (stored_function known.function) number (columns_if number o)) (sym own) (thread-are number known.function),
        subst (λ (count : ℕ). AreOwnColumns plan (i + 1) (first + count) (threads_from owns (first + own_count owns n) ns) (own_columns_from owns (i + 1) ns)) (sym (length-columns_if number (slice_get owns n)))
            (own-are (i + 1) (first + own_count owns n) ns all.1),
      )

pub has-columns : (tree : plain.Tree) (plan : Plan) → plan.columns ≡ columns_of tree → plan.functions ≡ map stored_function (functions_of tree) → plan.threads ≡ threads_of tree
    → AllByRecursion (λ n. n < length (functions_of tree)) (created_of tree) → HasColumns plan
has-columns tree plan columns_are functions_are threads_are known = record {
  variables = map variable_column (globals_in tree.items);
  locks = map lock_column (locks_in tree.items);
  own = own_columns_from (owns_of tree) 1 (created_of tree);
  counters = counters_from 1 (created_of tree);
  columns_are = columns_are;
  variables_are = variables-are (globals_in tree.items);
  locks_are = locks-are (locks_in tree.items);
  own_are = subst (λ (ts : List Thread). AreOwnColumns plan 1 (length (shared_columns tree)) ts (own_columns_from (owns_of tree) 1 (created_of tree))) (sym threads_are)
      (own-are plan (functions_of tree) functions_are 1 (length (shared_columns tree)) (created_of tree) known);
  counters_are = subst (λ (ts : List Thread). AreCounters 1 ts (counters_from 1 (created_of tree))) (sym threads_are) (counters-are (owns_of tree) 1 (length (shared_columns tree)) (created_of tree));
}
