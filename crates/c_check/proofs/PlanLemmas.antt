-- The plans of accepted texts are well-formed.
use Rattle.std.proofs.Common.{◌≡◌, ℕ, zero, suc, ◌+◌, ◌-◌, ◌<◌, ◌≤◌, pos, Bool, true, false, if◌then◌else◌, List, [], ◌∷◌, ◌++◌, length, map, filter, slice_get, Option, Some, None, refl, sym, ap, subst, ◌∙◌, arith, length-append}
use Rattle.std.proofs.lemmas.List.{length-map}
use Rattle.std.proofs.lemmas.Option.{slice_get_within}
use Rattle.std.proofs.lemmas.List.Elements.{filter-append}
use Rattle.std.specs.List.{AllByRecursion}
use Rattle.thr_base.specs.Limits.{most_threads}
use Rattle.thr_base.specs.Number.{Fits}
use Rattle.thr_base.specs.declared.names.ThreadNo.{ThreadNo}
use Rattle.c_tree.specs.declared.expr.Name.{Name}
use Rattle.c_tree.specs.Leaves.{NumbersFit, tree_leaves}
use Rattle.c_tree.specs.Plain as plain
use Rattle.c_tree.specs.Seen.{plain_tree}
use Rattle.c_tree.proofs.Naming.{names_of_text}
use Rattle.c_tree.proofs.SittingText.{tree_fits}
use Rattle.c_check.specs.declared.columns.OwnVariables.{OwnVariables}
use Rattle.c_check.specs.declared.plan.Column.{Column}
use Rattle.c_check.specs.declared.plan.Thread.{Thread}
use Rattle.c_check.specs.declared.plan.Plan.{Plan}
use Rattle.c_check.specs.Plan.{code}
use Rattle.c_check.specs.Scope.{Scopes}
use Rattle.c_check.specs.Program.{Function, Next, behind_item, created_of, creations_of, first_next, first_scopes, functions_from, functions_in, functions_of, globals_in, locks_in, past_item}
use Rattle.c_check.specs.Columns.{columns_if, columns_of, counters_from, local_columns, lock_column, own_columns_from, own_count, own_variables, owns_of, shared_columns, temporary_columns, threads_from, threads_of, variable_column}
use Rattle.c_check.specs.Check.{IsAccepted, stored_function}
use Rattle.c_check.specs.Numbers.{names_of}
use Rattle.c_check.specs.WellFormed.{AcceptedPlansAreWellFormed, Counts, HasCode, HasThread, IsWellFormedPlan, StartFits, counts_in, is_lock, is_variable}
use Rattle.c_check.proofs.CheckLemmas.{length-counters_from}
use Rattle.c_check.specs.inside.Words.{AreWords}
use Rattle.c_check.proofs.ColumnLemmas.{length-columns_if}
use Rattle.c_check.proofs.ColumnNames.{columns-differ}
use Rattle.c_check.proofs.ColumnTexts.{TextIs, columns-texts}
use Rattle.c_check.proofs.ColumnOrder.{has-columns}
use Rattle.c_check.proofs.Words.{are-words}
use Rattle.c_check.proofs.Named.{HasScopes, all-append}
use Rattle.c_check.proofs.NamedText.{HasRoom, having, few-creations, has-first_scopes, has-functions, starts-fit}
use Rattle.c_check.proofs.Numbered.{Creates, of-all_creations}

-- ---- lists

all-map : {X Y : Type 0} → (P : Y → Type 0) (f : X → Y) (xs : List X) → AllByRecursion (λ x. P (f x)) xs → AllByRecursion P (map f xs)
all-map P f [] all = tt
all-map P f (x ∷ xs) all = (all.0, all-map P f xs all.1)

all-every : {X : Type 0} → (P : X → Type 0) → ((x : X) → P x) → (xs : List X) → AllByRecursion P xs
all-every P is [] = tt
all-every P is (x ∷ xs) = (is x, all-every P is xs)

all-then : {X : Type 0} → (P Q : X → Type 0) → ((x : X) → P x → Q x) → (xs : List X) → AllByRecursion P xs → AllByRecursion Q xs
all-then P Q gives [] all = tt
all-then P Q gives (x ∷ xs) all = (gives x all.0, all-then P Q gives xs all.1)

filter-all : {X : Type 0} → (test : X → Bool) (xs : List X) → AllByRecursion (λ x. test x ≡ true) xs → filter test xs ≡ xs
filter-all test [] all = refl
filter-all test (x ∷ xs) all = ap (λ t. if t then x ∷ filter test xs else filter test xs) all.0 ∙ ap (λ ys. x ∷ ys) (filter-all test xs all.1)

filter-none : {X : Type 0} → (test : X → Bool) (xs : List X) → AllByRecursion (λ x. test x ≡ false) xs → filter test xs ≡ []
filter-none test [] all = refl
filter-none test (x ∷ xs) all = ap (λ t. if t then x ∷ filter test xs else filter test xs) all.0 ∙ filter-none test xs all.1

-- ---- columns of a thread's own

-- The column has no start that does not fit, and is no variable and no lock that threads share.
pub record IsOwn (column : Column) : Type 0 where
  pub start_fits : StartFits column.start
  pub no_variable : is_variable column.kind ≡ false
  pub no_lock : is_lock column.kind ≡ false

own-local_columns : (i : ThreadNo) (earlier names : List (List ℕ)) → AllByRecursion IsOwn (local_columns i earlier names)
own-local_columns i earlier [] = tt
own-local_columns i earlier (x ∷ xs) = (record { start_fits = tt; no_variable = refl; no_lock = refl }, own-local_columns i (earlier ++ x ∷ []) xs)

own-temporary_columns : (i : ThreadNo) (earlier n : ℕ) → AllByRecursion IsOwn (temporary_columns i earlier n)
own-temporary_columns i earlier zero = tt
own-temporary_columns i earlier (suc n) = (record { start_fits = tt; no_variable = refl; no_lock = refl }, own-temporary_columns i (earlier + 1) n)

own-columns_if : (i : ThreadNo) (own : Option OwnVariables) → AllByRecursion IsOwn (columns_if i own)
own-columns_if i None = tt
own-columns_if i (Some own) =
    all-append IsOwn (local_columns i [] own.locals) (temporary_columns i 0 own.temporaries) (own-local_columns i [] own.locals) (own-temporary_columns i 0 own.temporaries)

own-own_columns_from : (owns : List OwnVariables) (i : ℕ) (created : List ℕ) → AllByRecursion IsOwn (own_columns_from owns i created)
own-own_columns_from owns i [] = tt
own-own_columns_from owns i (n ∷ ns) =
    all-append IsOwn (columns_if (record { 0 = i }) (slice_get owns n)) (own_columns_from owns (i + 1) ns) (own-columns_if (record { 0 = i }) (slice_get owns n)) (own-own_columns_from owns (i + 1) ns)

own-counters_from : (i : ℕ) (created : List ℕ) → AllByRecursion IsOwn (counters_from i created)
own-counters_from i [] = tt
own-counters_from i (n ∷ ns) = (record { start_fits = omega arith; no_variable = refl; no_lock = refl }, own-counters_from (i + 1) ns)

-- ---- all columns of a text

module _ (tree : plain.Tree) where
  abbrev variables : List Column
  variables = map variable_column (globals_in tree.items)

  abbrev locks : List Column
  locks = map lock_column (locks_in tree.items)

  abbrev own : List Column
  own = own_columns_from (owns_of tree) 1 (created_of tree) ++ counters_from 1 (created_of tree)

  own-all : AllByRecursion IsOwn own
  own-all = all-append IsOwn (own_columns_from (owns_of tree) 1 (created_of tree)) (counters_from 1 (created_of tree)) (own-own_columns_from (owns_of tree) 1 (created_of tree)) (own-counters_from 1 (created_of tree))

  starts-columns_of : NumbersFit (tree_leaves tree) → AllByRecursion (λ c. StartFits c.start) (columns_of tree)
  starts-columns_of fit =
      all-append (λ c. StartFits c.start) (variables ++ locks) own
      (all-append (λ c. StartFits c.start) variables locks (all-map (λ c. StartFits c.start) variable_column (globals_in tree.items) (starts-fit tree.items fit))
      (all-map (λ c. StartFits c.start) lock_column (locks_in tree.items) (all-every (λ x. Fits (pos 0)) (λ x. omega arith) (locks_in tree.items))))
      (all-then IsOwn (λ c. StartFits c.start) (λ c is. is.start_fits) own own-all)

  filter-columns_of : (test : Column → Bool) (first second : List Column) → filter test variables ≡ first → filter test locks ≡ second → AllByRecursion (λ c. test c ≡ false) own → length (filter test (columns_of tree)) ≡ length first + length second
  filter-columns_of test first second is also none =
      ap length (filter-append test (variables ++ locks) own ∙ (λ i. filter-append test variables locks i ++ filter-none test own none i))
      ∙ omega (arith, length-append (filter test variables ++ filter test locks) [], length-append (filter test variables) (filter test locks), ap length is, ap length also)

  pub count-variables : length (filter (λ c. is_variable c.kind) (columns_of tree)) ≡ length (globals_in tree.items)
  count-variables =
      filter-columns_of (λ c. is_variable c.kind) variables []
      (filter-all (λ c. is_variable c.kind) variables (all-map (λ c. is_variable c.kind ≡ true) variable_column (globals_in tree.items) (all-every (λ g. true ≡ true) (λ g. refl) (globals_in tree.items))))
      (filter-none (λ c. is_variable c.kind) locks (all-map (λ c. is_variable c.kind ≡ false) lock_column (locks_in tree.items) (all-every (λ x. false ≡ false) (λ x. refl) (locks_in tree.items))))
      (all-then IsOwn (λ c. is_variable c.kind ≡ false) (λ c is. is.no_variable) own own-all)
      ∙ omega (arith, length-map (globals_in tree.items) variable_column)

  pub count-locks : length (filter (λ c. is_lock c.kind) (columns_of tree)) ≡ length (locks_in tree.items)
  count-locks =
      filter-columns_of (λ c. is_lock c.kind) [] locks
      (filter-none (λ c. is_lock c.kind) variables (all-map (λ c. is_lock c.kind ≡ false) variable_column (globals_in tree.items) (all-every (λ g. false ≡ false) (λ g. refl) (globals_in tree.items))))
      (filter-all (λ c. is_lock c.kind) locks (all-map (λ c. is_lock c.kind ≡ true) lock_column (locks_in tree.items) (all-every (λ x. true ≡ true) (λ x. refl) (locks_in tree.items))))
      (all-then IsOwn (λ c. is_lock c.kind ≡ false) (λ c is. is.no_lock) own own-all)
      ∙ omega (arith, length-map (locks_in tree.items) lock_column)

  length-columns_of : length (columns_of tree) ≡ length (shared_columns tree) + length (own_columns_from (owns_of tree) 1 (created_of tree)) + length (created_of tree)
  length-columns_of =
      omega (
        arith,
        length-append (shared_columns tree) (own_columns_from (owns_of tree) 1 (created_of tree) ++ counters_from 1 (created_of tree)),
        length-append (own_columns_from (owns_of tree) 1 (created_of tree)) (counters_from 1 (created_of tree)),
        length-counters_from 1 (created_of tree),
      )

  length-shared_columns : length (shared_columns tree) ≡ length (globals_in tree.items) + length (locks_in tree.items)
  length-shared_columns =
      omega (arith, length-append (map variable_column (globals_in tree.items)) (map lock_column (locks_in tree.items)), length-map (globals_in tree.items) variable_column, length-map (locks_in tree.items) lock_column)

-- ---- threads

-- The thread's own columns stand from one column on up to another.
pub record StandsBetween (owns : List OwnVariables) (first end : ℕ) (t : Thread) : Type 0 where
  pub has_function : t.function < length owns
  pub behind : first ≤ t.first
  pub before : t.first + own_count owns t.function ≤ end

stand-threads_from : (owns : List OwnVariables) (base first i end : ℕ) (created : List ℕ) → base ≤ first → AllByRecursion (λ n. n < length owns) created → first + length (own_columns_from owns i created) ≤ end
    → AllByRecursion (StandsBetween owns base end) (threads_from owns first created)
stand-threads_from owns base first i end [] low all within = tt
stand-threads_from owns base first i end (n ∷ ns) low all within =
    let count : length (own_columns_from owns i (n ∷ ns)) ≡ own_count owns n + length (own_columns_from owns (i + 1) ns) =
    length-append (columns_if (record { 0 = i }) (slice_get owns n)) (own_columns_from owns (i + 1) ns) ∙ ap (λ k. k + length (own_columns_from owns (i + 1) ns)) (length-columns_if (record { 0 = i }) (slice_get owns n)) in
    (record { has_function = all.0; behind = low; before = omega (arith, count) }, stand-threads_from owns base (first + own_count owns n) (i + 1) end ns (omega arith) all.1 (omega (arith, count)))

length-threads_from : (owns : List OwnVariables) (first : ℕ) (created : List ℕ) → length (threads_from owns first created) ≡ length created
length-threads_from owns first [] = refl
length-threads_from owns first (n ∷ ns) = ap suc (length-threads_from owns (first + own_count owns n) ns)

-- the function of a number
record HasFunction (fs : List Function) (n : ℕ) : Type 0 where
  function : Function
  at_number : slice_get (map stored_function fs) n ≡ Some (stored_function function)
  counted : own_count (map own_variables fs) n ≡ (stored_function function).locals + (stored_function function).temporaries

has-function : (fs : List Function) (n : ℕ) → n < length fs → HasFunction fs n
has-function [] n within = absurd (omega arith)
has-function (f ∷ fs) zero within = record { function = f; at_number = refl; counted = omega (arith, length-map f.locals (λ l. l.name.text)) }
has-function (f ∷ fs) (suc n) within = (let rest = has-function fs n (omega arith) in record { function = rest.function; at_number = rest.at_number; counted = rest.counted })

-- ---- the plan of a text

length-functions_from : (ss : Scopes) (next : Next) (items : List plain.Item) → length (functions_from ss next items) ≡ length (functions_in items)
length-functions_from ss next [] = refl
length-functions_from ss next (plain.Item.Thread name body ∷ items) = ap suc (length-functions_from _ _ items)
length-functions_from ss next (item ∷ items) = length-functions_from (behind_item ss next item) (past_item next item) items

some-length : {X : Type 0} → (xs : List X) → ¬ (xs ≡ []) → 0 < length xs
some-length [] some = absurd (some refl)
some-length (x ∷ xs) some = omega arith

abbrev plan_of : plain.Tree → Plan
plan_of tree = record { columns = columns_of tree; functions = map stored_function (functions_of tree); threads = threads_of tree }

abbrev counts_of : plain.Tree → Counts
counts_of tree = record { variables = length (globals_in tree.items); locks = length (locks_in tree.items); locals = 0 }

module _ (tree : plain.Tree) (accepted : IsAccepted tree) where
  room : HasRoom (counts_of tree) first_next tree.items
  room = record { globals = omega arith; locks = omega arith }

  scopes : (n : ℕ) → HasScopes (having (counts_of tree) n) (first_scopes tree.items)
  scopes n = has-first_scopes (having (counts_of tree) n) tree.items

  created-few : length (created_of tree) ≤ most_threads
  created-few = omega (arith, length-map (creations_of tree) (λ (c : Name × ℕ). c.1), few-creations (first_scopes tree.items) first_next false tree.end tree.items accepted.none_broken)

  -- a creation names a function that is there
  known : (c : Name × ℕ) → Creates (names_of tree.items []) c → c.1 < length (functions_of tree)
  known c is =
      omega (
        arith,
        slice_get_within (map (λ (x : Name). x.text) (functions_in tree.items)) c.1 c.0.text is,
        length-map (functions_in tree.items) (λ (x : Name). x.text),
        length-functions_from (first_scopes tree.items) first_next tree.items,
      )

  created-functions : AllByRecursion (λ n. n < length (functions_of tree)) (created_of tree)
  created-functions =
      all-map (λ n. n < length (functions_of tree)) (λ (c : Name × ℕ). c.1) (creations_of tree)
      (all-then (Creates (names_of tree.items [])) (λ (c : Name × ℕ). c.1 < length (functions_of tree)) known (creations_of tree) (of-all_creations tree [] accepted.none_broken))

  created-known : AllByRecursion (λ n. n < length (owns_of tree)) (created_of tree)
  created-known = subst (λ k. AllByRecursion (λ n. n < k) (created_of tree)) (sym (length-map (functions_of tree) own_variables)) created-functions

  stand : AllByRecursion (StandsBetween (owns_of tree) (length (shared_columns tree)) (length (columns_of tree) - length (threads_of tree))) (threads_of tree)
  stand =
      stand-threads_from (owns_of tree) (length (shared_columns tree)) (length (shared_columns tree)) 1 _ (created_of tree) (omega arith) created-known
      (omega (arith, length-columns_of tree, length-threads_from (owns_of tree) (length (shared_columns tree)) (created_of tree)))

  has-thread : (t : Thread) → StandsBetween (owns_of tree) (length (shared_columns tree)) (length (columns_of tree) - length (threads_of tree)) t → HasThread (plan_of tree) t
  has-thread t stands =
      let known = has-function (functions_of tree) t.function (omega (arith, stands.has_function, length-map (functions_of tree) own_variables)) in
      record {
        function = stored_function known.function;
        function_is = known.at_number;
        behind_shared = omega (arith, stands.behind, count-variables tree, count-locks tree, length-shared_columns tree);
        before_counters = omega (arith, stands.before, known.counted);
      }

  has-body : (f : Function) → HasCode (having (counts_of tree) (length f.locals)) (code f.body) → HasCode (counts_in (plan_of tree) (stored_function f)) (code f.body)
  has-body f has =
      let same : counts_in (plan_of tree) (stored_function f) ≡ having (counts_of tree) (length f.locals) =
      λ i. record { variables = count-variables tree i; locks = count-locks tree i; locals = length f.locals } in
      subst (λ c. HasCode c (code f.body)) (sym same) has

  well_formed : NumbersFit (tree_leaves tree) → AreWords tree → IsWellFormedPlan (plan_of tree)
  well_formed fit words =
      let threads : length (threads_of tree) ≡ length (created_of tree) = length-threads_from (owns_of tree) (length (shared_columns tree)) (created_of tree) in
      record {
        some_threads = omega (arith, threads, some-length (created_of tree) accepted.some_threads);
        few_threads = omega (arith, threads, created-few);
        few_columns = accepted.few_columns;
        columns_are = has-columns tree (plan_of tree) refl refl refl created-functions;
        texts_are = subst (λ (n : ℕ). AllByRecursion (TextIs n) (columns_of tree)) (sym threads) (columns-texts tree words accepted.few_columns);
        texts_differ = columns-differ tree accepted.none_broken words created-few accepted.few_columns;
        starts_fit = starts-columns_of tree fit;
        threads_are = all-then _ (HasThread (plan_of tree)) has-thread (threads_of tree) stand;
        functions_are = all-map (λ f. HasCode (counts_in (plan_of tree) f) f.body) stored_function (functions_of tree)
            (all-then _ (λ f. HasCode (counts_in (plan_of tree) (stored_function f)) (code f.body)) has-body (functions_of tree)
            (has-functions (counts_of tree) (first_scopes tree.items) first_next false tree.end tree.items room scopes fit accepted.none_broken));
      }

pub plans-well_formed : AcceptedPlansAreWellFormed
plans-well_formed text tree plan has accepted is =
    let same : plan ≡ plan_of (plain_tree tree) = λ i. record { columns = is.columns_are i; functions = is.functions_are i; threads = is.threads_are i } in
    subst IsWellFormedPlan (sym same) (well_formed (plain_tree tree) accepted (tree_fits tree.items has.0 has.2) (are-words (plain_tree tree) (names_of_text text tree has)))
