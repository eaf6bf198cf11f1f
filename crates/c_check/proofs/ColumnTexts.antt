-- The columns of a text have the texts that their owners ask for.
use Rattle.std.proofs.Common.{◌≡◌, ℕ, zero, suc, ◌+◌, ◌<◌, ◌≤◌, pos, List, [], ◌∷◌, ◌++◌, map, length, filter, slice_get, length-append, Option, Some, None, codes, refl, ap, arith}
use Rattle.std.specs.Prelude.{bytes_eq}
use Rattle.std.specs.List.{AllByRecursion}
use Rattle.std.specs.Option.{option_map}
use Rattle.std.proofs.lemmas.List.{length_push}
use Rattle.std.proofs.lemmas.List.Sums.{count_by-le-length, length-filter}
use Rattle.c_check.proofs.Lists.{AllByRecursion-append, AllByRecursion-map, AllByRecursion-slice_get}
use Rattle.thr_base.specs.Limits.{most_columns}
use Rattle.thr_base.specs.Number.{number_text}
use Rattle.thr_base.specs.declared.names.ThreadNo.{ThreadNo}
use Rattle.thr_base.specs.ColumnText.{IsOwnName, IsColumnText, IsThreadNumber, counter, declared_again, local, temporary, variable}
use Rattle.c_tree.specs.declared.expr.Name.{Name}
use Rattle.c_tree.specs.Plain as plain
use Rattle.c_check.specs.declared.columns.OwnVariables.{OwnVariables}
use Rattle.c_check.specs.declared.plan.Column as stored
use Rattle.c_check.specs.Program.{Function, created_of, functions_of, globals_in, locks_in}
use Rattle.c_check.specs.Columns.{columns_if, columns_of, counters_from, local_columns, local_name, lock_column, own_columns_from, own_variables, owns_of, shared_columns, temporary_columns, thread_columns, variable_column}
use Rattle.c_check.specs.inside.Words.{AreWords, IsWord}

-- ---- how many
-- as many columns as locals
pub length-local_columns : (i : ThreadNo) (earlier names : List (List ℕ)) → length (local_columns i earlier names) ≡ length names
length-local_columns i earlier [] = refl
length-local_columns i earlier (x ∷ xs) = ap suc (length-local_columns i (earlier ++ x ∷ []) xs)

-- as many columns as temporaries
pub length-temporary_columns : (i : ThreadNo) (earlier n : ℕ) → length (temporary_columns i earlier n) ≡ n
length-temporary_columns i earlier zero = refl
length-temporary_columns i earlier (suc n) = ap suc (length-temporary_columns i (earlier + 1) n)

-- as many counters as threads
pub length-counters : (i : ℕ) (ns : List ℕ) → length (counters_from i ns) ≡ length ns
length-counters i [] = refl
length-counters i (n ∷ ns) = ap suc (length-counters (i + 1) ns)

-- a name is declared no more often than there are declarations
pub declared-few : (name : List ℕ) (earlier : List (List ℕ)) → length (filter (bytes_eq name) earlier) ≤ length earlier
declared-few name earlier = omega (arith, length-filter (bytes_eq name) earlier, count_by-le-length (bytes_eq name) earlier)

-- The names of the locals are words.
abbrev pub HasWords : OwnVariables → Type 0
HasWords own = AllByRecursion IsWord own.locals

-- the locals of all functions are words
pub owns-words : (tree : plain.Tree) → AreWords tree → AllByRecursion HasWords (owns_of tree)
owns-words tree words =
    AllByRecursion-map (λ (f : Function). AllByRecursion (λ (l : plain.Local). IsWord l.name.text) f.locals) HasWords own_variables
    (λ f h. AllByRecursion-map (λ (l : plain.Local). IsWord l.name.text) IsWord (λ (l : plain.Local). l.name.text) (λ l k. k) f.locals h) (functions_of tree) words.locals

-- ---- texts
-- The column has a text that its owner asks for.
abbrev pub TextIs : ℕ → stored.Column → Type 0
TextIs threads c = IsColumnText threads (option_map (λ i. i.0) c.owner) c.text

-- the name of a local is one
local_name-is : (k : ℕ) (name : List ℕ) → IsWord name → k ≤ most_columns → IsOwnName (local_name k name)
local_name-is zero name is few = local name is
local_name-is (suc k) name is few = declared_again name (k + 2) is (omega arith) (omega arith)

-- locals have their texts
local_columns-texts : (threads : ℕ) (i : ThreadNo) (earlier names : List (List ℕ)) → IsThreadNumber threads i.0 → AllByRecursion IsWord names
    → length earlier + length names ≤ most_columns → AllByRecursion (TextIs threads) (local_columns i earlier names)
local_columns-texts threads i earlier [] is words few = tt
local_columns-texts threads i earlier (name ∷ names) is words few =
    let k = length (filter (bytes_eq name) earlier) in (
      record { thread_is = is; name = local_name k name; name_is = local_name-is k name words.0 (omega (arith, declared-few name earlier, few)); text_is = refl },
      local_columns-texts threads i (earlier ++ name ∷ []) names is words.1 (omega (arith, length_push earlier name, few)),
    )

-- temporaries have their texts
temporary_columns-texts : (threads : ℕ) (i : ThreadNo) (earlier n : ℕ) → IsThreadNumber threads i.0 → earlier + n ≤ most_columns
    → AllByRecursion (TextIs threads) (temporary_columns i earlier n)
temporary_columns-texts threads i earlier zero is few = tt
temporary_columns-texts threads i earlier (suc n) is few = (
  record { thread_is = is; name = codes "$" ++ number_text (pos (earlier + 1)); name_is = temporary (earlier + 1) (omega arith) (omega (arith, few)); text_is = refl },
  temporary_columns-texts threads i (earlier + 1) n is (omega (arith, few)),
)

-- what is a thread's own has its texts
own-texts : (threads : ℕ) (i : ThreadNo) (own : OwnVariables) → IsThreadNumber threads i.0 → HasWords own → length (thread_columns i own) ≤ most_columns
    → AllByRecursion (TextIs threads) (thread_columns i own)
own-texts threads i own is words few =
    let sum = length-append (local_columns i [] own.locals) (temporary_columns i 0 own.temporaries) in
    let locals = length-local_columns i [] own.locals in
    let temporaries = length-temporary_columns i 0 own.temporaries in
    AllByRecursion-append (TextIs threads) (local_columns i [] own.locals) (temporary_columns i 0 own.temporaries)
    (local_columns-texts threads i [] own.locals is words (omega arith)) (temporary_columns-texts threads i 0 own.temporaries is (omega arith))

-- and so by the number of its function
columns_if-texts : (threads : ℕ) (i : ThreadNo) (owns : List OwnVariables) (n : ℕ) (own : Option OwnVariables) → slice_get owns n ≡ own → IsThreadNumber threads i.0
    → AllByRecursion HasWords owns → length (columns_if i own) ≤ most_columns → AllByRecursion (TextIs threads) (columns_if i own)
columns_if-texts threads i owns n None e is words few = tt
columns_if-texts threads i owns n (Some own) e is words few = own-texts threads i own is (AllByRecursion-slice_get HasWords owns n own words e) few

-- and so for all threads
own_columns-texts : (threads : ℕ) (owns : List OwnVariables) (i : ℕ) (ns : List ℕ) → AllByRecursion HasWords owns → 0 < i → i + length ns ≤ threads + 1
    → length (own_columns_from owns i ns) ≤ most_columns → AllByRecursion (TextIs threads) (own_columns_from owns i ns)
own_columns-texts threads owns i [] words some fits few = tt
own_columns-texts threads owns i (n ∷ ns) words some fits few =
    let number : ThreadNo = record { 0 = i } in
    let own = columns_if number (slice_get owns n) in
    let more = own_columns_from owns (i + 1) ns in
    let sum = length-append own more in
    AllByRecursion-append (TextIs threads) own more
    (columns_if-texts threads number owns n (slice_get owns n) refl (some, omega (arith, fits)) words (omega (arith, few)))
    (own_columns-texts threads owns (i + 1) ns words (omega arith) (omega (arith, fits)) (omega (arith, few)))

-- counters have their texts
counters-texts : (threads i : ℕ) (ns : List ℕ) → 0 < i → i + length ns ≤ threads + 1 → AllByRecursion (TextIs threads) (counters_from i ns)
counters-texts threads i [] some fits = tt
counters-texts threads i (n ∷ ns) some fits =
    (record { thread_is = (some, omega (arith, fits)); name = codes "$pc"; name_is = counter; text_is = refl }, counters-texts threads (i + 1) ns (omega arith) (omega (arith, fits)))

-- the columns of variables and locks have words
pub shared-words : (tree : plain.Tree) → AreWords tree → AllByRecursion (λ (c : stored.Column). IsWord c.text) (shared_columns tree)
shared-words tree words =
    AllByRecursion-append (λ (c : stored.Column). IsWord c.text) (map variable_column (globals_in tree.items)) (map lock_column (locks_in tree.items))
    (AllByRecursion-map (λ (g : plain.Global). IsWord g.name.text) (λ (c : stored.Column). IsWord c.text) variable_column (λ g k. k) (globals_in tree.items) words.globals)
    (AllByRecursion-map (λ (x : Name). IsWord x.text) (λ (c : stored.Column). IsWord c.text) lock_column (λ x k. k) (locks_in tree.items) words.locks)

-- variables and locks have their texts
shared-texts : (threads : ℕ) (tree : plain.Tree) → AreWords tree → AllByRecursion (TextIs threads) (shared_columns tree)
shared-texts threads tree words =
    AllByRecursion-append (TextIs threads) (map variable_column (globals_in tree.items)) (map lock_column (locks_in tree.items))
    (AllByRecursion-map (λ (g : plain.Global). IsWord g.name.text) (TextIs threads) variable_column (λ g k. variable g.name.text k) (globals_in tree.items) words.globals)
    (AllByRecursion-map (λ (x : Name). IsWord x.text) (TextIs threads) lock_column (λ x k. variable x.text k) (locks_in tree.items) words.locks)

-- The columns of a text have their texts, where they are few.
pub columns-texts : (tree : plain.Tree) → AreWords tree → length (columns_of tree) ≤ most_columns → AllByRecursion (TextIs (length (created_of tree))) (columns_of tree)
columns-texts tree words few =
    let threads : ℕ = length (created_of tree) in
    let own = own_columns_from (owns_of tree) 1 (created_of tree) in
    let counters = counters_from 1 (created_of tree) in
    let sum = length-append (shared_columns tree) (own ++ counters) in
    let more = length-append own counters in
    AllByRecursion-append (TextIs threads) (shared_columns tree) (own ++ counters) (shared-texts threads tree words)
    (AllByRecursion-append (TextIs threads) own counters
    (own_columns-texts threads (owns_of tree) 1 (created_of tree) (owns-words tree words) (omega arith) (omega arith) (omega arith))
    (counters-texts threads 1 (created_of tree) (omega arith) (omega arith)))
