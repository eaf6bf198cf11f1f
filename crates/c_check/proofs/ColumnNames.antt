-- The texts of the columns of a text differ.
use Rattle.std.proofs.Common.{◌≡◌, ◌≢◌, ℕ, zero, suc, ◌+◌, ◌<◌, ◌≤◌, pos, Bool, true, cond, List, [], ◌∷◌, ◌++◌, map, length, filter, slice_get, length-append, Option, Some, None, codes, refl, sym, ap, ◌∙◌, arith}
use Rattle.std.specs.Prelude.{bytes_eq}
use Rattle.std.specs.List.{AllByRecursion, AllPairs}
use Rattle.std.proofs.lemmas.List.{length_push}
use Rattle.std.proofs.lemmas.List.Elements.{filter-append}
use Rattle.std.proofs.lemmas.Slice.Eq.{bytes_eq-Decides}
use Rattle.thr_base.specs.Limits.{most_columns, most_threads}
use Rattle.thr_base.specs.Number.{number_text}
use Rattle.thr_base.specs.declared.names.ThreadNo.{ThreadNo}
use Rattle.thr_base.specs.ColumnText.{own_text}
use Rattle.c_tree.specs.Plain as plain
use Rattle.c_check.specs.declared.columns.OwnVariables.{OwnVariables}
use Rattle.c_check.specs.declared.plan.Column.{Column}
use Rattle.c_check.specs.Program.{broken_in, created_of, globals_in, locks_in}
use Rattle.c_check.specs.Columns.{columns_if, columns_of, counters_from, local_columns, local_name, lock_column, own_columns_from, owns_of, shared_columns, temporary_columns, thread_columns, variable_column}
use Rattle.c_check.specs.inside.Words.{AreWords, IsWord}
use Rattle.c_check.proofs.Declared.{names-differ}
use Rattle.c_check.proofs.Lists.{AllByRecursion-append, AllByRecursion-slice_get, AllByRecursion-weaken, Apart, apart-append, apart-from, apart-map, apart-pairs, apart_from-map}
use Rattle.c_check.proofs.OwnNames.{local_name-differs, local_name-same, own_text-same, temporary-counter, temporary-same, word-own_text}
use Rattle.c_check.proofs.ColumnTexts.{HasWords, declared-few, length-local_columns, length-temporary_columns, owns-words, shared-words}

abbrev text_of : Column → List ℕ
text_of c = c.text

-- ---- what a thread has of its own
-- a local of thread i, by how often its name was declared before
record IsLocal (i : ℕ) (c : Column) : Type 0 where
  earlier : ℕ
  name : List ℕ
  few : earlier ≤ most_columns
  word : IsWord name
  text_is : c.text ≡ own_text i (local_name earlier name)

record IsTemporary (i : ℕ) (c : Column) : Type 0 where
  number : ℕ
  few : number ≤ most_columns
  text_is : c.text ≡ own_text i (codes "$" ++ number_text (pos number))

-- a column of one of these threads' own that is no counter
record IsOwn (low high : ℕ) (c : Column) : Type 0 where
  thread : ℕ
  at_least : low ≤ thread
  at_most : thread ≤ high
  name : List ℕ
  text_is : c.text ≡ own_text thread name
  other : name ≢ codes "$pc"

record IsCounter (low high : ℕ) (c : Column) : Type 0 where
  thread : ℕ
  at_least : low ≤ thread
  at_most : thread ≤ high
  text_is : c.text ≡ own_text thread (codes "$pc")

-- the columns of locals are such
locals-are : (i : ThreadNo) (earlier names : List (List ℕ)) → AllByRecursion IsWord names → length earlier + length names ≤ most_columns
    → AllByRecursion (IsLocal i.0) (local_columns i earlier names)
locals-are i earlier [] words few = tt
locals-are i earlier (name ∷ names) words few = (
  record { earlier = length (filter (bytes_eq name) earlier); name = name; few = omega (arith, declared-few name earlier, few); word = words.0; text_is = refl },
  locals-are i (earlier ++ name ∷ []) names words.1 (omega (arith, length_push earlier name, few)),
)

-- the columns of temporaries are such
temporaries-are : (i : ThreadNo) (earlier n : ℕ) → earlier + n ≤ most_columns → AllByRecursion (IsTemporary i.0) (temporary_columns i earlier n)
temporaries-are i earlier zero few = tt
temporaries-are i earlier (suc n) few =
    (record { number = earlier + 1; few = omega (arith, few); text_is = refl }, temporaries-are i (earlier + 1) n (omega (arith, few)))

-- ---- locals among each other
-- a name more is counted
count-push : (p : List ℕ → Bool) (xs : List (List ℕ)) (x : List ℕ) → length (filter p (xs ++ x ∷ [])) ≡ length (filter p xs) + length (filter p (x ∷ []))
count-push p xs x = ap length (filter-append p xs (x ∷ [])) ∙ length-append (filter p xs) (filter p (x ∷ []))

-- a name is counted behind itself
count-own : (xs : List (List ℕ)) (x : List ℕ) → length (filter (bytes_eq x) (xs ++ x ∷ [])) ≡ length (filter (bytes_eq x) xs) + 1
count-own xs x =
    let same : bytes_eq x x ≡ true = (bytes_eq-Decides x x).1 refl in
    let one : length (filter (bytes_eq x) (x ∷ [])) ≡ 1 = ap (λ b. length (cond b (x ∷ []) [])) same in
    omega (arith, count-push (bytes_eq x) xs x)

-- a local differs from all later ones
later-locals : (i : ThreadNo) (k : ℕ) (name : List ℕ) (earlier names : List (List ℕ)) → i.0 ≤ most_threads → IsWord name → AllByRecursion IsWord names
    → length earlier + length names ≤ most_columns → k < length (filter (bytes_eq name) earlier)
    → AllByRecursion (λ c. own_text i.0 (local_name k name) ≢ c.text) (local_columns i earlier names)
later-locals i k name earlier [] low is words few before = tt
later-locals i k name earlier (x ∷ names) low is words few before =
    let count = length (filter (bytes_eq x) earlier) in
    let long = length_push earlier x in (
      λ e.
          let parts = own_text-same i.0 i.0 (local_name k name) (local_name count x) (omega arith) (omega arith) e in
          let both = local_name-same k count name x (omega (arith, declared-few name earlier, few)) (omega (arith, declared-few x earlier, few)) is words.0 parts.1 in
          let again : length (filter (bytes_eq name) earlier) ≡ count = ap (λ y. length (filter (bytes_eq y) earlier)) both.0 in
          omega (arith, both.1, again, before),
      later-locals i k name (earlier ++ x ∷ []) names low is words.1 (omega arith) (omega (arith, count-push (bytes_eq name) earlier x, before)),
    )

-- the locals of a thread differ
locals-apart : (i : ThreadNo) (earlier names : List (List ℕ)) → i.0 ≤ most_threads → AllByRecursion IsWord names → length earlier + length names ≤ most_columns
    → Apart text_of (local_columns i earlier names)
locals-apart i earlier [] low words few = tt
locals-apart i earlier (name ∷ names) low words few =
    let k : ℕ = length (filter (bytes_eq name) earlier) in
    let long = length_push earlier name in (
      later-locals i k name (earlier ++ name ∷ []) names low words.0 words.1 (omega arith) (omega (arith, count-own earlier name)),
      locals-apart i (earlier ++ name ∷ []) names low words.1 (omega arith),
    )

-- ---- temporaries among each other
-- a temporary differs from all later ones
later-temporaries : (i : ThreadNo) (m earlier n : ℕ) → i.0 ≤ most_threads → m ≤ earlier → earlier + n ≤ most_columns
    → AllByRecursion (λ c. own_text i.0 (codes "$" ++ number_text (pos m)) ≢ c.text) (temporary_columns i earlier n)
later-temporaries i m earlier zero low before few = tt
later-temporaries i m earlier (suc n) low before few = (
  λ e.
      let parts = own_text-same i.0 i.0 (codes "$" ++ number_text (pos m)) (codes "$" ++ number_text (pos (earlier + 1))) (omega arith) (omega arith) e in
      let same = temporary-same m (earlier + 1) (omega (arith, before, few)) (omega (arith, few)) parts.1 in
      omega (arith, same, before),
  later-temporaries i m (earlier + 1) n low (omega (arith, before)) (omega (arith, few)),
)

-- the temporaries of a thread differ
temporaries-apart : (i : ThreadNo) (earlier n : ℕ) → i.0 ≤ most_threads → earlier + n ≤ most_columns → Apart text_of (temporary_columns i earlier n)
temporaries-apart i earlier zero low few = tt
temporaries-apart i earlier (suc n) low few = (later-temporaries i (earlier + 1) (earlier + 1) n low (omega arith) (omega (arith, few)), temporaries-apart i (earlier + 1) n low (omega (arith, few)))

-- ---- a thread
-- a local is no temporary
local-temporary : (i : ℕ) (c d : Column) → i ≤ most_threads → IsLocal i c → IsTemporary i d → c.text ≢ d.text
local-temporary i c d low l t e =
    let parts = own_text-same i i (local_name l.earlier l.name) (codes "$" ++ number_text (pos t.number)) (omega arith) (omega arith) (sym l.text_is ∙ e ∙ t.text_is) in
    local_name-differs l.earlier l.name (number_text (pos t.number)) l.word parts.1

-- The columns of a thread's own differ, and none is a counter.
record AreOwn (low high : ℕ) (columns : List Column) : Type 0 where
  are : AllByRecursion (IsOwn low high) columns
  apart : Apart text_of columns

-- what is a thread's own differs
thread-own : (i : ThreadNo) (own : OwnVariables) → i.0 ≤ most_threads → HasWords own → length (thread_columns i own) ≤ most_columns → AreOwn i.0 i.0 (thread_columns i own)
thread-own i own low words few =
    let xs = local_columns i [] own.locals in
    let ys = temporary_columns i 0 own.temporaries in
    let sum = length-append xs ys in
    let locals = length-local_columns i [] own.locals in
    let temporaries = length-temporary_columns i 0 own.temporaries in
    let ls = locals-are i [] own.locals words (omega arith) in
    let ts = temporaries-are i 0 own.temporaries (omega arith) in
    record {
      are = AllByRecursion-append (IsOwn i.0 i.0) xs ys
          (AllByRecursion-weaken (IsLocal i.0) (IsOwn i.0 i.0) (λ c l. record {
            thread = i.0;
            at_least = omega arith;
            at_most = omega arith;
            name = local_name l.earlier l.name;
            text_is = l.text_is;
            other = local_name-differs l.earlier l.name (codes "pc") l.word;
          }) xs ls)
          (AllByRecursion-weaken (IsTemporary i.0) (IsOwn i.0 i.0) (λ c t. record {
            thread = i.0;
            at_least = omega arith;
            at_most = omega arith;
            name = codes "$" ++ number_text (pos t.number);
            text_is = t.text_is;
            other = temporary-counter t.number (omega (arith, t.few));
          }) ys ts);
      apart = apart-append text_of xs ys (locals-apart i [] own.locals low words (omega arith)) (temporaries-apart i 0 own.temporaries low (omega arith))
          (apart-from text_of text_of (IsLocal i.0) (IsTemporary i.0) xs ys (λ c d l t. local-temporary i.0 c d low l t) ls ts);
    }

-- and so by the number of its function
columns_if-own : (i : ThreadNo) (owns : List OwnVariables) (n : ℕ) (own : Option OwnVariables) → slice_get owns n ≡ own → i.0 ≤ most_threads → AllByRecursion HasWords owns
    → length (columns_if i own) ≤ most_columns → AreOwn i.0 i.0 (columns_if i own)
columns_if-own i owns n None e low words few = record { are = tt; apart = tt }
columns_if-own i owns n (Some own) e low words few = thread-own i own low (AllByRecursion-slice_get HasWords owns n own words e) few

-- ---- threads among each other
-- a column of these threads is one of more threads
own-wider : (low high from to : ℕ) (columns : List Column) → from ≤ low → high ≤ to → AllByRecursion (IsOwn low high) columns → AllByRecursion (IsOwn from to) columns
own-wider low high from to columns p q all =
    AllByRecursion-weaken (IsOwn low high) (IsOwn from to)
    (λ c h. record { thread = h.thread; at_least = omega (arith, h.at_least, p); at_most = omega (arith, h.at_most, q); name = h.name; text_is = h.text_is; other = h.other }) columns all

-- what is a thread's own is no later thread's
own-own : (low middle high : ℕ) (c d : Column) → high ≤ most_threads → middle < low → low ≤ high → IsOwn middle middle c → IsOwn low high d → c.text ≢ d.text
own-own low middle high c d few p q a b e =
    let parts = own_text-same a.thread b.thread a.name b.name (omega (arith, a.at_most)) (omega (arith, b.at_most)) (sym a.text_is ∙ e ∙ b.text_is) in
    omega (arith, parts.0, a.at_most, b.at_least)

-- what is the threads' own differs
own_columns-own : (high : ℕ) (owns : List OwnVariables) (i : ℕ) (ns : List ℕ) → AllByRecursion HasWords owns → high ≤ most_threads → i + length ns ≤ high + 1
    → length (own_columns_from owns i ns) ≤ most_columns → AreOwn i high (own_columns_from owns i ns)
own_columns-own high owns i [] words few fits short = record { are = tt; apart = tt }
own_columns-own high owns i (n ∷ ns) words few fits short =
    let number : ThreadNo = record { 0 = i } in
    let own = columns_if number (slice_get owns n) in
    let more = own_columns_from owns (i + 1) ns in
    let sum = length-append own more in
    let here = columns_if-own number owns n (slice_get owns n) refl (omega (arith, fits)) words (omega arith) in
    let later = own_columns-own high owns (i + 1) ns words few (omega (arith, fits)) (omega arith) in
    record {
      are = AllByRecursion-append (IsOwn i high) own more (own-wider i i i high own (omega arith) (omega (arith, fits)) here.are)
          (own-wider (i + 1) high i high more (omega arith) (omega arith) later.are);
      apart = apart-append text_of own more here.apart later.apart
          (apart-from text_of text_of (IsOwn i i) (IsOwn (i + 1) high) own more
          (λ c d a b. own-own (i + 1) i high c d few (omega arith) (omega (arith, b.at_least, b.at_most)) a b) here.are later.are);
    }

-- ---- counters
-- the columns of counters are such
counters-are : (high i : ℕ) (ns : List ℕ) → i + length ns ≤ high + 1 → AllByRecursion (IsCounter i high) (counters_from i ns)
counters-are high i [] fits = tt
counters-are high i (n ∷ ns) fits = (
  record { thread = i; at_least = omega arith; at_most = omega (arith, fits); text_is = refl },
  AllByRecursion-weaken (IsCounter (i + 1) high) (IsCounter i high) (λ c h. record { thread = h.thread; at_least = omega (arith, h.at_least); at_most = h.at_most; text_is = h.text_is })
      (counters_from (i + 1) ns) (counters-are high (i + 1) ns (omega (arith, fits))),
)

-- the counters differ
counters-apart : (high i : ℕ) (ns : List ℕ) → high ≤ most_threads → i + length ns ≤ high + 1 → Apart text_of (counters_from i ns)
counters-apart high i [] few fits = tt
counters-apart high i (n ∷ ns) few fits = (
  AllByRecursion-weaken (IsCounter (i + 1) high) (λ c. own_text i (codes "$pc") ≢ c.text)
      (λ c h e.
      let parts = own_text-same i h.thread (codes "$pc") (codes "$pc") (omega (arith, fits, few)) (omega (arith, h.at_most, few)) (e ∙ h.text_is) in
      omega (arith, parts.0, h.at_least))
      (counters_from (i + 1) ns) (counters-are high (i + 1) ns (omega (arith, fits))),
  counters-apart high (i + 1) ns few (omega (arith, fits)),
)

-- nothing else of a thread's own is a counter
own-counter : (high : ℕ) (c d : Column) → high ≤ most_threads → IsOwn 1 high c → IsCounter 1 high d → c.text ≢ d.text
own-counter high c d few a b e =
    let parts = own_text-same a.thread b.thread a.name (codes "$pc") (omega (arith, a.at_most, few)) (omega (arith, b.at_most, few)) (sym a.text_is ∙ e ∙ b.text_is) in
    a.other parts.1

-- ---- all columns
-- the variables and locks differ
shared-apart : (tree : plain.Tree) → broken_in tree ≡ [] → Apart text_of (shared_columns tree)
shared-apart tree none =
    let names = names-differ tree none in
    apart-append text_of (map variable_column (globals_in tree.items)) (map lock_column (locks_in tree.items))
    (apart-map text_of variable_column (globals_in tree.items) names.globals) (apart-map text_of lock_column (locks_in tree.items) names.locks)
    (apart_from-map text_of text_of variable_column lock_column (globals_in tree.items) (locks_in tree.items) names.cross)

-- all columns differ
columns-apart : (tree : plain.Tree) → broken_in tree ≡ [] → AreWords tree → length (created_of tree) ≤ most_threads → length (columns_of tree) ≤ most_columns
    → Apart text_of (columns_of tree)
columns-apart tree none words few short =
    let high : ℕ = length (created_of tree) in
    let shared = shared_columns tree in
    let own = own_columns_from (owns_of tree) 1 (created_of tree) in
    let counters = counters_from 1 (created_of tree) in
    let sum = length-append shared (own ++ counters) in
    let more = length-append own counters in
    let owned = own_columns-own high (owns_of tree) 1 (created_of tree) (owns-words tree words) few (omega arith) (omega arith) in
    let counted = counters-are high 1 (created_of tree) (omega arith) in
    apart-append text_of shared (own ++ counters) (shared-apart tree none)
    (apart-append text_of own counters owned.apart (counters-apart high 1 (created_of tree) few (omega arith))
    (apart-from text_of text_of (IsOwn 1 high) (IsCounter 1 high) own counters (λ c d a b. own-counter high c d few a b) owned.are counted))
    (AllByRecursion-weaken (λ (c : Column). IsWord c.text) (λ c. AllByRecursion (λ d. text_of c ≢ text_of d) (own ++ counters))
    (λ c word. AllByRecursion-append (λ d. text_of c ≢ text_of d) own counters
    (AllByRecursion-weaken (IsOwn 1 high) (λ d. text_of c ≢ text_of d) (λ d h e. word-own_text c.text h.thread h.name word (e ∙ h.text_is)) own owned.are)
    (AllByRecursion-weaken (IsCounter 1 high) (λ d. text_of c ≢ text_of d) (λ d h e. word-own_text c.text h.thread (codes "$pc") word (e ∙ h.text_is)) counters counted))
    shared (shared-words tree words))

-- The texts of the columns differ.
pub columns-differ : (tree : plain.Tree) → broken_in tree ≡ [] → AreWords tree → length (created_of tree) ≤ most_threads → length (columns_of tree) ≤ most_columns
    → AllPairs (λ a b. a ≢ b) (map (λ (c : Column). c.text) (columns_of tree))
columns-differ tree none words few short =
    apart-pairs (map (λ (c : Column). c.text) (columns_of tree)) (apart-map (λ x. x) (λ (c : Column). c.text) (columns_of tree) (columns-apart tree none words few short))
