-- Rows that are made one after another.
use Rattle.std.proofs.Common.{◌≡◌, ◌≢◌, ℕ, suc, ◌+◌, ◌-◌, ◌<◌, ◌≤◌, Bool, true, false, List, [], ◌∷◌, ◌++◌, map, filter, drop, length, Option, Some, None, refl, sym, ◌∙◌, ap, arith, append_assoc, add-one, length-append, not, ℤ, take}
use Rattle.std.proofs.lemmas.List.{length-map, map-append}
use Rattle.std.specs.Prelude.{◌==◌, ◌||◌, slice_get, cond}
use Rattle.std.proofs.lemmas.Bool.{ne_eqb}
use Rattle.std.specs.List.{range_with_len, list_any}
use Rattle.std.proofs.lemmas.List.Elements.{filter-append}
use Rattle.lin_rows.specs.Row.{Row}
use Rattle.lin_rows.specs.System.{System, with_row, with_rows}
use Rattle.transition_formula.specs.Program.{Column}
use Rattle.transition_formula.specs.Rows.{start_row, start_rows, is_kept}
use Rattle.transition_formula.specs.Stored.{edge_of, set_of}
use Rattle.transition_formula.specs.declared.graph.Line.{Line}
use Rattle.transition_formula.specs.declared.graph.Edge.{Edge as StoredEdge}
use Rattle.transition_formula.proofs.Lookups.{drop-slice_get, take-slice_get}

-- ---- kept columns
-- A column is set by what is stored exactly where it is set by what that stands for.
list_any-set_of : (c : ℕ) (sets : List (ℕ × Line)) → list_any (λ set. set.0 == c) (map set_of sets) ≡ list_any (λ set. set.0 == c) sets
list_any-set_of c [] = refl
list_any-set_of c (set ∷ sets) = ap (λ b. (set.0 == c) || b) (list_any-set_of c sets)

-- A column other than the counter is kept where no set is found.
pub is_kept-other : (counter : ℕ) (edge : StoredEdge) (c : ℕ) (found : Bool) → c ≢ counter → found ≡ list_any (λ set. set.0 == c) edge.sets.items → not found ≡ is_kept counter (edge_of edge) c
is_kept-other counter edge c found other is =
    let apart : (c == counter) ≡ false = ne_eqb c counter other in
    rw apart (ap not (is ∙ sym (list_any-set_of c edge.sets.items)))

-- With one more column looked at, those that are left make the same whole.
pub kept-next : (f : ℕ → Row) (p : ℕ → Bool) (done more total : List Row) (c n : ℕ) → c < n → more ≡ done ++ map f (filter p (c ∷ []))
    → done ++ map f (filter p (range_with_len c (n - c))) ≡ total → more ++ map f (filter p (range_with_len (c + 1) (n - (c + 1)))) ≡ total
kept-next f p done more total c n below is made =
    let rest = range_with_len (c + 1) (n - (c + 1)) in
    let left : n - c ≡ suc (n - (c + 1)) = omega arith in
    let whole : map f (filter p (c ∷ rest)) ≡ map f (filter p (c ∷ [])) ++ map f (filter p rest) = ap (map f) (filter-append p (c ∷ []) rest) ∙ map-append f (filter p (c ∷ [])) (filter p rest) in
    ap (λ l. l ++ map f (filter p rest)) is
    ∙ append_assoc done (map f (filter p (c ∷ []))) (map f (filter p rest))
    ∙ ap (λ l. done ++ l) (sym whole)
    ∙ ap (λ k. done ++ map f (filter p (range_with_len c k))) (sym left)
    ∙ made

-- A column adds one row at most.
at_most_one : (f : ℕ → Row) (b : Bool) (c : ℕ) → length (map f (cond b (c ∷ []) [])) ≤ 1
at_most_one f true c = omega arith
at_most_one f false c = omega arith

-- The rows of kept columns are no more than the columns looked at.
pub kept-room : (f : ℕ → Row) (p : ℕ → Bool) (done more : List Row) (c n : ℕ) → more ≡ done ++ map f (filter p (c ∷ [])) → length done ≤ n + c → length more ≤ n + (c + 1)
kept-room f p done more c n is room = omega (arith, ap length is, length-append done (map f (filter p (c ∷ []))), at_most_one f (p c) c)

-- ---- starts
-- The row of a start stands in front of the others.
pub start_row-before : (w c : ℕ) (start : Option ℤ) (rows : List Row) → start_row w c start rows ≡ start_row w c start [] ++ rows
start_row-before w c None rows = refl
start_row-before w c (Some v) rows = refl

-- With one more start, those that are left make the same whole.
pub start-next : (w : ℕ) (columns : List Column) (c : ℕ) (column : Column) (done more total : List Row) → slice_get columns c ≡ Some column → more ≡ done ++ start_row w c column.start []
    → done ++ start_rows w c (drop c columns) ≡ total → more ++ start_rows w (c + 1) (drop (c + 1) columns) ≡ total
start-next w columns c column done more total at is made =
    let rest = start_rows w (suc c) (drop (suc c) columns) in
    rw (add-one c) (
    ap (λ l. l ++ rest) is
    ∙ append_assoc done (start_row w c column.start []) rest
    ∙ ap (λ l. done ++ l) (sym (start_row-before w c column.start rest))
    ∙ ap (λ (l : List Column). done ++ start_rows w c l) (sym (drop-slice_get columns c column at))
    ∙ made
    )

-- A start adds one row at most.
one_start : (w c : ℕ) (start : Option ℤ) → length (start_row w c start []) ≤ 1
one_start w c None = omega arith
one_start w c (Some v) = omega arith

-- The rows of starts are no more than the columns looked at.
pub start-room : (w c : ℕ) (start : Option ℤ) (done more : List Row) → more ≡ done ++ start_row w c start [] → length done ≤ c → length more ≤ c + 1
start-room w c start done more is room = omega (arith, ap length is, length-append done (start_row w c start []), one_start w c start)

-- ---- tests
-- With one more row, the first k + 1 rows are appended.
pub test-next : {A : Type 0} (f : A → Row) (initial now more : System) (xs : List A) (k : ℕ) (x : A) → slice_get xs k ≡ Some x → now ≡ with_rows initial (map f (take k xs))
    → more ≡ with_row now (f x) → more ≡ with_rows initial (map f (take (k + 1) xs))
test-next f initial now more xs k x at made is =
    let rows : (initial.rows ++ map f (take k xs)) ++ f x ∷ [] ≡ initial.rows ++ map f (take (k + 1) xs) =
    append_assoc initial.rows (map f (take k xs)) (f x ∷ [])
    ∙ ap (λ l. initial.rows ++ l) (sym (map-append f (take k xs) (x ∷ [])))
    ∙ ap (λ l. initial.rows ++ map f l) (sym (take-slice_get xs k x at)) in
    is ∙ ap (λ system. with_row system (f x)) made ∙ ap (λ l. record { columns = initial.columns; rows = l }) rows

-- ---- how many
-- Appended rows are counted.
pub length-with_rows : {A : Type 0} (f : A → Row) (now more : System) (xs : List A) → more ≡ with_rows now (map f xs) → length more.rows ≡ length now.rows + length xs
length-with_rows f now more xs is = omega (arith, ap (λ system. length system.rows) is, length-append now.rows (map f xs), length-map xs f)
