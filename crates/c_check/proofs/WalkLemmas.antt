-- What is found of items, one after another.
use Rattle.std.proofs.Common.{◌≡◌, ℕ, ◌+◌, ◌<◌, Bool, true, false, not, List, [], ◌∷◌, ◌++◌, length, map, drop, get_or, Option, Some, None, is_some, if◌then◌else◌, refl, sym, ap, subst, ◌∙◌, add-one, length-append, append_assoc, drop-cons}
use Rattle.std.proofs.lemmas.List.{append-nil, length-map, map-append}
use Rattle.std.specs.Option.{option_or, unwrap_or}
use Rattle.thr_base.specs.declared.stops.Refusal.{Refusal}
use Rattle.thr_base.specs.Refusals.{bad_main}
use Rattle.c_tree.specs.declared.expr.Name.{Name}
use Rattle.c_tree.specs.declared.item.Gname.{Gname}
use Rattle.c_tree.specs.declared.item.Mname.{Mname}
use Rattle.c_tree.specs.Plain as plain
use Rattle.c_tree.specs.Seen.{plain_gname}
use Rattle.c_check.specs.declared.items.Walk.{Walk}
use Rattle.c_check.specs.declared.meaning.Variable.TheVariants as variable
use Rattle.c_check.specs.declared.meaning.Meaning.TheVariants as meaning
use Rattle.c_check.specs.Scope.{declare}
use Rattle.c_check.specs.Broken.{broken_if, twice}
use Rattle.c_check.specs.Check.{stored_function}
use Rattle.c_check.specs.Columns.{lock_column, own_variables, variable_column}
use Rattle.c_check.specs.Program.{first_next, functions_in, globals_broken, globals_in, item_broken, items_broken, locks_broken, locks_in, past_item, with_globals, with_locks}
use Rattle.c_check.specs.First.{earlier, first_of}
use Rattle.c_check.specs.inside.Walked.{IsSoFar, IsWalked, first_walk, item_functions, next_of, with_item, with_refusal}
use Rattle.c_check.proofs.FirstOf.{earlier-earlier, earlier-none, first_of-append}

pub drop_at : {X : Type 0} (xs : List X) (k : ℕ) (d : X) → k < length xs → drop k xs ≡ get_or xs k d ∷ drop (k + 1) xs
drop_at xs k d within = rw add-one (drop-cons xs k d within)

-- of two lists of refusals, one behind the other
pub refused-append : (r : Option Refusal) (ds es : List Refusal) → earlier (earlier r (first_of ds)) (first_of es) ≡ earlier r (first_of (ds ++ es))
refused-append r ds es = sym (earlier-earlier r (first_of ds) (first_of es)) ∙ ap (earlier r) (sym (first_of-append ds es))

-- ---- variables and locks, one after another

pub with_item-no_globals : (w : Walk) → with_item w (plain.Item.Globals []) ≡ w
with_item-no_globals w = λ i. record w { variables = append-nil w.variables i; refusal = earlier-none w.refusal i }

pub with_item-globals : (w : Walk) (g : plain.Global) (gs : List plain.Global) → with_item (with_item w (plain.Item.Globals (g ∷ []))) (plain.Item.Globals gs) ≡ with_item w (plain.Item.Globals (g ∷ gs))
with_item-globals w g gs =
    let n = length w.variables in
    let behind = declare g.name (meaning.Integer (variable.Shared n)) w.scopes in
    let count : length (w.variables ++ variable_column g ∷ []) ≡ n + 1 = length-append w.variables (variable_column g ∷ []) in
    let refusal : earlier (earlier w.refusal (first_of (twice w.scopes g.name ++ []))) (first_of (globals_broken behind (length (w.variables ++ variable_column g ∷ [])) gs))
    ≡ earlier w.refusal (first_of (twice w.scopes g.name ++ globals_broken behind (n + 1) gs)) =
    (λ i. earlier (earlier w.refusal (first_of (append-nil (twice w.scopes g.name) i))) (first_of (globals_broken behind (count i) gs)))
    ∙ refused-append w.refusal (twice w.scopes g.name) (globals_broken behind (n + 1) gs) in
    λ i. record w { scopes = with_globals behind (count i) gs; variables = append_assoc w.variables (variable_column g ∷ []) (map variable_column gs) i; refusal = refusal i }

pub globals-more : (w new whole : Walk) (more : List (ℕ × Gname)) (k : ℕ) (d : ℕ × Gname) → k < length more
    → new ≡ with_item w (plain.Item.Globals (plain_gname (get_or more k d).1 ∷ [])) → with_item w (plain.Item.Globals (map (λ m. plain_gname m.1) (drop k more))) ≡ whole
    → with_item new (plain.Item.Globals (map (λ m. plain_gname m.1) (drop (k + 1) more))) ≡ whole
globals-more w new whole more k d within step before =
    let rest = map (λ (m : ℕ × Gname). plain_gname m.1) (drop (k + 1) more) in
    ap (λ v. with_item v (plain.Item.Globals rest)) step ∙ with_item-globals w (plain_gname (get_or more k d).1) rest
    ∙ ap (λ (ms : List (ℕ × Gname)). with_item w (plain.Item.Globals (map (λ m. plain_gname m.1) ms))) (sym (drop_at more k d within)) ∙ before

pub with_item-no_locks : (w : Walk) → with_item w (plain.Item.Locks []) ≡ w
with_item-no_locks w = λ i. record w { locks = append-nil w.locks i; refusal = earlier-none w.refusal i }

pub with_item-locks : (w : Walk) (x : Name) (xs : List Name) → with_item (with_item w (plain.Item.Locks (x ∷ []))) (plain.Item.Locks xs) ≡ with_item w (plain.Item.Locks (x ∷ xs))
with_item-locks w x xs =
    let n = length w.locks in
    let behind = declare x (meaning.Lock n) w.scopes in
    let count : length (w.locks ++ lock_column x ∷ []) ≡ n + 1 = length-append w.locks (lock_column x ∷ []) in
    let refusal : earlier (earlier w.refusal (first_of (twice w.scopes x ++ []))) (first_of (locks_broken behind (length (w.locks ++ lock_column x ∷ [])) xs))
    ≡ earlier w.refusal (first_of (twice w.scopes x ++ locks_broken behind (n + 1) xs)) =
    (λ i. earlier (earlier w.refusal (first_of (append-nil (twice w.scopes x) i))) (first_of (locks_broken behind (count i) xs)))
    ∙ refused-append w.refusal (twice w.scopes x) (locks_broken behind (n + 1) xs) in
    λ i. record w { scopes = with_locks behind (count i) xs; locks = append_assoc w.locks (lock_column x ∷ []) (map lock_column xs) i; refusal = refusal i }

pub locks-more : (w new whole : Walk) (more : List (ℕ × Mname)) (k : ℕ) (d : ℕ × Mname) → k < length more
    → new ≡ with_item w (plain.Item.Locks ((get_or more k d).1.name ∷ [])) → with_item w (plain.Item.Locks (map (λ m. m.1.name) (drop k more))) ≡ whole
    → with_item new (plain.Item.Locks (map (λ m. m.1.name) (drop (k + 1) more))) ≡ whole
locks-more w new whole more k d within step before =
    let rest = map (λ (m : ℕ × Mname). m.1.name) (drop (k + 1) more) in
    ap (λ v. with_item v (plain.Item.Locks rest)) step ∙ with_item-locks w (get_or more k d).1.name rest
    ∙ ap (λ (ms : List (ℕ × Mname)). with_item w (plain.Item.Locks (map (λ m. m.1.name) ms))) (sym (drop_at more k d within)) ∙ before

-- ---- of a whole text

-- one more refusal in front of others
refused-step : (r : Option Refusal) (ds es : List Refusal) (whole : Option Refusal) → earlier r (first_of (ds ++ es)) ≡ whole → earlier (earlier r (first_of ds)) (first_of es) ≡ whole
refused-step r ds es whole before = refused-append r ds es ∙ before

-- more at the end of a list, in front of others
appended-step : {X Y : Type 0} (f : X → Y) (ys whole : List Y) (xs more : List X) → ys ++ map f (xs ++ more) ≡ whole → (ys ++ map f xs) ++ map f more ≡ whole
appended-step f ys whole xs more before = append_assoc ys (map f xs) (map f more) ∙ ap (λ zs. ys ++ zs) (sym (map-append f xs more)) ∙ before

main-step : (main : Option ℕ) (from rest : ℕ) → unwrap_or (option_or main (Some from)) rest ≡ unwrap_or main from
main-step None from rest = refl
main-step (Some place) from rest = refl

has-step : (main : Option ℕ) (from : ℕ) → is_some (option_or main (Some from)) ≡ true
has-step None from = refl
has-step (Some place) from = refl

created-step : (has : Bool) (old new more : List ℕ) → has ≡ true → (old ++ new) ++ (if has then [] else more) ≡ old ++ new
created-step has old new more is = ap (λ h. (old ++ new) ++ (if h then [] else more)) is ∙ append-nil (old ++ new)

-- behind one item more
pub so_far-item : (tree : plain.Tree) (w : Walk) (item : plain.Item) (rest : List plain.Item) → IsSoFar tree w (next_of w) (item ∷ rest) → IsSoFar tree (with_item w item) (next_of (with_item w item)) rest
so_far-item tree w (plain.Item.Globals gs) rest p =
    let next = next_of w in
    let here = plain.Item.Globals gs in
    let count : length (w.variables ++ map variable_column gs) ≡ length w.variables + length gs = length-append w.variables (map variable_column gs) ∙ ap (λ n. length w.variables + n) (length-map gs variable_column) in
    let same : next_of (with_item w here) ≡ past_item next here = λ i. record next { global = count i } in
    subst (λ n. IsSoFar tree (with_item w here) n rest) (sym same) (record {
      variables = appended-step variable_column w.variables _ gs (globals_in rest) p.variables;
      locks = p.locks;
      owns = p.owns;
      functions = p.functions;
      main = p.main;
      created = p.created;
      refusal = refused-step w.refusal (globals_broken w.scopes next.global gs) _ _ p.refusal;
    })
so_far-item tree w (plain.Item.Locks xs) rest p =
    let next = next_of w in
    let here = plain.Item.Locks xs in
    let count : length (w.locks ++ map lock_column xs) ≡ length w.locks + length xs = length-append w.locks (map lock_column xs) ∙ ap (λ n. length w.locks + n) (length-map xs lock_column) in
    let same : next_of (with_item w here) ≡ past_item next here = λ i. record next { lock = count i } in
    subst (λ n. IsSoFar tree (with_item w here) n rest) (sym same) (record {
      variables = p.variables;
      locks = appended-step lock_column w.locks _ xs (locks_in rest) p.locks;
      owns = p.owns;
      functions = p.functions;
      main = p.main;
      created = p.created;
      refusal = refused-step w.refusal (locks_broken w.scopes next.lock xs) _ _ p.refusal;
    })
so_far-item tree w (plain.Item.Handles from xs) rest p = record {
  variables = p.variables;
  locks = p.locks;
  owns = p.owns;
  functions = p.functions;
  main = p.main;
  created = p.created;
  refusal = refused-step w.refusal (item_broken w.scopes (next_of w) (is_some w.main) (plain.Item.Handles from xs)) _ _ p.refusal;
}
so_far-item tree w (plain.Item.Thread name body) rest p =
    let next = next_of w in
    let here = plain.Item.Thread name body in
    let fs = item_functions w here in
    let count : length (w.functions ++ map stored_function fs) ≡ length w.functions + 1 = length-append w.functions (map stored_function fs) in
    let same : next_of (with_item w here) ≡ past_item next here = λ i. record next { function = count i } in
    subst (λ n. IsSoFar tree (with_item w here) n rest) (sym same) (record {
      variables = p.variables;
      locks = p.locks;
      owns = appended-step own_variables w.owns _ fs _ p.owns;
      functions = appended-step stored_function w.functions _ fs _ p.functions;
      main = p.main;
      created = p.created;
      refusal = refused-step w.refusal (item_broken w.scopes next (is_some w.main) here) _ _ p.refusal;
    })
so_far-item tree w (plain.Item.Main from body) rest p =
    let next = next_of w in
    let here = plain.Item.Main from body in
    let has = has-step w.main from in
    record {
      variables = p.variables;
      locks = p.locks;
      owns = p.owns;
      functions = p.functions;
      main = main-step w.main from _ ∙ p.main;
      created = created-step (is_some (option_or w.main (Some from))) w.created _ _ has ∙ p.created;
      refusal =
          ap (λ h. earlier (earlier w.refusal (first_of (item_broken w.scopes next (is_some w.main) here))) (first_of (items_broken w.scopes next h tree.end rest))) has
          ∙ refused-step w.refusal (item_broken w.scopes next (is_some w.main) here) (items_broken w.scopes next true tree.end rest) _ p.refusal;
    }
so_far-item tree w (plain.Item.Prototype name) rest p =
    record { variables = p.variables; locks = p.locks; owns = p.owns; functions = p.functions; main = p.main; created = p.created; refusal = p.refusal }
so_far-item tree w (plain.Item.Profile from) rest p =
    record { variables = p.variables; locks = p.locks; owns = p.owns; functions = p.functions; main = p.main; created = p.created; refusal = p.refusal }

-- at the start
pub so_far-first : (tree : plain.Tree) → IsSoFar tree (first_walk tree.items) first_next tree.items
so_far-first tree = record { variables = refl; locks = refl; owns = refl; functions = refl; main = refl; created = refl; refusal = refl }

no_more : (has : Bool) (xs : List ℕ) → xs ++ (if has then [] else []) ≡ xs
no_more true xs = append-nil xs
no_more false xs = append-nil xs

-- at the end
pub is_walked : (tree : plain.Tree) (w : Walk) → IsSoFar tree w (next_of w) [] → IsWalked tree (with_refusal w (first_of (broken_if (not (is_some w.main)) bad_main tree.end)))
is_walked tree w p = record {
  variables = sym (append-nil w.variables) ∙ p.variables;
  locks = sym (append-nil w.locks) ∙ p.locks;
  owns = sym (append-nil w.owns) ∙ p.owns;
  functions = sym (append-nil w.functions) ∙ p.functions;
  main = p.main;
  created = sym (no_more (is_some w.main) w.created) ∙ p.created;
  refusal = p.refusal;
}

-- ---- the functions of a text

pub functions_in-cons : (item : plain.Item) (rest : List plain.Item) → functions_in (item ∷ rest) ≡ functions_in (item ∷ []) ++ functions_in rest
functions_in-cons (plain.Item.Globals gs) rest = refl
functions_in-cons (plain.Item.Locks xs) rest = refl
functions_in-cons (plain.Item.Handles from xs) rest = refl
functions_in-cons (plain.Item.Main from body) rest = refl
functions_in-cons (plain.Item.Thread name body) rest = refl
functions_in-cons (plain.Item.Prototype name) rest = refl
functions_in-cons (plain.Item.Profile from) rest = refl
