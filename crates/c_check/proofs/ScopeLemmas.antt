-- Scopes that are kept as maps, in a list of which the innermost is the last one.
use Rattle.std.proofs.Common.{◌≡◌, ℕ, ◌+◌, ◌-◌, ◌<◌, Bool, true, false, cond, List, [], ◌∷◌, ◌++◌, length, map, take, reverse, get_or, set, Vec, Global, Some, is_some, bytes_eq, refl, sym, ap, subst, ◌∙◌, arith}
use Rattle.std.specs.Map.{lookup}
use Rattle.std.proofs.lemmas.List.{reverse-append, take_more, take_more_set, length-set}
use Rattle.std.proofs.Math.Seq.{take-length}
use Rattle.indexmap.specs.IndexMap.{insert_entry}
use Rattle.c_tree.specs.declared.expr.Name.{Name}
use Rattle.c_check.specs.declared.meaning.Meaning.{Meaning}
use Rattle.c_check.specs.Scope.{Binding, Scope, Scopes, declare, in_scope, with_name}

-- the bindings of entries
abbrev pub bindings : List (Vec ℕ Global × Meaning) → Scope
bindings es = map (λ e. record { name = e.0.items; stands_for = e.1 }) es

pub lookup-bindings : (name : List ℕ) (es : List (Vec ℕ Global × Meaning)) → lookup (λ (k : Vec ℕ Global). bytes_eq name k.items) es ≡ in_scope name (bindings es)
lookup-bindings name [] = refl
lookup-bindings name (e ∷ es) = ap (λ further. cond (bytes_eq name e.0.items) (Some e.1) further) (lookup-bindings name es)

-- at a first entry, which has the name or not
insert_by : (is_here : Bool) (e : Vec ℕ Global × Meaning) (es more : List (Vec ℕ Global × Meaning)) (b : Binding) (k : Vec ℕ Global) (m : Meaning)
    → is_some (cond is_here (Some e.1) (in_scope k.items (bindings es))) ≡ false
    → (is_some (in_scope k.items (bindings es)) ≡ false → bindings more ≡ bindings es ++ b ∷ [])
    → bindings (cond is_here ((e.0, m) ∷ es) (e ∷ more)) ≡ bindings (e ∷ es) ++ b ∷ []
insert_by true e es more b k m absent rest = cc
insert_by false e es more b k m absent rest = ap (λ (bs : Scope). record { name = e.0.items; stands_for = e.1 } ∷ bs) (rest absent)

-- a new name goes last
insert-bindings : (k : Vec ℕ Global) (m : Meaning) (es : List (Vec ℕ Global × Meaning)) → is_some (in_scope k.items (bindings es)) ≡ false
    → bindings (insert_entry (λ (a b : Vec ℕ Global). bytes_eq a.items b.items) es k m) ≡ bindings es ++ record { name = k.items; stands_for = m } ∷ []
insert-bindings k m [] absent = refl
insert-bindings k m (e ∷ es) absent = insert_by (bytes_eq k.items e.0.items) e es (insert_entry (λ (a b : Vec ℕ Global). bytes_eq a.items b.items) es k m) _ k m absent (insert-bindings k m es)

pub with_name-new : (name : List ℕ) (m : Meaning) (s : Scope) → is_some (in_scope name s) ≡ false → with_name name m s ≡ s ++ record { name = name; stands_for = m } ∷ []
with_name-new name m s new = ap (λ here. cond here s (s ++ record { name = name; stands_for = m } ∷ [])) new

pub with_name-old : (name : List ℕ) (m : Meaning) (s : Scope) → is_some (in_scope name s) ≡ true → with_name name m s ≡ s
with_name-old name m s old = ap (λ here. cond here s (s ++ record { name = name; stands_for = m } ∷ [])) old

pub with_name-insert_entry : (k : Vec ℕ Global) (name : List ℕ) (m : Meaning) (es : List (Vec ℕ Global × Meaning)) (s : Scope) → k.items ≡ name → bindings es ≡ s → is_some (in_scope name s) ≡ false
    → bindings (insert_entry (λ (a b : Vec ℕ Global). bytes_eq a.items b.items) es k m) ≡ with_name name m s
with_name-insert_entry k name m es s is_name is_s new =
    insert-bindings k m es (ap (λ n. is_some (in_scope n (bindings es))) is_name ∙ ap (λ b. is_some (in_scope name b)) is_s ∙ new)
    ∙ (λ i. is_s i ++ record { name = is_name i; stands_for = m } ∷ []) ∙ sym (with_name-new name m s new)

-- ---- a list of scopes

-- the last one is changed
reverse-last : (scopes : List Scope) (d s : Scope) → 0 < length scopes → (reverse scopes ≡ get_or scopes (length scopes - 1) d ∷ reverse (take (length scopes - 1) scopes))
    × (reverse (set scopes (length scopes - 1) s) ≡ s ∷ reverse (take (length scopes - 1) scopes))
reverse-last scopes d s some =
    let k = length scopes - 1 in
    let within : k < length scopes = omega arith in
    let all : k + 1 ≡ length scopes = omega arith in
    let same_length : length (set scopes k s) ≡ length scopes = length-set scopes k s in
    let before : scopes ≡ take k scopes ++ get_or scopes k d ∷ [] = sym (all_of (k + 1) scopes all) ∙ take_more scopes k d within in
    let behind : set scopes k s ≡ take k scopes ++ s ∷ [] = sym (all_of (k + 1) (set scopes k s) (all ∙ sym same_length)) ∙ take_more_set scopes k s within in
    (ap reverse before ∙ reverse-append (take k scopes) (get_or scopes k d ∷ []), ap reverse behind ∙ reverse-append (take k scopes) (s ∷ []))
  where
    all_of : (n : ℕ) (xs : List Scope) → n ≡ length xs → take n xs ≡ xs
    all_of n xs e = ap (λ m. take m xs) e ∙ take-length xs

-- a name is declared in the last one
pub declare-last : (scopes : List Scope) (n : ℕ) (d s : Scope) (name : Name) (text : List ℕ) (m : Meaning) (ss : Scopes) → n ≡ length scopes → 0 < n → d ≡ get_or scopes (n - 1) d
    → s ≡ with_name text m d → text ≡ name.text → reverse scopes ≡ ss → reverse (set scopes (n - 1) s) ≡ declare name m ss
declare-last scopes n d s name text m ss counted some last changed is_text is_ss =
    let p = reverse-last scopes d s (subst (λ (k : ℕ). 0 < k) counted some) in
    let same : get_or scopes (length scopes - 1) d ≡ d = sym (last ∙ ap (λ k. get_or scopes (k - 1) d) counted) in
    ap (λ k. reverse (set scopes (k - 1) s)) counted ∙ p.1 ∙ ap (λ (x : Scope). x ∷ reverse (take (length scopes - 1) scopes)) (changed ∙ (λ i. with_name (is_text i) m (sym same i)))
    ∙ ap (declare name m) (sym p.0 ∙ is_ss)

-- where there is none, in none
pub declare-none : (scopes : List Scope) (n : ℕ) (name : Name) (m : Meaning) → n ≡ length scopes → (0 < n → false ≡ true) → reverse scopes ≡ declare name m (reverse scopes)
declare-none [] n name m counted none = refl
declare-none (x ∷ xs) n name m counted none = let e : false ≡ true = none (omega (arith, counted)) in cc
