-- What names stand for is there, in the scopes of a text of which so much is there.
use Rattle.std.proofs.Common.{◌≡◌, ℕ, ◌+◌, ◌<◌, ◌≤◌, Bool, true, false, cond, not, List, [], ◌∷◌, ◌++◌, length, Option, Some, None, is_some, bytes_eq, refl, sym, ap, subst, ◌∙◌, arith, length-append}
use Rattle.std.proofs.lemmas.Bool.Decides.{nat_tests}
use Rattle.std.specs.List.{AllByRecursion}
use Rattle.std.specs.Option.{option_or}
use Rattle.c_tree.specs.declared.expr.Name.{Name}
use Rattle.c_tree.specs.Plain as plain
use Rattle.c_check.specs.declared.meaning.Meaning.{Meaning}
use Rattle.c_check.specs.declared.meaning.Meaning.TheVariants as meaning
use Rattle.c_check.specs.declared.meaning.Variable.TheVariants as variable
use Rattle.c_check.specs.declared.uses.Kind.{Kind}
use Rattle.c_check.specs.declared.uses.Kind.TheVariants as kind
use Rattle.c_check.specs.Scope.{Binding, Scope, Scopes, as_lock, as_variable, declare, in_scope, lock_of, meaning_of, open_scope, variable_of}
use Rattle.c_check.specs.Broken.{broken_if, is_of_kind, twice, unknown_as}
use Rattle.c_check.specs.Resolve.{behind, behind_all, first_locals, past, stmt_locals, stmts_locals, with_first, with_handles, with_locals}
use Rattle.c_check.specs.WellFormed.{Counts, HasVariable}
use Rattle.c_check.proofs.ScopeLemmas.{with_name-new}

-- ---- lists

-- Nothing is broken by both only where nothing is by either.
pub append-none : {X : Type 0} → (xs ys : List X) → xs ++ ys ≡ [] → (xs ≡ []) × (ys ≡ [])
append-none [] ys e = (refl, e)
append-none (x ∷ xs) ys e = absurd cc

pub three-none : {X : Type 0} → (xs ys zs : List X) → xs ++ ys ++ zs ≡ [] → (xs ≡ []) × (ys ≡ []) × (zs ≡ [])
three-none xs ys zs e =
    let behind = append-none (xs ++ ys) zs e in
    let front = append-none xs ys behind.0 in
    (front.0, front.1, behind.1)

pub all-append : {X : Type 0} → (P : X → Type 0) (xs ys : List X) → AllByRecursion P xs → AllByRecursion P ys → AllByRecursion P (xs ++ ys)
all-append P [] ys all more = more
all-append P (x ∷ xs) ys all more = (all.0, all-append P xs ys all.1 more)

pub if_by : {X : Type 0} → (P : X → Type 0) (b : Bool) (x y : X) → P x → P y → P (cond b x y)
if_by P true x y is other = is
if_by P false x y is other = other

pub broken_if-none : (b : Bool) (rule from : ℕ) → broken_if (not b) rule from ≡ [] → b ≡ true
broken_if-none true rule from none = refl
broken_if-none false rule from none = cc

-- ---- scopes

abbrev pub HasMeaning : Counts → Meaning → Type 0
HasMeaning c (meaning.Integer v) = HasVariable c v
HasMeaning c (meaning.Lock n) = n < c.locks
HasMeaning c meaning.Handle = Unit {0}
HasMeaning c (meaning.Function n) = Unit {0}

abbrev pub HasIfSome : Counts → Option Meaning → Type 0
HasIfSome c None = Unit {0}
HasIfSome c (Some m) = HasMeaning c m

abbrev pub HasScope : Counts → Scope → Type 0
HasScope c s = AllByRecursion (λ b. HasMeaning c b.stands_for) s

abbrev pub HasAround : Counts → Scopes → Type 0
HasAround c ss = AllByRecursion (HasScope c) ss

-- at least one of them is open
abbrev pub HasScopes : Counts → Scopes → Type 0
HasScopes c [] = ⊥
HasScopes c (s ∷ ss) = HasScope c s × HasAround c ss

pub has-around : (c : Counts) (ss : Scopes) → HasScopes c ss → HasAround c ss
has-around c [] all = absurd all
has-around c (s ∷ ss) all = all

pub has-open_scope : (c : Counts) (ss : Scopes) → HasAround c ss → HasScopes c (open_scope ss)
has-open_scope c ss all = (tt, all)

has-in_scope : (c : Counts) (name : List ℕ) (s : Scope) → HasScope c s → HasIfSome c (in_scope name s)
has-in_scope c name [] all = tt
has-in_scope c name (b ∷ bs) all = if_by (HasIfSome c) (bytes_eq name b.name) (Some b.stands_for) (in_scope name bs) all.0 (has-in_scope c name bs all.1)

has-or : (c : Counts) (a b : Option Meaning) → HasIfSome c a → HasIfSome c b → HasIfSome c (option_or a b)
has-or c None b is other = other
has-or c (Some m) b is other = is

has-meaning_of : (c : Counts) (name : List ℕ) (ss : Scopes) → HasAround c ss → HasIfSome c (meaning_of name ss)
has-meaning_of c name [] all = tt
has-meaning_of c name (s ∷ ss) all = has-or c (in_scope name s) (meaning_of name ss) (has-in_scope c name s all.0) (has-meaning_of c name ss all.1)

pub has-declare : (c : Counts) (x : Name) (m : Meaning) (ss : Scopes) → HasMeaning c m → HasScopes c ss → HasScopes c (declare x m ss)
has-declare c x m [] is all = absurd all
has-declare c x m (s ∷ ss) is all =
    let b : Binding = record { name = x.text; stands_for = m } in
    (if_by (HasScope c) (is_some (in_scope x.text s)) s (s ++ b ∷ []) all.0 (all-append (λ b'. HasMeaning c b'.stands_for) s (b ∷ []) all.0 (is, tt)), all.1)

-- ---- names that are used as what they are

has-as_variable : (c : Counts) (m : Option Meaning) → is_of_kind kind.Integer m ≡ true → HasIfSome c m → HasVariable c (as_variable m)
has-as_variable c None known has = absurd cc
has-as_variable c (Some (meaning.Integer v)) known has = has
has-as_variable c (Some (meaning.Lock n)) known has = absurd cc
has-as_variable c (Some meaning.Handle) known has = absurd cc
has-as_variable c (Some (meaning.Function n)) known has = absurd cc

has-as_lock : (c : Counts) (m : Option Meaning) → is_of_kind kind.Lock m ≡ true → HasIfSome c m → as_lock m < c.locks
has-as_lock c None known has = absurd cc
has-as_lock c (Some (meaning.Integer v)) known has = absurd cc
has-as_lock c (Some (meaning.Lock n)) known has = has
has-as_lock c (Some meaning.Handle) known has = absurd cc
has-as_lock c (Some (meaning.Function n)) known has = absurd cc

known : (k : Kind) (ss : Scopes) (x : Name) → unknown_as k ss x ≡ [] → is_of_kind k (meaning_of x.text ss) ≡ true
known k ss x none = broken_if-none (is_of_kind k (meaning_of x.text ss)) _ _ none

pub has-variable_of : (c : Counts) (ss : Scopes) (x : Name) → HasScopes c ss → unknown_as kind.Integer ss x ≡ [] → HasVariable c (variable_of ss x)
has-variable_of c ss x all none = has-as_variable c (meaning_of x.text ss) (known kind.Integer ss x none) (has-meaning_of c x.text ss (has-around c ss all))

pub has-lock_of : (c : Counts) (ss : Scopes) (x : Name) → HasScopes c ss → unknown_as kind.Lock ss x ≡ [] → lock_of ss x < c.locks
has-lock_of c ss x all none = has-as_lock c (meaning_of x.text ss) (known kind.Lock ss x none) (has-meaning_of c x.text ss (has-around c ss all))

-- ---- a name that was declared just now

bytes_eq-itself : (xs : List ℕ) → bytes_eq xs xs ≡ true
bytes_eq-itself [] = refl
bytes_eq-itself (x ∷ xs) = grind (arith, nat_tests, bytes_eq-itself xs)

new_by : (is_here : Bool) (name : List ℕ) (m : Meaning) (b : Binding) (s : Scope) → is_some (cond is_here (Some b.stands_for) (in_scope name s)) ≡ false
    → (is_some (in_scope name s) ≡ false → in_scope name (s ++ record { name = name; stands_for = m } ∷ []) ≡ Some m)
    → cond is_here (Some b.stands_for) (in_scope name (s ++ record { name = name; stands_for = m } ∷ [])) ≡ Some m
new_by true name m b s absent rest = cc
new_by false name m b s absent rest = rest absent

in_scope-new : (name : List ℕ) (m : Meaning) (s : Scope) → is_some (in_scope name s) ≡ false → in_scope name (s ++ record { name = name; stands_for = m } ∷ []) ≡ Some m
in_scope-new name m [] absent = ap (λ here. cond here (Some m) None) (bytes_eq-itself name)
in_scope-new name m (b ∷ s) absent = new_by (bytes_eq name b.name) name m b s absent (in_scope-new name m s)

not_broken : (b : Bool) (rule from : ℕ) → broken_if b rule from ≡ [] → b ≡ false
not_broken true rule from none = cc
not_broken false rule from none = refl

-- It stands for what it was declared as.
pub meaning_of-declare : (c : Counts) (x : Name) (m : Meaning) (ss : Scopes) → HasScopes c ss → twice ss x ≡ [] → meaning_of x.text (declare x m ss) ≡ Some m
meaning_of-declare c x m [] all once = absurd all
meaning_of-declare c x m (s ∷ ss) all once =
    let new : is_some (in_scope x.text s) ≡ false = not_broken (is_some (in_scope x.text s)) _ _ once in
    ap (λ o. option_or o (meaning_of x.text ss)) (ap (in_scope x.text) (with_name-new x.text m s new) ∙ in_scope-new x.text m s new)

pub has-declared : (c : Counts) (ss : Scopes) (x : Name) (next : ℕ) → HasScopes c ss → twice ss x ≡ [] → next < c.locals → HasVariable c (variable_of (declare x (meaning.Integer (variable.Own next)) ss) x)
has-declared c ss x next all once within =
    subst (λ (m : Option Meaning). HasVariable c (as_variable m)) (sym (meaning_of-declare c x (meaning.Integer (variable.Own next)) ss all once)) within

-- ---- scopes behind statements

pub has-with_locals : (c : Counts) (ss : Scopes) (next : ℕ) (ls : List plain.Local) → next + length ls ≤ c.locals → HasScopes c ss → HasScopes c (with_locals ss next ls)
has-with_locals c ss next [] within all = all
has-with_locals c ss next (l ∷ ls) within all =
    has-with_locals c (declare l.name (meaning.Integer (variable.Own next)) ss) (next + 1) ls (omega arith) (has-declare c l.name (meaning.Integer (variable.Own next)) ss (omega arith) all)

pub has-with_handles : (c : Counts) (ss : Scopes) (xs : List Name) → HasScopes c ss → HasScopes c (with_handles ss xs)
has-with_handles c ss [] all = all
has-with_handles c ss (x ∷ xs) all = has-with_handles c (declare x meaning.Handle ss) xs (has-declare c x meaning.Handle ss tt all)

pub has-with_first : (c : Counts) (ss : Scopes) (next : ℕ) (f : plain.First) → next + length (first_locals f) ≤ c.locals → HasScopes c ss → HasScopes c (with_first ss next f)
has-with_first c ss next (plain.First.Declares from ls) within all = has-with_locals c ss next ls within all
has-with_first c ss next (plain.First.Assigns a) within all = all
has-with_first c ss next (plain.First.Nothing from) within all = all

mutual
  pub has-behind : (c : Counts) (ss : Scopes) (next : ℕ) (s : plain.Stmt) → next + length (stmt_locals s) ≤ c.locals → HasScopes c ss → HasScopes c (behind ss next s)
  has-behind c ss next (plain.Stmt.Locals from ls) within all = has-with_locals c ss next ls within all
  has-behind c ss next (plain.Stmt.Handles from names) within all = has-with_handles c ss names all
  has-behind c ss next (plain.Stmt.Atomic from inner) within all = has-behind_all c ss next inner within all
  has-behind c ss next (plain.Stmt.Block from inner) within all = all
  has-behind c ss next (plain.Stmt.Empty from) within all = all
  has-behind c ss next (plain.Stmt.Assigns a) within all = all
  has-behind c ss next (plain.Stmt.If from v s) within all = all
  has-behind c ss next (plain.Stmt.IfElse from v s t) within all = all
  has-behind c ss next (plain.Stmt.While from v s) within all = all
  has-behind c ss next (plain.Stmt.For from first v last s) within all = all
  has-behind c ss next (plain.Stmt.Break from) within all = all
  has-behind c ss next (plain.Stmt.Return from) within all = all
  has-behind c ss next (plain.Stmt.Calls call) within all = all

  pub has-behind_all : (c : Counts) (ss : Scopes) (next : ℕ) (body : plain.Stmts) → next + length (stmts_locals body) ≤ c.locals → HasScopes c ss → HasScopes c (behind_all ss next body)
  has-behind_all c ss next plain.Stmts.End within all = all
  has-behind_all c ss next (plain.Stmts.Then s rest) within all =
      has-behind_all c (behind ss next s) (past next s) rest (omega (arith, length-append (stmt_locals s) (stmts_locals rest)))
      (has-behind c ss next s (omega (arith, length-append (stmt_locals s) (stmts_locals rest))) all)
