-- Names and what they stand for, by the scopes that are open at a place of a text.
use Rattle.std.specs.Prelude.{ℕ, List, [], ◌∷◌, ◌++◌, Option, Some, None, is_some, bytes_eq, if◌then◌else◌}
use Rattle.std.specs.Option.{option_or}
use Rattle.c_tree.specs.declared.expr.Name.{Name}
use Rattle.c_check.specs.declared.meaning.Variable.{Variable}
use Rattle.c_check.specs.declared.meaning.Variable.TheVariants as variable
use Rattle.c_check.specs.declared.meaning.Meaning.{Meaning}
use Rattle.c_check.specs.declared.meaning.Meaning.TheVariants as meaning

pub record Binding : Type 0 where
  pub name : List ℕ
  pub stands_for : Meaning

-- the names of one scope, each once
abbrev pub Scope : Type 0
Scope = List Binding

-- the scopes that are open, the innermost first
abbrev pub Scopes : Type 0
Scopes = List Scope

-- what a name stands for in one scope
abbrev pub in_scope : List ℕ → Scope → Option Meaning
in_scope name [] = None
in_scope name (b ∷ bs) = if bytes_eq name b.name then Some b.stands_for else in_scope name bs

-- what a name stands for: an inner scope hides those around it
abbrev pub meaning_of : List ℕ → Scopes → Option Meaning
meaning_of name [] = None
meaning_of name (s ∷ ss) = option_or (in_scope name s) (meaning_of name ss)

-- a scope with one more name; a name that it has already keeps what it stands for
abbrev pub with_name : List ℕ → Meaning → Scope → Scope
with_name name m s = if is_some (in_scope name s) then s else s ++ record { name = name; stands_for = m } ∷ []

-- the scopes with one more name in the innermost
abbrev pub declare : Name → Meaning → Scopes → Scopes
declare name m [] = []
declare name m (s ∷ ss) = with_name name.text m s ∷ ss

-- a scope opens
abbrev pub open_scope : Scopes → Scopes
open_scope ss = [] ∷ ss

-- ---- names that are used as something of their kind; where a name stands for none of it the text is refused, and the first of
-- its kind is given

abbrev pub as_variable : Option Meaning → Variable
as_variable (Some (meaning.Integer v)) = v
as_variable (Some (meaning.Lock n)) = variable.Shared 0
as_variable (Some meaning.Handle) = variable.Shared 0
as_variable (Some (meaning.Function n)) = variable.Shared 0
as_variable None = variable.Shared 0

abbrev pub as_lock : Option Meaning → ℕ
as_lock (Some (meaning.Lock n)) = n
as_lock (Some (meaning.Integer v)) = 0
as_lock (Some meaning.Handle) = 0
as_lock (Some (meaning.Function n)) = 0
as_lock None = 0

abbrev pub as_function : Option Meaning → ℕ
as_function (Some (meaning.Function n)) = n
as_function (Some (meaning.Integer v)) = 0
as_function (Some (meaning.Lock n)) = 0
as_function (Some meaning.Handle) = 0
as_function None = 0

-- the variable that a name stands for
abbrev pub variable_of : Scopes → Name → Variable
variable_of ss name = as_variable (meaning_of name.text ss)

-- the number of the lock that a name stands for
abbrev pub lock_of : Scopes → Name → ℕ
lock_of ss name = as_lock (meaning_of name.text ss)

-- the number of the thread function that a name stands for
abbrev pub function_of : Scopes → Name → ℕ
function_of ss name = as_function (meaning_of name.text ss)
