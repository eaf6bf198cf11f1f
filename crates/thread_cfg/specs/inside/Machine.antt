-- The form of an expression by its operations: a stack machine over forms, where what was computed last stands first.
use Rattle.std.specs.Prelude.{◌<◌, ◌^◌, ℕ, ◌+◌, negsuc, List, [], ◌∷◌, map, reverse, Option, Some, None, option_and_then, option_map}
use Rattle.std.specs.List.{AllByRecursion}
use Rattle.c_check.specs.declared.meaning.Variable.TheVariants as variable
use Rattle.c_check.specs.declared.operation.Operation.{Operation}
use Rattle.c_check.specs.declared.operation.Operation.TheVariants as operation
use Rattle.transition_formula.specs.declared.graph.Line.{Line}
use Rattle.transition_formula.specs.Program.{Form}
use Rattle.transition_formula.specs.Forms.{column_form, constant_form, fitting_difference, fitting_form, fitting_multiple, fitting_product, fitting_sum}
use Rattle.transition_formula.specs.Stored.{form_of}
use Rattle.thread_cfg.specs.declared.event.Expression.{Expression}
use Rattle.thread_cfg.specs.declared.event.Expression.TheVariants as expression
use Rattle.thread_cfg.specs.Source.{Frame, column_of}

-- ---- temporaries in place of what all threads share, the next of which has this number

-- the operation, on the next temporary where it reads what all threads share
abbrev pub replaced : Option ℕ → Operation → Operation
replaced (Some next) (operation.Value (variable.Shared n)) = operation.Value (variable.Own next)
replaced next o = o

-- the number of the next temporary behind it
abbrev pub next_temporary : Option ℕ → Operation → Option ℕ
next_temporary (Some next) (operation.Value (variable.Shared n)) = Some (next + 1)
next_temporary next o = next

-- the operations, on temporaries
abbrev pub relabelled : Option ℕ → List Operation → List Operation
relabelled next [] = []
relabelled next (o ∷ os) = replaced next o ∷ relabelled (next_temporary next o) os

-- There is a number for the temporary behind the next one.
abbrev pub HasRoom : Option ℕ → Operation → Type 0
HasRoom (Some next) (operation.Value (variable.Shared n)) = next < 2 ^ 32
HasRoom next o = Unit {0}

-- the operations that compute an expression
abbrev pub operations_of : Expression → List Operation
operations_of (expression.Number k) = operation.Number k ∷ []
operations_of (expression.Value v) = operation.Value v ∷ []
operations_of (expression.Whole operations) = relabelled None operations.now
operations_of (expression.Cut operations next) = relabelled (Some next) operations.now

-- A column that the operation reads is within n.
abbrev pub OperationWithin : ℕ → Frame → Operation → Type 0
OperationWithin n frame (operation.Value v) = column_of frame v < n
OperationWithin n frame _ = Unit {0}

-- The columns that the expression's operations read are within n.
abbrev pub ExpressionWithin : ℕ → Frame → Expression → Type 0
ExpressionWithin n frame e = AllByRecursion (OperationWithin n frame) (operations_of e)

-- ---- the machine

-- the form, on top of others
abbrev pub on_top : List Form → Option Form → Option (List Form)
on_top stack made = option_map (λ form. form ∷ stack) made

-- what is made of the last form
abbrev pub with_last : (Form → Option Form) → List Form → Option (List Form)
with_last f [] = None
with_last f (a ∷ stack) = on_top stack (f a)

-- the earlier of the two is on the left
abbrev pub with_last_two : (Form → Form → Option Form) → List Form → Option (List Form)
with_last_two f [] = None
with_last_two f (b ∷ []) = None
with_last_two f (b ∷ (a ∷ stack)) = on_top stack (f a b)

-- the forms behind an operation
abbrev pub stack_after : ℕ → Frame → List Form → Operation → Option (List Form)
stack_after columns frame stack (operation.Number k) = on_top stack (fitting_form (constant_form columns k))
stack_after columns frame stack (operation.Value v) = on_top stack (Some (column_form columns (column_of frame v)))
stack_after columns frame stack operation.Negate = with_last (fitting_multiple (negsuc 0)) stack
stack_after columns frame stack operation.Add = with_last_two fitting_sum stack
stack_after columns frame stack operation.Subtract = with_last_two fitting_difference stack
stack_after columns frame stack operation.Multiply = with_last_two fitting_product stack

-- the forms behind all operations
abbrev pub stack_behind : ℕ → Frame → List Operation → List Form → Option (List Form)
stack_behind columns frame [] stack = Some stack
stack_behind columns frame (o ∷ os) stack = option_and_then (stack_behind columns frame os) (stack_after columns frame stack o)

-- the last form
abbrev pub last_of : List Form → Option Form
last_of [] = None
last_of (form ∷ stack) = Some form

-- the form that operations compute
abbrev pub computed : ℕ → Frame → List Operation → Option Form
computed columns frame os = option_and_then last_of (stack_behind columns frame os [])

-- what is held, as forms, the last one first
abbrev pub stack_of : List Line → List Form
stack_of lines = reverse (map form_of lines)
