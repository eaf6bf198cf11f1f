-- The operations that a plan has for marks and signs.
use Rattle.std.specs.Prelude.{ℕ, Bool, true, false, List, [], ◌∷◌, filter, length}
use Rattle.c_tree.specs.declared.expr.SumKind.{SumKind}
use Rattle.c_tree.specs.declared.expr.SumKind.TheVariants as sums
use Rattle.c_tree.specs.declared.expr.UnaryKind.{UnaryKind}
use Rattle.c_tree.specs.declared.expr.UnaryKind.TheVariants as unary
use Rattle.c_check.specs.declared.meaning.Variable.TheVariants as variable
use Rattle.c_check.specs.declared.operation.Operation.{Operation}
use Rattle.c_check.specs.declared.operation.Operation.TheVariants as operation

abbrev pub sum_operation : SumKind → Operation
sum_operation sums.Plus = operation.Add
sum_operation sums.Minus = operation.Subtract

abbrev pub sign_operations : UnaryKind → List Operation
sign_operations unary.Minus = operation.Negate ∷ []
sign_operations unary.Plus = []
sign_operations unary.Not = []

-- whether an operation reads a variable that all threads share
abbrev pub is_shared : Operation → Bool
is_shared (operation.Value (variable.Shared n)) = true
is_shared _ = false

abbrev pub shared_operations : List Operation → ℕ
shared_operations operations = length (filter is_shared operations)
