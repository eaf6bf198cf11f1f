-- What a plan has for comparisons, and how many temporaries its tests need.
use Rattle.std.specs.Prelude.{ℕ, ◌+◌, max, List, [], ◌∷◌}
use Rattle.c_tree.specs.declared.expr.EqualityKind.{EqualityKind}
use Rattle.c_tree.specs.declared.expr.EqualityKind.TheVariants as equalities
use Rattle.c_tree.specs.declared.expr.RelationKind.{RelationKind}
use Rattle.c_tree.specs.declared.expr.RelationKind.TheVariants as relations
use Rattle.c_check.specs.declared.operation.Mark.{Mark}
use Rattle.c_check.specs.declared.operation.Mark.TheVariants as mark
use Rattle.c_check.specs.declared.test.TestOperation.{TestOperation}
use Rattle.c_check.specs.declared.test.TestOperation.TheVariants as test_operation
use Rattle.c_check.specs.Temporaries.{reads_of}
use Rattle.c_check.specs.inside.Operations.{shared_operations}

abbrev pub equality_comparison : EqualityKind → Mark
equality_comparison equalities.Equal = mark.Equal
equality_comparison equalities.Unequal = mark.Unequal

abbrev pub relation_comparison : RelationKind → Mark
relation_comparison relations.Less = mark.Less
relation_comparison relations.AtMost = mark.AtMost
relation_comparison relations.Greater = mark.Greater
relation_comparison relations.AtLeast = mark.AtLeast

-- of so many reads
abbrev pub need_of : ℕ → ℕ
need_of reads = reads_of reads reads

abbrev pub operation_need : TestOperation → ℕ
operation_need (test_operation.Compare c) = need_of (shared_operations c.left + shared_operations c.right)
operation_need test_operation.Not = 0
operation_need test_operation.And = 0
operation_need test_operation.Or = 0

abbrev pub operations_need : List TestOperation → ℕ
operations_need [] = 0
operations_need (o ∷ os) = max (operation_need o) (operations_need os)
