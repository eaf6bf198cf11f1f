-- A function value that reads operands to a number of levels.
use Rattle.std.specs.Prelude.{ℕ, Result}
use Rattle.std.specs.declared.alloc.Global.{Global}
use denote.Ref.{MutBor}
use Rattle.thr_base.specs.declared.stops.Stop.{Stop}
use Rattle.c_tree.specs.declared.expr.Unary.{Unary}
use Rattle.c_tree.specs.inside.Input.{Input, Reads}
use Rattle.c_tree.specs.inside.Expr.{unary}

pub record Nests (levels : ℕ) (pre : Global → MutBor Input → ℕ → Type 0)
    (post : Global → MutBor Input → ℕ → Result Unary Stop → MutBor Input → Type 0) : Type 0 where
  pub callable : (alloc : Global) (old : MutBor Input) → pre alloc old levels
  pub reads : (alloc : Global) (old new : MutBor Input) (r : Result Unary Stop) → post alloc old levels r new
      → Reads (unary levels old.now) r new.now
