-- A function value that reads statements to a number of levels.
use Rattle.std.specs.Prelude.{ℕ, Result}
use Rattle.std.specs.declared.alloc.Global.{Global}
use denote.Ref.{MutBor}
use Rattle.thr_base.specs.declared.stops.Stop.{Stop}
use Rattle.c_tree.specs.declared.stmt.Stmt.{Stmt}
use Rattle.c_tree.specs.declared.stmt.Around.{Around}
use Rattle.c_tree.specs.inside.Input.{Input, Reads}
use Rattle.c_tree.specs.inside.Stmt.{stmt}

pub record NestsStmt (levels : ℕ) (pre : Global → MutBor Input → ℕ → Around → Type 0)
    (post : Global → MutBor Input → ℕ → Around → Result Stmt Stop → MutBor Input → Type 0) : Type 0 where
  pub callable : (alloc : Global) (old : MutBor Input) (around : Around) → pre alloc old levels around
  pub reads : (alloc : Global) (old new : MutBor Input) (around : Around) (r : Result Stmt Stop) → post alloc old levels around r new
      → Reads (stmt levels around old.now) r new.now
