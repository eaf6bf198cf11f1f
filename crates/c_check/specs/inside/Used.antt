-- What a walk over an expression answers: the first rule that it breaks, and whether it has a name.
use Rattle.std.specs.Prelude.{ℕ, ◌||◌, ◌==◌, Option, if◌then◌else◌}
use Rattle.thr_base.specs.declared.stops.Refusal.{Refusal}
use Rattle.c_tree.specs.Plain as plain
use Rattle.c_check.specs.declared.uses.Found.{Found}
use Rattle.c_check.specs.declared.uses.Use.{Use}
use Rattle.c_check.specs.Scope.{Scopes}
use Rattle.c_check.specs.Broken.{expr_broken, has_name}
use Rattle.c_check.specs.First.{earlier, first_of}

abbrev pub found_in : Scopes → Use → plain.Expr → Found
found_in ss used e = record { refusal = first_of (expr_broken ss used e); has_name = has_name e }

-- what two operands and the mark between them come to
abbrev pub beside : Found → Option Refusal → Found → Found
beside left mark right = record { refusal = earlier left.refusal (earlier mark right.refusal); has_name = left.has_name || right.has_name }

-- What the front of a chain of operands is used as, where so many marks are behind it: as one of their operands, or as the whole.
abbrev pub use_before : Use → Use → ℕ → Use
use_before operand whole behind = if behind == 0 then whole else operand
