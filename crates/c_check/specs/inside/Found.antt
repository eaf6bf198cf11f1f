-- What is found of the statements of a function: its locals, what they do, and the first rule that they break.
use Rattle.std.specs.Prelude.{ℕ, max, List, [], ◌∷◌, ◌++◌, map, Option, Some, None}
use Rattle.thr_base.specs.declared.stops.Refusal.{Refusal}
use Rattle.c_tree.specs.declared.expr.Name.{Name}
use Rattle.c_tree.specs.Plain as plain
use Rattle.c_check.specs.declared.body.Body.{Body}
use Rattle.c_check.specs.declared.place.Place.{Place}
use Rattle.c_check.specs.declared.uses.Use.TheVariants as use_as
use Rattle.c_check.specs.declared.meaning.Variable.TheVariants as variable
use Rattle.c_check.specs.declared.meaning.Meaning.TheVariants as meaning
use Rattle.c_check.specs.declared.test.Condition as stored_condition
use Rattle.c_check.specs.declared.instruction.Instruction.{Instruction}
use Rattle.c_check.specs.declared.instruction.Instruction.TheVariants as instruction
use Rattle.c_check.specs.Scope.{Scopes, declare}
use Rattle.c_check.specs.Plan.{Condition, Stmts, code, stored_condition_of}
use Rattle.c_check.specs.Resolve.{assign_if, first, first_locals, locals, set_if, stmt, stmt_locals, stmts, stmts_locals}
use Rattle.c_check.specs.Temporaries.{condition_need, need}
use Rattle.c_check.specs.Broken.{first_broken, locals_broken, not_in_atomic, stmt_broken, stmts_broken, twice, value_if_broken}
use Rattle.c_check.specs.First.{earlier, first_of}

abbrev pub nothing : Body
nothing = record { locals = []; temporaries = 0; code = []; refusal = None }

-- what is found of one part, and then of another
unfoldable pub together : Body → Body → Body
together a b = record { locals = a.locals ++ b.locals; temporaries = max a.temporaries b.temporaries; code = a.code ++ b.code; refusal = earlier a.refusal b.refusal }

-- a rule that is broken, if one is
unfoldable pub refused : Option Refusal → Body
refused refusal = record nothing { refusal = refusal }

-- instructions, with the temporaries that they need
unfoldable pub written : ℕ → List Instruction → Body
written count instructions = record nothing { temporaries = count; code = instructions }

-- the name of a local
unfoldable pub named : Name → Body
named x = record nothing { locals = x.text ∷ [] }

-- locals, what they and their statements do, and the rules that are broken there
unfoldable pub found : List plain.Local → Stmts → List Refusal → Body
found ls ss broken = record { locals = map (λ l. l.name.text) ls; temporaries = need ss; code = code ss; refusal = first_of broken }

-- ---- of what the text says, with the scopes in front of it and the number of the next local

unfoldable pub stmt_found : Place → Scopes → ℕ → plain.Stmt → Body
stmt_found p ss next s = found (stmt_locals s) (stmt ss next s) (stmt_broken p ss next s)

-- what stands behind an `else`, if there is one
abbrev pub other_found : Place → Scopes → ℕ → Option plain.Stmt → Body
other_found p ss next None = nothing
other_found p ss next (Some s) = stmt_found p ss next s

unfoldable pub stmts_found : Place → Scopes → ℕ → plain.Stmts → Body
stmts_found p ss next body = found (stmts_locals body) (stmts ss next body) (stmts_broken p ss next body)

unfoldable pub locals_found : Scopes → ℕ → List plain.Local → Body
locals_found ss next ls = found ls (locals ss next ls) (locals_broken ss next ls)

unfoldable pub local_found : Scopes → ℕ → plain.Local → Body
local_found ss next l = found (l ∷ []) (set_if visible l.name l.start) (twice ss l.name ++ value_if_broken visible use_as.Number l.start)
  where
    visible : Scopes
    visible = declare l.name (meaning.Integer (variable.Own next)) ss

unfoldable pub first_found : Scopes → ℕ → plain.First → Body
first_found ss next f = found (first_locals f) (first ss next f) (first_broken ss next f)

-- ---- of the parts of compound statements

-- a condition is tested, where an instruction with it is written
unfoldable pub tested : (stored_condition.Condition → Instruction) → Condition → Body
tested instruction_with c = written (condition_need c) (instruction_with (stored_condition_of c) ∷ [])

-- an instruction that may not stand in an atomic block
unfoldable pub outside_atomic : Place → ℕ → Instruction → Body
outside_atomic p from i = record nothing { code = i ∷ []; refusal = first_of (not_in_atomic p from) }

-- the end of a loop, with its last part
unfoldable pub loop_end : Scopes → Option plain.Assign → Body
loop_end ss last = written (need (assign_if ss last)) (instruction.Last ∷ (code (assign_if ss last) ++ instruction.EndLoop ∷ []))

-- the end of an atomic block, in front of which so many temporaries were needed: what is in it needs none
abbrev pub atomic_end : ℕ → Body → Body
atomic_end count body = record body { temporaries = count; code = body.code ++ instruction.EndAtomic ∷ [] }
