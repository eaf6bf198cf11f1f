-- The grammar of statements: which tokens a tree stands for, by cases on the tree.
use Rattle.std.specs.Prelude.{◌≡◌, ◌≢◌, ℕ, zero, suc, Option, Some, None}
use Rattle.c_tree.specs.declared.term.Term.TheVariants as terms
use Rattle.c_tree.specs.declared.stmt.Around.{Around}
use Rattle.c_tree.specs.declared.stmt.Around.TheVariants as arounds
use Rattle.c_tree.specs.declared.stmt.Block.{Block, out-Block}
use Rattle.c_tree.specs.declared.stmt.First.{First}
use Rattle.c_tree.specs.declared.stmt.First.TheVariants as firsts
use Rattle.c_tree.specs.declared.stmt.Stmt.{Stmt, out-Stmt}
use Rattle.c_tree.specs.declared.stmt.Stmt.TheOpen.{Stmt-F}
use Rattle.c_tree.specs.Next.{term_at}
use Rattle.c_tree.specs.Grammar.{Is, Stands}
use Rattle.c_tree.specs.Sequence.{Part, ◌then◌, Headed, Perhaps, AreAll, InParens, EmptyParens}
use Rattle.c_tree.specs.GrammarSimple.{IsNil, IsCond, IsAssign, IsCall, IsLocal, IsHandles}

-- `()` and `;`
abbrev pub IsWordEnd : Part
IsWordEnd = EmptyParens then Stands terms.Semicolon

-- A `break` stands in a loop alone.
abbrev pub IsBreak : Around → ℕ → Part
IsBreak arounds.Loop from = Headed terms.Break from (Stands terms.Semicolon)
IsBreak arounds.Nothing from = λ ts rest. ⊥

-- The rest of an `if`: `else` and a statement, or no `else`, since an `else` belongs to the nearest `if`.
abbrev pub IsElse : (Stmt → Part) → Option Stmt → Part
IsElse IsInner None ts rest = (ts ≡ rest) × (term_at rest ≢ terms.Else)
IsElse IsInner (Some s) ts rest = (Stands terms.Else then IsInner s) ts rest

-- the first part of a `for`, with expressions of at most so many levels
abbrev pub IsFirst : ℕ → First → Part
IsFirst levels (firsts.Local l) = IsLocal levels l
IsFirst levels (firsts.Assign a) = IsAssign levels a then Stands terms.Semicolon
IsFirst levels (firsts.Empty from) = Is terms.Semicolon from

-- With expressions of at most so many levels, and with statements inside as Inner says, which go by what is around.
module _ (levels : ℕ) (Inner : Around → Stmt → Part) where
  abbrev pub IsBlock : Around → Block → Part
  IsBlock around b = Headed terms.LeftBrace (out-Block b).from (AreAll (Inner around) (out-Block b).stmts then Stands terms.RightBrace)

  abbrev pub IsLayer : Around → Stmt-F Stmt Block → Part
  IsLayer around (Stmt-F.Block b) = IsBlock around b
  IsLayer around (Stmt-F.Empty from) = Is terms.Semicolon from
  IsLayer around (Stmt-F.Local l) = IsLocal levels l
  IsLayer around (Stmt-F.Assign a) = IsAssign levels a then Stands terms.Semicolon
  IsLayer around (Stmt-F.If from c s otherwise) = Headed terms.If from (InParens (IsCond levels c) then Inner around s then IsElse (Inner around) otherwise)
  IsLayer around (Stmt-F.While from c s) = Headed terms.While from (InParens (IsCond levels c) then Inner arounds.Loop s)
  IsLayer around (Stmt-F.For from first c last s) = Headed terms.For from
      (InParens (IsFirst levels first then Perhaps (IsCond levels) c then Stands terms.Semicolon then Perhaps (IsAssign levels) last) then Inner arounds.Loop s)
  IsLayer around (Stmt-F.Break from) = IsBreak around from
  IsLayer around (Stmt-F.Return from value) = Headed terms.Return from (Perhaps IsNil value then Stands terms.Semicolon)
  IsLayer around (Stmt-F.Call c) = IsCall levels c then Stands terms.Semicolon
  IsLayer around (Stmt-F.Atomic from ss) = Headed terms.AtomicBegin from (IsWordEnd then AreAll (Inner around) ss then Stands terms.AtomicEnd then IsWordEnd)
  IsLayer around (Stmt-F.Handles h) = IsHandles h

-- A statement with at most so many levels of statements, this one included, and with each expression within those left.
unfoldable pub IsStmt : ℕ → Around → Stmt → Part
IsStmt zero around s = λ ts rest. ⊥
IsStmt (suc levels) around s = IsLayer levels (IsStmt levels) around (out-Stmt s)
