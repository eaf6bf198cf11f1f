-- What is declared changes the innermost scope alone.
use Rattle.std.proofs.Common.{◌≡◌, ℕ, ◌+◌, List, [], ◌∷◌, drop, refl, ◌∙◌}
use Rattle.c_tree.specs.declared.expr.Name.{Name}
use Rattle.c_tree.specs.Plain as plain
use Rattle.c_check.specs.declared.meaning.Meaning.{Meaning}
use Rattle.c_check.specs.declared.meaning.Meaning.TheVariants as meaning
use Rattle.c_check.specs.declared.meaning.Variable.TheVariants as variable
use Rattle.c_check.specs.Scope.{Scopes, declare}
use Rattle.c_check.specs.Resolve.{behind, behind_all, past, with_first, with_handles, with_locals}

pub drop-declare : (x : Name) (m : Meaning) (ss : Scopes) → drop 1 (declare x m ss) ≡ drop 1 ss
drop-declare x m [] = refl
drop-declare x m (s ∷ ss) = refl

pub drop-with_locals : (ss : Scopes) (next : ℕ) (ls : List plain.Local) → drop 1 (with_locals ss next ls) ≡ drop 1 ss
drop-with_locals ss next [] = refl
drop-with_locals ss next (l ∷ ls) = drop-with_locals (declare l.name (meaning.Integer (variable.Own next)) ss) (next + 1) ls ∙ drop-declare l.name _ ss

pub drop-with_handles : (ss : Scopes) (xs : List Name) → drop 1 (with_handles ss xs) ≡ drop 1 ss
drop-with_handles ss [] = refl
drop-with_handles ss (x ∷ xs) = drop-with_handles (declare x meaning.Handle ss) xs ∙ drop-declare x _ ss

pub drop-with_first : (ss : Scopes) (next : ℕ) (f : plain.First) → drop 1 (with_first ss next f) ≡ drop 1 ss
drop-with_first ss next (plain.First.Declares from ls) = drop-with_locals ss next ls
drop-with_first ss next (plain.First.Assigns a) = refl
drop-with_first ss next (plain.First.Nothing from) = refl

mutual
  pub drop-behind : (ss : Scopes) (next : ℕ) (s : plain.Stmt) → drop 1 (behind ss next s) ≡ drop 1 ss
  drop-behind ss next (plain.Stmt.Locals from ls) = drop-with_locals ss next ls
  drop-behind ss next (plain.Stmt.Handles from names) = drop-with_handles ss names
  drop-behind ss next (plain.Stmt.Atomic from inner) = drop-behind_all ss next inner
  drop-behind ss next (plain.Stmt.Block from inner) = refl
  drop-behind ss next (plain.Stmt.Empty from) = refl
  drop-behind ss next (plain.Stmt.Assigns a) = refl
  drop-behind ss next (plain.Stmt.If from c s) = refl
  drop-behind ss next (plain.Stmt.IfElse from c s t) = refl
  drop-behind ss next (plain.Stmt.While from c s) = refl
  drop-behind ss next (plain.Stmt.For from first c last s) = refl
  drop-behind ss next (plain.Stmt.Break from) = refl
  drop-behind ss next (plain.Stmt.Return from) = refl
  drop-behind ss next (plain.Stmt.Calls c) = refl

  pub drop-behind_all : (ss : Scopes) (next : ℕ) (body : plain.Stmts) → drop 1 (behind_all ss next body) ≡ drop 1 ss
  drop-behind_all ss next plain.Stmts.End = refl
  drop-behind_all ss next (plain.Stmts.Then s rest) = drop-behind_all (behind ss next s) (past next s) rest ∙ drop-behind ss next s
