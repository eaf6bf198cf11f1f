-- Which token a part begins with.
use Rattle.std.proofs.Common.{◌≡◌, ℕ, zero, suc, Bool, true, false, List, [], ◌∷◌, refl, ap, ◌∙◌}
use Rattle.c_lex.specs.Tokens.{Lexeme}
use Rattle.c_tree.specs.declared.term.Term.{Term}
use Rattle.c_tree.specs.declared.term.Term.TheVariants as terms
use Rattle.c_tree.specs.declared.simple.Assign.{Assign}
use Rattle.c_tree.specs.declared.simple.Assign.TheVariants as assigns
use Rattle.c_tree.specs.declared.simple.Call.{Call}
use Rattle.c_tree.specs.declared.simple.Call.TheVariants as calls
use Rattle.c_tree.specs.declared.simple.Cond.{Cond}
use Rattle.c_tree.specs.declared.simple.Cond.TheVariants as conds
use Rattle.c_tree.specs.declared.simple.Nil.{Nil}
use Rattle.c_tree.specs.declared.simple.Nil.TheVariants as nils
use Rattle.c_tree.specs.declared.simple.Qual.{Qual}
use Rattle.c_tree.specs.declared.simple.QualKind.{QualKind}
use Rattle.c_tree.specs.declared.simple.QualKind.TheVariants as kinds
use Rattle.c_tree.specs.declared.simple.Itype.{Itype}
use Rattle.c_tree.specs.declared.simple.Itype.TheVariants as itypes
use Rattle.c_tree.specs.declared.simple.Local.{Local}
use Rattle.c_tree.specs.declared.stmt.Around.{Around}
use Rattle.c_tree.specs.declared.stmt.Around.TheVariants as arounds
use Rattle.c_tree.specs.declared.stmt.Block.{Block, out-Block}
use Rattle.c_tree.specs.declared.stmt.Stmt.{Stmt, out-Stmt}
use Rattle.c_tree.specs.declared.stmt.Stmt.TheOpen.{Stmt-F}
use Rattle.c_tree.specs.Term.{same_term}
use Rattle.c_tree.specs.inside.Input.{term_at}
use Rattle.c_tree.specs.inside.Stmt.{begins}
use Rattle.c_tree.specs.Sequence.{Part, AreAll}
use Rattle.c_tree.specs.GrammarSimple.{qual_term, IsQual, IsItype, IsNil, IsCond, IsAssign, IsCall, IsLocal}
use Rattle.c_tree.specs.GrammarStmt.{IsBreak, IsLayer, IsStmt}
use Rattle.c_tree.proofs.Again.{is_term}
use Rattle.c_tree.proofs.AgainSimple.{leads, expr_leads}

pub impossible : {A : Type 0} → ◌≡◌ {A = Bool} false true → A
impossible e = absurd cc

-- the token begins a declaration of variables
abbrev pub declares : Term → Bool
declares terms.Static = true
declares terms.Volatile = true
declares terms.Extern = true
declares terms.Int = true
declares terms.Long = true
declares _ = false

-- the token begins an assignment
abbrev pub sets : Term → Bool
sets terms.Name = true
sets terms.Increment = true
sets terms.Decrement = true
sets _ = false

-- the token is the word of a call
abbrev pub called : Term → Bool
called terms.Assert = true
called terms.Assume = true
called terms.ReachError = true
called terms.Abort = true
called terms.Exit = true
called terms.MutexLock = true
called terms.MutexUnlock = true
called terms.MutexDestroy = true
called terms.MutexInit = true
called terms.Create = true
called terms.Join = true
called _ = false

qual_declares : (kind : QualKind) → declares (qual_term kind) ≡ true
qual_declares kinds.Static = refl
qual_declares kinds.Volatile = refl
qual_declares kinds.Extern = refl

itype_declares : (kind : Itype) (ts rest : List Lexeme) → IsItype kind ts rest → declares (term_at ts) ≡ true
itype_declares (itypes.Int from) ts rest is = ap declares (is_term terms.Int from ts rest is)
itype_declares (itypes.Long from) ts rest is = ap declares (is_term terms.Long from ts rest is)
itype_declares (itypes.LongInt from) ts rest is = ap declares (is_term terms.Long from ts is.0 is.1)

typed_declares : (qs : List Qual) (kind : Itype) (ts mid rest : List Lexeme) → AreAll IsQual qs ts mid → IsItype kind mid rest → declares (term_at ts) ≡ true
typed_declares [] kind ts mid rest are is = ap (λ (l : List Lexeme). declares (term_at l)) are ∙ itype_declares kind mid rest is
typed_declares (q ∷ qs) kind ts mid rest are is = ap declares (is_term (qual_term q.kind) q.from ts are.0 are.1) ∙ qual_declares q.kind

pub local_declares : (levels : ℕ) (l : Local) (ts rest : List Lexeme) → IsLocal levels l ts rest → declares (term_at ts) ≡ true
local_declares levels l ts rest is = typed_declares l.quals l.itype ts is.1.0 is.1.2.0 is.1.1 is.1.2.1

pub assign_sets : (levels : ℕ) (a : Assign) (ts rest : List Lexeme) → IsAssign levels a ts rest → sets (term_at ts) ≡ true
assign_sets levels (assigns.Set x e) ts rest is = ap sets (is_term terms.Name x.from ts is.0 is.1.0)
assign_sets levels (assigns.Add x e) ts rest is = ap sets (is_term terms.Name x.from ts is.0 is.1.0)
assign_sets levels (assigns.Subtract x e) ts rest is = ap sets (is_term terms.Name x.from ts is.0 is.1.0)
assign_sets levels (assigns.Increment x) ts rest is = ap sets (is_term terms.Name x.from ts is.0 is.1.0)
assign_sets levels (assigns.Decrement x) ts rest is = ap sets (is_term terms.Name x.from ts is.0 is.1.0)
assign_sets levels (assigns.IncrementFirst from x) ts rest is = ap sets (is_term terms.Increment from ts is.0 is.1)
assign_sets levels (assigns.DecrementFirst from x) ts rest is = ap sets (is_term terms.Decrement from ts is.0 is.1)

pub call_called : (levels : ℕ) (c : Call) (ts rest : List Lexeme) → IsCall levels c ts rest → called (term_at ts) ≡ true
call_called levels (calls.Assert from e) ts rest is = ap called (is_term terms.Assert from ts is.0 is.1)
call_called levels (calls.Assume from e) ts rest is = ap called (is_term terms.Assume from ts is.0 is.1)
call_called levels (calls.ReachError from) ts rest is = ap called (is_term terms.ReachError from ts is.0 is.1)
call_called levels (calls.Abort from) ts rest is = ap called (is_term terms.Abort from ts is.0 is.1)
call_called levels (calls.Exit from n) ts rest is = ap called (is_term terms.Exit from ts is.0 is.1)
call_called levels (calls.Lock from m) ts rest is = ap called (is_term terms.MutexLock from ts is.0 is.1)
call_called levels (calls.Unlock from m) ts rest is = ap called (is_term terms.MutexUnlock from ts is.0 is.1)
call_called levels (calls.Destroy from m) ts rest is = ap called (is_term terms.MutexDestroy from ts is.0 is.1)
call_called levels (calls.Init from m n) ts rest is = ap called (is_term terms.MutexInit from ts is.0 is.1)
call_called levels (calls.Create from t a f x) ts rest is = ap called (is_term terms.Create from ts is.0 is.1)
call_called levels (calls.Join from t n) ts rest is = ap called (is_term terms.Join from ts is.0 is.1)

-- ---- where another token would end the part

leads_no_semicolon : (k : Term) → leads k ≡ true → same_term k terms.Semicolon ≡ false
unfolding same_term
leads_no_semicolon terms.Semicolon so = impossible so
leads_no_semicolon _ so = refl

pub cond_no_semicolon : (levels : ℕ) (c : Cond) (ts rest : List Lexeme) → IsCond levels c ts rest → same_term (term_at ts) terms.Semicolon ≡ false
unfolding same_term
cond_no_semicolon levels (conds.Nondet n) ts rest is = ap (λ (k : Term). same_term k terms.Semicolon) (is_term terms.Nondet n.from ts is.0 is.1)
cond_no_semicolon levels (conds.Expr e) ts rest is = leads_no_semicolon (term_at ts) (expr_leads levels e ts rest is)

pub nil_no_semicolon : (n : Nil) (ts rest : List Lexeme) → IsNil n ts rest → same_term (term_at ts) terms.Semicolon ≡ false
unfolding same_term
nil_no_semicolon (nils.Null from) ts rest is = ap (λ (k : Term). same_term k terms.Semicolon) (is_term terms.Null from ts rest is)
nil_no_semicolon (nils.Zero from) ts rest is = ap (λ (k : Term). same_term k terms.Semicolon) (is_term terms.Number from ts rest is.0)

sets_no_paren : (k : Term) → sets k ≡ true → same_term k terms.RightParen ≡ false
unfolding same_term
sets_no_paren terms.RightParen so = impossible so
sets_no_paren _ so = refl

pub assign_no_paren : (levels : ℕ) (a : Assign) (ts rest : List Lexeme) → IsAssign levels a ts rest → same_term (term_at ts) terms.RightParen ≡ false
assign_no_paren levels a ts rest is = sets_no_paren (term_at ts) (assign_sets levels a ts rest is)

pub begins_no_brace : (around : Around) (k : Term) → begins around k ≡ true → same_term k terms.RightBrace ≡ false
unfolding same_term
begins_no_brace around terms.RightBrace so = impossible so
begins_no_brace around _ so = refl

pub begins_no_end : (around : Around) (k : Term) → begins around k ≡ true → same_term k terms.AtomicEnd ≡ false
unfolding same_term
begins_no_end around terms.AtomicEnd so = impossible so
begins_no_end around _ so = refl

-- ---- statements

declares_begins : (around : Around) (k : Term) → declares k ≡ true → begins around k ≡ true
declares_begins around terms.Static so = refl
declares_begins around terms.Volatile so = refl
declares_begins around terms.Extern so = refl
declares_begins around terms.Int so = refl
declares_begins around terms.Long so = refl
declares_begins around _ so = impossible so

sets_begins : (around : Around) (k : Term) → sets k ≡ true → begins around k ≡ true
sets_begins around terms.Name so = refl
sets_begins around terms.Increment so = refl
sets_begins around terms.Decrement so = refl
sets_begins around _ so = impossible so

called_begins : (around : Around) (k : Term) → called k ≡ true → begins around k ≡ true
called_begins around terms.Assert so = refl
called_begins around terms.Assume so = refl
called_begins around terms.ReachError so = refl
called_begins around terms.Abort so = refl
called_begins around terms.Exit so = refl
called_begins around terms.MutexLock so = refl
called_begins around terms.MutexUnlock so = refl
called_begins around terms.MutexDestroy so = refl
called_begins around terms.MutexInit so = refl
called_begins around terms.Create so = refl
called_begins around terms.Join so = refl
called_begins around _ so = impossible so

break_begins : (around : Around) (from : ℕ) (ts rest : List Lexeme) → IsBreak around from ts rest → begins around (term_at ts) ≡ true
break_begins arounds.Loop from ts rest is = ap (begins arounds.Loop) (is_term terms.Break from ts is.0 is.1)
break_begins arounds.Nothing from ts rest is = absurd is

layer_begins : (levels : ℕ) (Inner : Around → Stmt → Part) (around : Around) (layer : Stmt-F Stmt Block) (ts rest : List Lexeme) → IsLayer levels Inner around layer ts rest → begins around (term_at ts) ≡ true
layer_begins levels Inner around (Stmt-F.Block b) ts rest is = ap (begins around) (is_term terms.LeftBrace (out-Block b).from ts is.0 is.1)
layer_begins levels Inner around (Stmt-F.Empty from) ts rest is = ap (begins around) (is_term terms.Semicolon from ts rest is)
layer_begins levels Inner around (Stmt-F.Local l) ts rest is = declares_begins around (term_at ts) (local_declares levels l ts rest is)
layer_begins levels Inner around (Stmt-F.Assign a) ts rest is = sets_begins around (term_at ts) (assign_sets levels a ts is.0 is.1)
layer_begins levels Inner around (Stmt-F.If from c s otherwise) ts rest is = ap (begins around) (is_term terms.If from ts is.0 is.1)
layer_begins levels Inner around (Stmt-F.While from c s) ts rest is = ap (begins around) (is_term terms.While from ts is.0 is.1)
layer_begins levels Inner around (Stmt-F.For from first c last s) ts rest is = ap (begins around) (is_term terms.For from ts is.0 is.1)
layer_begins levels Inner around (Stmt-F.Break from) ts rest is = break_begins around from ts rest is
layer_begins levels Inner around (Stmt-F.Return from value) ts rest is = ap (begins around) (is_term terms.Return from ts is.0 is.1)
layer_begins levels Inner around (Stmt-F.Call c) ts rest is = called_begins around (term_at ts) (call_called levels c ts is.0 is.1)
layer_begins levels Inner around (Stmt-F.Atomic from ss) ts rest is = ap (begins around) (is_term terms.AtomicBegin from ts is.0 is.1)
layer_begins levels Inner around (Stmt-F.Handles h) ts rest is = ap (begins around) (is_term terms.HandleType h.from ts is.0 is.1)

-- a statement begins with a token that begins one
pub stmt_begins : (levels : ℕ) (around : Around) (s : Stmt) (ts rest : List Lexeme) → IsStmt levels around s ts rest → begins around (term_at ts) ≡ true
unfolding IsStmt
stmt_begins zero around s ts rest is = absurd is
stmt_begins (suc levels) around s ts rest is = layer_begins levels (IsStmt levels) around (out-Stmt s) ts rest is
