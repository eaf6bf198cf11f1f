-- What the statements of a function name is there, and their numbers fit, where the function breaks no rule.
use Rattle.std.proofs.Common.{◌≡◌, ℕ, ◌+◌, ◌≤◌, pos, ◌&&◌, List, [], ◌∷◌, ◌++◌, length, Option, Some, None, refl, sym, ap, subst, ◌∙◌, arith, append_assoc, length-append}
use Rattle.c_tree.specs.declared.expr.Name.{Name}
use Rattle.c_tree.specs.declared.expr.UnaryKind.{UnaryKind}
use Rattle.c_tree.specs.declared.expr.UnaryKind.TheVariants as unary
use Rattle.c_tree.specs.Leaves.{Leaf, NumbersFit, mark_leaf, operator_term, assign_if_leaves, assign_leaves, call_leaves, expr_leaves, first_leaves, local_leaves, stmt_leaves, stmts_leaves, value_if_leaves, value_leaves}
use Rattle.c_tree.specs.Plain as plain
use Rattle.c_check.specs.declared.meaning.Meaning.TheVariants as meaning
use Rattle.c_check.specs.declared.meaning.Variable.TheVariants as variable
use Rattle.c_check.specs.declared.operation.Operation.TheVariants as operation
use Rattle.c_check.specs.declared.test.TestOperation.TheVariants as test_operation
use Rattle.c_check.specs.declared.instruction.Instruction.{Instruction}
use Rattle.c_check.specs.declared.instruction.Instruction.TheVariants as instruction
use Rattle.c_check.specs.declared.place.Place.{Place}
use Rattle.c_check.specs.declared.uses.Kind.TheVariants as kind
use Rattle.c_check.specs.declared.uses.Use.{Use}
use Rattle.c_check.specs.declared.uses.Use.TheVariants as use_as
use Rattle.c_check.specs.Scope.{Scopes, declare, open_scope, variable_of}
use Rattle.c_check.specs.Plan.{Arithmetic, Stmt, Stmts, code, joined, one, postfix, stmt_code, stored_condition_of, test_postfix}
use Rattle.c_check.specs.Broken.{assign_broken, assign_if_broken, call_broken, expr_broken, first_broken, has_name, in_atomic, locals_broken, mark_broken, not_in_atomic, operand_use, sign_broken, sign_use, stmt_broken, stmts_broken, twice, unknown_as, value_broken, value_if_broken}
use Rattle.c_check.specs.Resolve.{arithmetic, assign, assign_if, behind, binary, call, changed, condition, condition_if, first, first_locals, locals, not_zero, past, past_first, prefixed, set, set_if, stmt, stmt_locals, stmts, stmts_locals, test, with_first}
use Rattle.c_check.specs.WellFormed.{Counts, HasCode, HasCondition, HasOperation, HasOperations, HasInstruction, HasTest, HasTests, HasVariable}
use Rattle.c_check.proofs.Named.{HasScopes, all-append, append-none, has-around, has-behind, has-declare, has-declared, has-lock_of, has-open_scope, has-variable_of, has-with_first, three-none}

pub fit-append : (leaves more : List Leaf) → NumbersFit (leaves ++ more) → NumbersFit leaves × NumbersFit more
fit-append [] more fit = (tt, fit)
fit-append (Leaf.Token said place ∷ leaves) more fit = fit-append leaves more fit
fit-append (Leaf.Number value ∷ leaves) more fit = (let both = fit-append leaves more fit.1 in ((fit.0, both.0), both.1))

-- ---- expressions

has-prefixed : (c : Counts) (k : UnaryKind) (a : Arithmetic) → HasOperations c (postfix a) → HasOperations c (postfix (prefixed k a))
has-prefixed c unary.Minus a has = all-append (HasOperation c) (postfix a) (operation.Negate ∷ []) has (tt, tt)
has-prefixed c unary.Plus a has = has
has-prefixed c unary.Not a has = has

has-both : (c : Counts) (a b : Arithmetic) → HasOperations c (postfix a) → HasOperations c (postfix b) → HasOperations c (postfix a ++ postfix b)
has-both c a b has more = all-append (HasOperation c) (postfix a) (postfix b) has more

has-binary : (c : Counts) (o : plain.Operator) (a b : Arithmetic) → HasOperations c (postfix a) → HasOperations c (postfix b) → HasOperations c (postfix (binary o a b))
has-binary c plain.Operator.Plus a b has more = all-append (HasOperation c) (postfix a ++ postfix b) (operation.Add ∷ []) (has-both c a b has more) (tt, tt)
has-binary c plain.Operator.Minus a b has more = all-append (HasOperation c) (postfix a ++ postfix b) (operation.Subtract ∷ []) (has-both c a b has more) (tt, tt)
has-binary c plain.Operator.Times a b has more = all-append (HasOperation c) (postfix a ++ postfix b) (operation.Multiply ∷ []) (has-both c a b has more) (tt, tt)
has-binary c plain.Operator.Or a b has more = has
has-binary c plain.Operator.And a b has more = has
has-binary c plain.Operator.Equal a b has more = has
has-binary c plain.Operator.Unequal a b has more = has
has-binary c plain.Operator.Less a b has more = has
has-binary c plain.Operator.AtMost a b has more = has
has-binary c plain.Operator.Greater a b has more = has
has-binary c plain.Operator.AtLeast a b has more = has

has-arithmetic : (c : Counts) (ss : Scopes) (used : Use) (e : plain.Expr) → HasScopes c ss → NumbersFit (expr_leaves e) → expr_broken ss used e ≡ [] → HasOperations c (postfix (arithmetic ss e))
has-arithmetic c ss used (plain.Expr.Number from value) all fit none = (fit.0, tt)
has-arithmetic c ss used (plain.Expr.Named name) all fit none = (has-variable_of c ss name all none, tt)
has-arithmetic c ss used (plain.Expr.Prefixed from k operand) all fit none =
    has-prefixed c k (arithmetic ss operand) (has-arithmetic c ss (sign_use k) operand all fit (append-none (sign_broken used k from) (expr_broken ss (sign_use k) operand) none).1)
has-arithmetic c ss used (plain.Expr.Parens from inner) all fit none = has-arithmetic c ss used inner all fit none
has-arithmetic c ss used (plain.Expr.Binary o from left right) all fit none =
    let fits = fit-append (expr_leaves left) (mark_leaf (operator_term o) from ∷ expr_leaves right) fit in
    let nones = three-none (expr_broken ss (operand_use o) left) (mark_broken used o from (has_name left && has_name right)) (expr_broken ss (operand_use o) right) none in
    has-binary c o (arithmetic ss left) (arithmetic ss right) (has-arithmetic c ss (operand_use o) left all fits.0 nones.0) (has-arithmetic c ss (operand_use o) right all fits.1 nones.2)

-- ---- conditions

has-not_zero : (c : Counts) (from : ℕ) (a : Arithmetic) → HasOperations c (postfix a) → HasTests c (test_postfix (not_zero from a))
has-not_zero c from a has = ((has, (omega arith, tt)), tt)

-- `&&` and `||` of conditions, a comparison of numbers, and a number that is tested
has-test_binary : (c : Counts) (ss : Scopes) (o : plain.Operator) (from : ℕ) (left right : plain.Expr)
    → HasOperations c (postfix (arithmetic ss left)) → HasOperations c (postfix (arithmetic ss right)) → HasTests c (test_postfix (test ss left)) → HasTests c (test_postfix (test ss right))
    → HasTests c (test_postfix (test ss (plain.Expr.Binary o from left right)))
has-test_binary c ss plain.Operator.Or from left right a b t u =
    all-append (HasTest c) (test_postfix (test ss left) ++ test_postfix (test ss right)) (test_operation.Or ∷ []) (all-append (HasTest c) (test_postfix (test ss left)) (test_postfix (test ss right)) t u) (tt, tt)
has-test_binary c ss plain.Operator.And from left right a b t u =
    all-append (HasTest c) (test_postfix (test ss left) ++ test_postfix (test ss right)) (test_operation.And ∷ []) (all-append (HasTest c) (test_postfix (test ss left)) (test_postfix (test ss right)) t u) (tt, tt)
has-test_binary c ss plain.Operator.Equal from left right a b t u = ((a, b), tt)
has-test_binary c ss plain.Operator.Unequal from left right a b t u = ((a, b), tt)
has-test_binary c ss plain.Operator.Less from left right a b t u = ((a, b), tt)
has-test_binary c ss plain.Operator.AtMost from left right a b t u = ((a, b), tt)
has-test_binary c ss plain.Operator.Greater from left right a b t u = ((a, b), tt)
has-test_binary c ss plain.Operator.AtLeast from left right a b t u = ((a, b), tt)
has-test_binary c ss plain.Operator.Plus from left right a b t u = has-not_zero c (plain.expr_place left) (Arithmetic.Sum (arithmetic ss left) (arithmetic ss right)) (has-binary c plain.Operator.Plus (arithmetic ss left) (arithmetic ss right) a b)
has-test_binary c ss plain.Operator.Minus from left right a b t u = has-not_zero c (plain.expr_place left) (Arithmetic.Difference (arithmetic ss left) (arithmetic ss right)) (has-binary c plain.Operator.Minus (arithmetic ss left) (arithmetic ss right) a b)
has-test_binary c ss plain.Operator.Times from left right a b t u = has-not_zero c (plain.expr_place left) (Arithmetic.Product (arithmetic ss left) (arithmetic ss right)) (has-binary c plain.Operator.Times (arithmetic ss left) (arithmetic ss right) a b)

has-test : (c : Counts) (ss : Scopes) (used : Use) (e : plain.Expr) → HasScopes c ss → NumbersFit (expr_leaves e) → expr_broken ss used e ≡ [] → HasTests c (test_postfix (test ss e))
has-test c ss used (plain.Expr.Number from value) all fit none = has-not_zero c from (Arithmetic.Number value) (fit.0, tt)
has-test c ss used (plain.Expr.Named name) all fit none = has-not_zero c name.from (Arithmetic.Value (variable_of ss name)) (has-variable_of c ss name all none, tt)
has-test c ss used (plain.Expr.Prefixed from unary.Not operand) all fit none =
    all-append (HasTest c) (test_postfix (test ss operand)) (test_operation.Not ∷ [])
    (has-test c ss use_as.Condition operand all fit (append-none (sign_broken used unary.Not from) (expr_broken ss use_as.Condition operand) none).1) (tt, tt)
has-test c ss used (plain.Expr.Prefixed from unary.Minus operand) all fit none =
    has-not_zero c from (Arithmetic.Negated (arithmetic ss operand)) (has-prefixed c unary.Minus (arithmetic ss operand) (has-arithmetic c ss use_as.Number operand all fit none))
has-test c ss used (plain.Expr.Prefixed from unary.Plus operand) all fit none = has-not_zero c from (arithmetic ss operand) (has-arithmetic c ss use_as.Number operand all fit none)
has-test c ss used (plain.Expr.Parens from inner) all fit none = has-test c ss used inner all fit none
has-test c ss used (plain.Expr.Binary o from left right) all fit none =
    let fits = fit-append (expr_leaves left) (mark_leaf (operator_term o) from ∷ expr_leaves right) fit in
    let nones = three-none (expr_broken ss (operand_use o) left) (mark_broken used o from (has_name left && has_name right)) (expr_broken ss (operand_use o) right) none in
    has-test_binary c ss o from left right (has-arithmetic c ss (operand_use o) left all fits.0 nones.0) (has-arithmetic c ss (operand_use o) right all fits.1 nones.2)
    (has-test c ss (operand_use o) left all fits.0 nones.0) (has-test c ss (operand_use o) right all fits.1 nones.2)

has-condition : (c : Counts) (ss : Scopes) (v : plain.Value) → HasScopes c ss → NumbersFit (value_leaves v) → value_broken ss use_as.Condition v ≡ [] → HasCondition c (stored_condition_of (condition ss v))
has-condition c ss (plain.Value.Input from) all fit none = tt
has-condition c ss (plain.Value.Computed e) all fit none = has-test c ss use_as.Condition e all fit none

has-condition_if : (c : Counts) (ss : Scopes) (from : ℕ) (v : Option plain.Value) → HasScopes c ss → NumbersFit (value_if_leaves v) → value_if_broken ss use_as.Condition v ≡ [] → HasCondition c (stored_condition_of (condition_if ss from v))
has-condition_if c ss from None all fit none = has-not_zero c from (Arithmetic.Number (pos 1)) (omega arith, tt)
has-condition_if c ss from (Some v) all fit none = has-condition c ss v all fit none

-- ---- assignments

has-set : (c : Counts) (ss : Scopes) (x : Name) (v : plain.Value) → HasScopes c ss → NumbersFit (value_leaves v) → unknown_as kind.Integer ss x ≡ [] → value_broken ss use_as.Number v ≡ [] → HasCode c (code (set ss x v))
has-set c ss x (plain.Value.Input from) all fit named none = (has-variable_of c ss x all named, tt)
has-set c ss x (plain.Value.Computed e) all fit named none = ((has-variable_of c ss x all named, has-arithmetic c ss use_as.Number e all fit none), tt)

has-sum : (c : Counts) (ss : Scopes) (from : ℕ) (x : Name) (a : Arithmetic) → HasScopes c ss → unknown_as kind.Integer ss x ≡ [] → HasOperations c (postfix a) → HasCode c (code (changed ss from x Arithmetic.Sum a))
has-sum c ss from x a all named has =
    let is = has-variable_of c ss x all named in
    ((is, has-binary c plain.Operator.Plus (Arithmetic.Value (variable_of ss x)) a (is, tt) has), tt)

has-difference : (c : Counts) (ss : Scopes) (from : ℕ) (x : Name) (a : Arithmetic) → HasScopes c ss → unknown_as kind.Integer ss x ≡ [] → HasOperations c (postfix a) → HasCode c (code (changed ss from x Arithmetic.Difference a))
has-difference c ss from x a all named has =
    let is = has-variable_of c ss x all named in
    ((is, has-binary c plain.Operator.Minus (Arithmetic.Value (variable_of ss x)) a (is, tt) has), tt)

has-assign : (c : Counts) (ss : Scopes) (a : plain.Assign) → HasScopes c ss → NumbersFit (assign_leaves a) → assign_broken ss a ≡ [] → HasCode c (code (assign ss a))
has-assign c ss (plain.Assign.Set x v) all fit none = (let nones = append-none (unknown_as kind.Integer ss x) (value_broken ss use_as.Number v) none in has-set c ss x v all fit nones.0 nones.1)
has-assign c ss (plain.Assign.Add x e) all fit none =
    let nones = append-none (unknown_as kind.Integer ss x) (expr_broken ss use_as.Number e) none in
    has-sum c ss x.from x (arithmetic ss e) all nones.0 (has-arithmetic c ss use_as.Number e all fit nones.1)
has-assign c ss (plain.Assign.Subtract x e) all fit none =
    let nones = append-none (unknown_as kind.Integer ss x) (expr_broken ss use_as.Number e) none in
    has-difference c ss x.from x (arithmetic ss e) all nones.0 (has-arithmetic c ss use_as.Number e all fit nones.1)
has-assign c ss (plain.Assign.Increment x) all fit none = has-sum c ss x.from x (Arithmetic.Number (pos 1)) all none (omega arith, tt)
has-assign c ss (plain.Assign.Decrement x) all fit none = has-difference c ss x.from x (Arithmetic.Number (pos 1)) all none (omega arith, tt)
has-assign c ss (plain.Assign.IncrementFirst from x) all fit none = has-sum c ss from x (Arithmetic.Number (pos 1)) all none (omega arith, tt)
has-assign c ss (plain.Assign.DecrementFirst from x) all fit none = has-difference c ss from x (Arithmetic.Number (pos 1)) all none (omega arith, tt)

has-assign_if : (c : Counts) (ss : Scopes) (a : Option plain.Assign) → HasScopes c ss → NumbersFit (assign_if_leaves a) → assign_if_broken ss a ≡ [] → HasCode c (code (assign_if ss a))
has-assign_if c ss None all fit none = tt
has-assign_if c ss (Some a) all fit none = has-assign c ss a all fit none

-- ---- declarations

pub code-joined : (some more : Stmts) → code (joined some more) ≡ code some ++ code more
code-joined Stmts.End more = refl
code-joined (Stmts.Then s rest) more = ap (λ is. stmt_code s ++ is) (code-joined rest more) ∙ sym (append_assoc (stmt_code s) (code rest) (code more))

has-joined : (c : Counts) (some more : Stmts) → HasCode c (code some) → HasCode c (code more) → HasCode c (code (joined some more))
has-joined c some more has also = subst (HasCode c) (sym (code-joined some more)) (all-append (HasInstruction c) (code some) (code more) has also)

has-set_if : (c : Counts) (ss : Scopes) (x : Name) (v : Option plain.Value) → HasScopes c ss → HasVariable c (variable_of ss x) → NumbersFit (value_if_leaves v) → value_if_broken ss use_as.Number v ≡ [] → HasCode c (code (set_if ss x v))
has-set_if c ss x None all is fit none = tt
has-set_if c ss x (Some (plain.Value.Input from)) all is fit none = (is, tt)
has-set_if c ss x (Some (plain.Value.Computed e)) all is fit none = ((is, has-arithmetic c ss use_as.Number e all fit none), tt)

has-locals : (c : Counts) (ss : Scopes) (next : ℕ) (ls : List plain.Local) → next + length ls ≤ c.locals → HasScopes c ss → NumbersFit (local_leaves ls) → locals_broken ss next ls ≡ [] → HasCode c (code (locals ss next ls))
has-locals c ss next [] within all fit none = tt
has-locals c ss next (l ∷ ls) within all fit none =
    let visible : Scopes = declare l.name (meaning.Integer (variable.Own next)) ss in
    let fits = fit-append (value_if_leaves l.start) (local_leaves ls) fit in
    let nones = three-none (twice ss l.name) (value_if_broken visible use_as.Number l.start) (locals_broken visible (next + 1) ls) none in
    let seen : HasScopes c visible = has-declare c l.name (meaning.Integer (variable.Own next)) ss (omega arith) all in
    has-joined c (set_if visible l.name l.start) (locals visible (next + 1) ls)
    (has-set_if c visible l.name l.start seen (has-declared c ss l.name next all nones.0 (omega arith)) fits.0 nones.1)
    (has-locals c visible (next + 1) ls (omega arith) seen fits.1 nones.2)

has-first : (c : Counts) (ss : Scopes) (next : ℕ) (f : plain.First) → next + length (first_locals f) ≤ c.locals → HasScopes c ss → NumbersFit (first_leaves f) → first_broken ss next f ≡ [] → HasCode c (code (first ss next f))
has-first c ss next (plain.First.Declares from ls) within all fit none = has-locals c ss next ls within all fit none
has-first c ss next (plain.First.Assigns a) within all fit none = has-assign c ss a all fit none
has-first c ss next (plain.First.Nothing from) within all fit none = tt

-- ---- statements

has-call : (c : Counts) (p : Place) (ss : Scopes) (k : plain.Call) → HasScopes c ss → NumbersFit (call_leaves k) → call_broken p ss k ≡ [] → HasCode c (code (call ss k))
has-call c p ss (plain.Call.Assert from e) all fit none = (has-test c ss use_as.Condition e all fit none, tt)
has-call c p ss (plain.Call.Assume from e) all fit none = (has-test c ss use_as.Condition e all fit none, tt)
has-call c p ss (plain.Call.ReachError from) all fit none = (has-not_zero c from (Arithmetic.Number (pos 0)) (omega arith, tt), tt)
has-call c p ss (plain.Call.Abort from) all fit none = (has-not_zero c from (Arithmetic.Number (pos 0)) (omega arith, tt), tt)
has-call c p ss (plain.Call.Exit from) all fit none = (tt, tt)
has-call c p ss (plain.Call.Lock from x) all fit none = (has-lock_of c ss x all (append-none (not_in_atomic p from) (unknown_as kind.Lock ss x) none).1, tt)
has-call c p ss (plain.Call.Unlock from x) all fit none = (has-lock_of c ss x all (append-none (not_in_atomic p from) (unknown_as kind.Lock ss x) none).1, tt)
has-call c p ss (plain.Call.Destroy from x) all fit none = tt
has-call c p ss (plain.Call.Init from x) all fit none = tt
has-call c p ss (plain.Call.Create from handle function) all fit none = tt
has-call c p ss (plain.Call.Join from handle) all fit none = tt

-- an instruction that names nothing, in front of others or behind them
has-end : (c : Counts) (is : List Instruction) (i : Instruction) → HasInstruction c i → HasCode c is → HasCode c (is ++ i ∷ [])
has-end c is i has all = all-append (HasInstruction c) is (i ∷ []) all (has, tt)

has-two : (c : Counts) (is more : List Instruction) (i j : Instruction) → HasInstruction c i → HasInstruction c j → HasCode c is → HasCode c more → HasCode c (is ++ i ∷ (more ++ j ∷ []))
has-two c is more i j has also all rest = all-append (HasInstruction c) is (i ∷ (more ++ j ∷ [])) all (has, has-end c more j also rest)

mutual
  has-stmt : (c : Counts) (p : Place) (ss : Scopes) (next : ℕ) (s : plain.Stmt) → next + length (stmt_locals s) ≤ c.locals → HasScopes c ss → NumbersFit (stmt_leaves s) → stmt_broken p ss next s ≡ []
      → HasCode c (code (stmt ss next s))
  has-stmt c p ss next (plain.Stmt.Block from inner) within all fit none = has-stmts c p (open_scope ss) next inner within (has-open_scope c ss (has-around c ss all)) fit none
  has-stmt c p ss next (plain.Stmt.Empty from) within all fit none = tt
  has-stmt c p ss next (plain.Stmt.Locals from ls) within all fit none = has-locals c ss next ls within all fit none
  has-stmt c p ss next (plain.Stmt.Assigns a) within all fit none = has-assign c ss a all fit none
  has-stmt c p ss next (plain.Stmt.If from v s) within all fit none =
      let fits = fit-append (value_leaves v) (stmt_leaves s) fit in
      let nones = append-none (value_broken ss use_as.Condition v) (stmt_broken p (open_scope ss) next s) none in
      let inner = has-stmt c p (open_scope ss) next s within (has-open_scope c ss (has-around c ss all)) fits.1 nones.1 in
      all-append (HasInstruction c) (stmt_code (Stmt.If from (condition ss v) (stmt (open_scope ss) next s) Stmts.End)) []
      (has-condition c ss v all fits.0 nones.0, has-two c (code (stmt (open_scope ss) next s)) [] instruction.Else instruction.EndIf tt tt inner tt) tt
  has-stmt c p ss next (plain.Stmt.IfElse from v s t) within all fit none =
      let fits = fit-append (value_leaves v ++ stmt_leaves s) (stmt_leaves t) fit in
      let front = fit-append (value_leaves v) (stmt_leaves s) fits.0 in
      let nones = three-none (value_broken ss use_as.Condition v) (stmt_broken p (open_scope ss) next s) (stmt_broken p (open_scope ss) (past next s) t) none in
      let opened = has-open_scope c ss (has-around c ss all) in
      let some = has-stmt c p (open_scope ss) next s (omega (arith, length-append (stmt_locals s) (stmt_locals t))) opened front.1 nones.1 in
      let other = has-stmt c p (open_scope ss) (past next s) t (omega (arith, length-append (stmt_locals s) (stmt_locals t))) opened fits.1 nones.2 in
      all-append (HasInstruction c) (stmt_code (Stmt.If from (condition ss v) (stmt (open_scope ss) next s) (stmt (open_scope ss) (past next s) t))) []
      (has-condition c ss v all front.0 nones.0, has-two c (code (stmt (open_scope ss) next s)) (code (stmt (open_scope ss) (past next s) t)) instruction.Else instruction.EndIf tt tt some other) tt
  has-stmt c p ss next (plain.Stmt.While from v s) within all fit none =
      let fits = fit-append (value_leaves v) (stmt_leaves s) fit in
      let nones = three-none (not_in_atomic p from) (value_broken ss use_as.Condition v) (stmt_broken p (open_scope ss) next s) none in
      let inner = has-stmt c p (open_scope ss) next s within (has-open_scope c ss (has-around c ss all)) fits.1 nones.2 in
      all-append (HasInstruction c) (stmt_code (Stmt.Loop from (condition ss v) (stmt (open_scope ss) next s) Stmts.End)) []
      (has-condition c ss v all fits.0 nones.1, has-two c (code (stmt (open_scope ss) next s)) [] instruction.Last instruction.EndLoop tt tt inner tt) tt
  has-stmt c p ss next (plain.Stmt.For from f v last s) within all fit none =
      let opened : HasScopes c (open_scope ss) = has-open_scope c ss (has-around c ss all) in
      let inside : Scopes = with_first (open_scope ss) next f in
      let counted : next + length (first_locals f) + length (stmt_locals s) ≤ c.locals = omega (arith, length-append (first_locals f) (stmt_locals s)) in
      let seen : HasScopes c inside = has-with_first c (open_scope ss) next f (omega arith) opened in
      let fits = fit-append (first_leaves f ++ value_if_leaves v ++ assign_if_leaves last) (stmt_leaves s) fit in
      let front = fit-append (first_leaves f ++ value_if_leaves v) (assign_if_leaves last) fits.0 in
      let begins = fit-append (first_leaves f) (value_if_leaves v) front.0 in
      let nones = three-none (not_in_atomic p from ++ first_broken (open_scope ss) next f ++ value_if_broken inside use_as.Condition v) (assign_if_broken inside last)
      (stmt_broken p (open_scope inside) (past_first next f) s) none in
      let heads = three-none (not_in_atomic p from) (first_broken (open_scope ss) next f) (value_if_broken inside use_as.Condition v) nones.0 in
      let body : Stmts = stmt (open_scope inside) (past_first next f) s in
      let inner = has-stmt c p (open_scope inside) (past_first next f) s (omega arith) (has-open_scope c inside (has-around c inside seen)) fits.1 nones.2 in
      has-joined c (first (open_scope ss) next f) (one (Stmt.Loop from (condition_if inside from v) body (assign_if inside last)))
      (has-first c (open_scope ss) next f (omega arith) opened begins.0 heads.1)
      (all-append (HasInstruction c) (stmt_code (Stmt.Loop from (condition_if inside from v) body (assign_if inside last))) [] (
        has-condition_if c inside from v seen begins.1 heads.2,
        has-two c (code body) (code (assign_if inside last)) instruction.Last instruction.EndLoop tt tt inner (has-assign_if c inside last seen front.1 nones.1),
      ) tt)
  has-stmt c p ss next (plain.Stmt.Break from) within all fit none = (tt, tt)
  has-stmt c p ss next (plain.Stmt.Return from) within all fit none = (tt, tt)
  has-stmt c p ss next (plain.Stmt.Calls k) within all fit none = has-call c p ss k all fit none
  has-stmt c p ss next (plain.Stmt.Atomic from inner) within all fit none =
      let nones = append-none (not_in_atomic p from) (stmts_broken (in_atomic p) ss next inner) none in
      all-append (HasInstruction c) (stmt_code (Stmt.Atomic from (stmts ss next inner))) []
      (tt, has-end c (code (stmts ss next inner)) instruction.EndAtomic tt (has-stmts c (in_atomic p) ss next inner within all fit nones.1)) tt
  has-stmt c p ss next (plain.Stmt.Handles from names) within all fit none = tt

  pub has-stmts : (c : Counts) (p : Place) (ss : Scopes) (next : ℕ) (body : plain.Stmts) → next + length (stmts_locals body) ≤ c.locals → HasScopes c ss → NumbersFit (stmts_leaves body) → stmts_broken p ss next body ≡ []
      → HasCode c (code (stmts ss next body))
  has-stmts c p ss next plain.Stmts.End within all fit none = tt
  has-stmts c p ss next (plain.Stmts.Then s rest) within all fit none =
      let counted : next + length (stmt_locals s) + length (stmts_locals rest) ≤ c.locals = omega (arith, length-append (stmt_locals s) (stmts_locals rest)) in
      let fits = fit-append (stmt_leaves s) (stmts_leaves rest) fit in
      let nones = append-none (stmt_broken p ss next s) (stmts_broken p (behind ss next s) (past next s) rest) none in
      has-joined c (stmt ss next s) (stmts (behind ss next s) (past next s) rest) (has-stmt c p ss next s (omega arith) all fits.0 nones.0)
      (has-stmts c p (behind ss next s) (past next s) rest (omega arith) (has-behind c ss next s (omega arith) all) fits.1 nones.1)
