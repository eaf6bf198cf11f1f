-- Statements take tokens, and give none back.
use Rattle.std.proofs.Common.{◌≡◌, ℕ, zero, suc, ◌<◌, ◌≤◌, Bool, true, false, cond, List, [], length, Option, Some, None, Ok, refl, sym, ap, ◌∙◌, arith}
use Rattle.c_tree.specs.declared.term.Term.{Term}
use Rattle.c_tree.specs.declared.term.Term.TheVariants as terms
use Rattle.c_tree.specs.declared.expr.Name.{Name}
use Rattle.c_tree.specs.declared.simple.Assign.TheVariants as assigns
use Rattle.c_tree.specs.declared.simple.Call.TheVariants as calls
use Rattle.c_tree.specs.declared.simple.Nil.{Nil}
use Rattle.c_tree.specs.declared.simple.Nil.TheVariants as nils
use Rattle.c_tree.specs.declared.stmt.First.TheVariants as firsts
use Rattle.c_tree.specs.declared.simple.Itype.TheVariants as itypes
use Rattle.c_tree.specs.declared.stmt.Stmt.TheVariants as stmts
use Rattle.c_tree.specs.declared.simple.Qual.{Qual}
use Rattle.c_tree.specs.declared.simple.Local.{Local}
use Rattle.c_tree.specs.declared.simple.Handles.{Handles}
use Rattle.c_tree.specs.declared.stmt.Around.{Around}
use Rattle.c_tree.specs.declared.stmt.Around.TheVariants as arounds
use Rattle.c_tree.specs.declared.stmt.Block.{roll-Block}
use Rattle.c_tree.specs.declared.stmt.Stmt.{Stmt}
use Rattle.c_tree.specs.Term.{same_term}
use Rattle.c_tree.specs.inside.Input.{Input, Outcome, Parser, ◌>>=◌, ◌>>◌, pure, refuse, refuse_deep, look, here, take_token, eat, and_then, peek, place, next, sees, expect, refusal, too_deep}
use Rattle.c_tree.specs.inside.Chain.{mark_at, more_of}
use Rattle.c_tree.specs.inside.Many.{one_or_end, many_from, many}
use Rattle.c_tree.specs.inside.Expr as expr_spec
use Rattle.c_tree.specs.inside.Simple as spec
use Rattle.c_tree.specs.inside.Stmt as stmt_spec
use Rattle.c_tree.proofs.Steps.{ok_parts, not_err, next_shorter}
use Rattle.c_tree.proofs.Shrinks.{Shrinks, NeverGrows, expect_shrinks, name_shrinks, more_of_le}
use Rattle.c_tree.proofs.Sizes.{weaker, pure_le, refuse_shrinks, bind_le, bind_first, bind_second, take_le, eat_le, look_le, here_le, expr_shrinks, nondet_shrinks, right_shrinks, lname_shrinks}

parens_shrinks : Shrinks spec.empty_parens
unfolding same_term
parens_shrinks = bind_first (expect terms.LeftParen) _ (expect_shrinks terms.LeftParen refl) (λ o. weaker _ (expect_shrinks terms.RightParen refl))

cond_by_shrinks : (levels : ℕ) (k : Term) → Shrinks (spec.cond_by levels k)
cond_by_shrinks levels terms.Nondet = bind_first _ _ nondet_shrinks (λ n. pure_le _)
cond_by_shrinks levels _ = bind_first _ _ (expr_shrinks levels) (λ e. pure_le _)

cond_shrinks : (levels : ℕ) → Shrinks (spec.cond levels)
unfolding spec.cond
cond_shrinks levels = bind_second look _ look_le (cond_by_shrinks levels)

pub take_then : {A : Type 0} (p : Parser A) → NeverGrows p → NeverGrows (take_token >> p)
take_then p le = bind_le take_token _ take_le (λ from. le)

assigned_by_le : (levels : ℕ) (x : Name) (k : Term) → NeverGrows (spec.assigned_by levels x k)
assigned_by_le levels x terms.Assign = take_then _ (bind_le _ _ (weaker _ (right_shrinks levels)) (λ e. pure_le _))
assigned_by_le levels x terms.AddTo = take_then _ (bind_le _ _ (weaker _ (expr_shrinks levels)) (λ e. pure_le _))
assigned_by_le levels x terms.SubtractFrom = take_then _ (bind_le _ _ (weaker _ (expr_shrinks levels)) (λ e. pure_le _))
assigned_by_le levels x terms.Increment = take_then _ (pure_le _)
assigned_by_le levels x terms.Decrement = take_then _ (pure_le _)
assigned_by_le levels x _ = weaker _ refuse_shrinks

assigned_shrinks : (levels : ℕ) → Shrinks (spec.assigned levels)
unfolding spec.assigned
assigned_shrinks levels = bind_first expr_spec.name _ name_shrinks (λ x. bind_le look _ look_le (assigned_by_le levels x))

assign_by_shrinks : (levels : ℕ) (k : Term) → Shrinks (spec.assign_by levels k)
assign_by_shrinks levels terms.Name = assigned_shrinks levels
assign_by_shrinks levels terms.Increment = bind_second take_token _ take_le (λ from. bind_first _ _ name_shrinks (λ x. pure_le (assigns.IncrementFirst from x)))
assign_by_shrinks levels terms.Decrement = bind_second take_token _ take_le (λ from. bind_first _ _ name_shrinks (λ x. pure_le (assigns.DecrementFirst from x)))
assign_by_shrinks levels _ = refuse_shrinks

assign_shrinks : (levels : ℕ) → Shrinks (spec.assign levels)
unfolding spec.assign
assign_shrinks levels = bind_second look _ look_le (assign_by_shrinks levels)

nil_if : Input → Bool → Parser Nil
nil_if i true = take_token >>= λ from. pure (nils.Zero from)
nil_if i false = expect terms.Null >>= λ from. pure (nils.Null from)

nil_if_le : (i : Input) (b : Bool) → NeverGrows (nil_if i b)
unfolding nil_if same_term
nil_if_le i true = bind_le take_token _ take_le (λ from. pure_le (nils.Zero from))
nil_if_le i false = bind_le (expect terms.Null) _ (weaker _ (expect_shrinks terms.Null refl)) (λ from. pure_le (nils.Null from))

nil_by : (b : Bool) (i : Input) (x : Nil) (j : Input) → cond {A = Parser Nil} b (take_token >>= λ from. pure (nils.Zero from)) (expect terms.Null >>= λ from. pure (nils.Null from)) i ≡ Ok (x, j) → length j.tokens ≤ length i.tokens
unfolding nil_if
nil_by true i x j e = nil_if_le i true i x j e
nil_by false i x j e = nil_if_le i false i x j e

nil_le : NeverGrows spec.nil
unfolding spec.nil
nil_le i x j e = nil_by (spec.is_zero (peek i) (Rattle.c_tree.specs.inside.Input.bytes i)) i x j e

address_shrinks : Shrinks spec.address
unfolding spec.address same_term
address_shrinks = bind_first (expect terms.Address) _ (expect_shrinks terms.Address refl) (λ a. weaker _ name_shrinks)

pub close_le : {A : Type 0} (k : Term) (x : A) → same_term terms.End k ≡ false → NeverGrows (expect k >>= λ c. pure x)
close_le k x other = bind_le (expect k) _ (weaker _ (expect_shrinks k other)) (λ c. pure_le x)

argument_shrinks : (levels : ℕ) → Shrinks (spec.argument levels)
unfolding spec.argument same_term
argument_shrinks levels = bind_first (expect terms.LeftParen) _ (expect_shrinks terms.LeftParen refl) (λ o. bind_le _ _ (weaker _ (expr_shrinks levels)) (λ e. close_le terms.RightParen e refl))

lock_argument_shrinks : Shrinks spec.lock_argument
unfolding spec.lock_argument same_term
lock_argument_shrinks = bind_first (expect terms.LeftParen) _ (expect_shrinks terms.LeftParen refl) (λ o. bind_le _ _ (weaker _ address_shrinks) (λ m. close_le terms.RightParen m refl))

exit_argument_shrinks : Shrinks spec.exit_argument
unfolding spec.exit_argument same_term
exit_argument_shrinks = bind_first (expect terms.LeftParen) _ (expect_shrinks terms.LeftParen refl) (λ o. bind_le _ _ nil_le (λ n. close_le terms.RightParen n refl))

comma_le : {A : Type 0} (f : ℕ → Parser A) → ((c : ℕ) → NeverGrows (f c)) → NeverGrows (expect terms.Comma >>= f)
unfolding same_term
comma_le f le = bind_le (expect terms.Comma) f (weaker _ (expect_shrinks terms.Comma refl)) le

init_shrinks : (from : ℕ) → Shrinks (spec.init from)
unfolding spec.init same_term
init_shrinks from = bind_first (expect terms.LeftParen) _ (expect_shrinks terms.LeftParen refl) (λ o. bind_le _ _ (weaker _ address_shrinks) (λ m. comma_le _ (λ c. bind_le _ _ nil_le (λ n. close_le terms.RightParen (calls.Init from m n) refl))))

create_shrinks : (from : ℕ) → Shrinks (spec.create from)
unfolding spec.create same_term
create_shrinks from = bind_first (expect terms.LeftParen) _ (expect_shrinks terms.LeftParen refl) (λ o. bind_le _ _ (weaker _ address_shrinks) (λ t. comma_le _ (λ c. bind_le _ _ nil_le (λ a. comma_le _ (λ d. bind_le _ _ (weaker _ name_shrinks) (λ f. comma_le _ (λ g. bind_le _ _ nil_le (λ x. close_le terms.RightParen (calls.Create from t a f x) refl))))))))

join_shrinks : (from : ℕ) → Shrinks (spec.join from)
unfolding spec.join same_term
join_shrinks from = bind_first (expect terms.LeftParen) _ (expect_shrinks terms.LeftParen refl) (λ o. bind_le _ _ (weaker _ name_shrinks) (λ t. comma_le _ (λ c. bind_le _ _ nil_le (λ n. close_le terms.RightParen (calls.Join from t n) refl))))

call_by_shrinks : (levels : ℕ) (k : Term) → Shrinks (spec.call_by levels k)
call_by_shrinks levels terms.Assert = bind_second take_token _ take_le (λ from. bind_first _ _ (argument_shrinks levels) (λ e. pure_le (calls.Assert from e)))
call_by_shrinks levels terms.Assume = bind_second take_token _ take_le (λ from. bind_first _ _ (argument_shrinks levels) (λ e. pure_le (calls.Assume from e)))
call_by_shrinks levels terms.ReachError = bind_second take_token _ take_le (λ from. bind_first _ _ parens_shrinks (λ e. pure_le (calls.ReachError from)))
call_by_shrinks levels terms.Abort = bind_second take_token _ take_le (λ from. bind_first _ _ parens_shrinks (λ e. pure_le (calls.Abort from)))
call_by_shrinks levels terms.Exit = bind_second take_token _ take_le (λ from. bind_first _ _ exit_argument_shrinks (λ e. pure_le (calls.Exit from e)))
call_by_shrinks levels terms.MutexLock = bind_second take_token _ take_le (λ from. bind_first _ _ lock_argument_shrinks (λ e. pure_le (calls.Lock from e)))
call_by_shrinks levels terms.MutexUnlock = bind_second take_token _ take_le (λ from. bind_first _ _ lock_argument_shrinks (λ e. pure_le (calls.Unlock from e)))
call_by_shrinks levels terms.MutexDestroy = bind_second take_token _ take_le (λ from. bind_first _ _ lock_argument_shrinks (λ e. pure_le (calls.Destroy from e)))
call_by_shrinks levels terms.MutexInit = bind_second take_token _ take_le init_shrinks
call_by_shrinks levels terms.Create = bind_second take_token _ take_le create_shrinks
call_by_shrinks levels terms.Join = bind_second take_token _ take_le join_shrinks
call_by_shrinks levels _ = refuse_shrinks

call_shrinks : (levels : ℕ) → Shrinks (spec.call levels)
unfolding spec.call
call_shrinks levels = bind_second look _ look_le (call_by_shrinks levels)

quals_behind_le : (o : Option Qual) (others : Parser (List Qual)) → NeverGrows others → NeverGrows (spec.quals_behind o others)
quals_behind_le None others le = pure_le _
quals_behind_le (Some q) others le = take_then _ (bind_le _ _ le (λ qs. pure_le _))

quals_from_le : (n : ℕ) → NeverGrows (spec.quals_from n)
unfolding spec.quals_from
quals_from_le zero i x j e = pure_le [] i x j e
quals_from_le (suc n) i x j e = quals_behind_le (mark_at spec.qual_mark i) (spec.quals_from n) (quals_from_le n) i x j e

pub quals_le : NeverGrows spec.quals
unfolding spec.quals
quals_le i x j e = quals_from_le (length i.tokens) i x j e

itype_by_le : (k : Term) → NeverGrows (spec.itype_by k)
itype_by_le terms.Int = bind_le take_token _ take_le (λ from. pure_le (itypes.Int from))
itype_by_le terms.Long = bind_le take_token _ take_le (λ from. bind_le (eat terms.Int) _ (eat_le terms.Int) (λ b. pure_le (spec.long_if from b)))
itype_by_le _ = weaker _ refuse_shrinks

pub itype_le : NeverGrows spec.itype
unfolding spec.itype
itype_le = bind_le look _ look_le itype_by_le

pub local_shrinks : (levels : ℕ) → Shrinks (spec.local levels)
unfolding spec.local same_term
local_shrinks levels = bind_second here _ here_le (λ from. bind_second spec.quals _ quals_le (λ qs. bind_second spec.itype _ itype_le (λ kind. bind_first (spec.lname levels) _ (lname_shrinks levels)
    (λ first. bind_le (more_of spec.comma_mark (spec.lname levels)) _ (more_of_le spec.comma_mark (spec.lname levels) (λ n. refl) (lname_shrinks levels)) (λ more. close_le {A = Local} terms.Semicolon (record { from = from; quals = qs; itype = kind; first = first; more = more }) refl)))))

pub handles_shrinks : Shrinks spec.handles
unfolding spec.handles same_term
handles_shrinks = bind_first (expect terms.HandleType) _ (expect_shrinks terms.HandleType refl) (λ from. bind_le expr_spec.name _ (weaker _ name_shrinks)
    (λ first. bind_le (more_of spec.comma_mark expr_spec.name) _ (more_of_le spec.comma_mark expr_spec.name (λ n. refl) name_shrinks) (λ more. close_le {A = Handles} terms.Semicolon (record { from = from; first = first; more = more }) refl)))

-- ---- many

one_or_end_le : {A : Type 0} (item : Parser A) (others : Parser (List A)) (b : Bool) → NeverGrows item → NeverGrows others → NeverGrows (one_or_end item others b)
one_or_end_le item others true one all = pure_le _
one_or_end_le item others false one all = bind_le item _ one (λ x. bind_le others _ all (λ xs. pure_le _))

many_from_le : {A : Type 0} (end : Term) (item : Parser A) → NeverGrows item → (n : ℕ) → NeverGrows (many_from end item n)
unfolding many_from
many_from_le end item le zero i x j e = weaker _ refuse_shrinks i x j e
many_from_le end item le (suc n) i x j e = one_or_end_le item (many_from end item n) (sees end i) le (many_from_le end item le n) i x j e

many_le : {A : Type 0} (end : Term) (item : Parser A) → NeverGrows item → NeverGrows (many end item)
unfolding many
many_le end item le i x j e = many_from_le end item le (suc (length i.tokens)) i x j e

-- ---- statements

pub see_le : (k : Term) → NeverGrows (λ i. Ok (sees k i, i))
see_le k i x j e = (let same = (ok_parts (sees k i) x i j e).1 in omega (arith, ap (λ (l : Input). length l.tokens) same))

word_end_shrinks : Shrinks stmt_spec.word_end
unfolding same_term
word_end_shrinks = bind_first spec.empty_parens _ parens_shrinks (λ c. weaker _ (expect_shrinks terms.Semicolon refl))

closes_shrinks : {A : Type 0} (x : A) → Shrinks (expect terms.Semicolon >>= λ c. pure x)
unfolding same_term
closes_shrinks x = bind_first (expect terms.Semicolon) _ (expect_shrinks terms.Semicolon refl) (λ c. pure_le x)

returned_if_le : (b : Bool) → NeverGrows (stmt_spec.returned_if b)
returned_if_le true = pure_le _
returned_if_le false = bind_le _ _ nil_le (λ n. pure_le _)

return_shrinks : Shrinks stmt_spec.return_stmt
unfolding stmt_spec.return_stmt
return_shrinks = bind_second take_token _ take_le (λ from. bind_second _ _ (see_le terms.Semicolon) (λ b. bind_second (stmt_spec.returned_if b) _ (returned_if_le b) (λ v. closes_shrinks (stmts.Return from v))))

break_by_shrinks : (around : Around) → Shrinks (stmt_spec.break_by around)
break_by_shrinks arounds.Nothing = refuse_shrinks
break_by_shrinks arounds.Loop = bind_second take_token _ take_le (λ from. closes_shrinks (stmts.Break from))

condition_shrinks : (levels : ℕ) → Shrinks (stmt_spec.condition levels)
unfolding stmt_spec.condition same_term
condition_shrinks levels = bind_first (expect terms.LeftParen) _ (expect_shrinks terms.LeftParen refl) (λ o. bind_le _ _ (weaker _ (cond_shrinks levels)) (λ c. close_le terms.RightParen c refl))

assign_stmt_shrinks : (levels : ℕ) → Shrinks (stmt_spec.assign_stmt levels)
unfolding stmt_spec.assign_stmt
assign_stmt_shrinks levels = bind_first _ _ (assign_shrinks levels) (λ a. weaker _ (closes_shrinks _))

call_stmt_shrinks : (levels : ℕ) → Shrinks (stmt_spec.call_stmt levels)
unfolding stmt_spec.call_stmt
call_stmt_shrinks levels = bind_first _ _ (call_shrinks levels) (λ c. weaker _ (closes_shrinks _))

local_stmt_shrinks : (levels : ℕ) → Shrinks (stmt_spec.local_stmt levels)
unfolding stmt_spec.local_stmt
local_stmt_shrinks levels = bind_first _ _ (local_shrinks levels) (λ l. pure_le _)

first_by_le : (levels : ℕ) (k : Term) → NeverGrows (stmt_spec.first_by levels k)
unfolding stmt_spec.first_local stmt_spec.first_assign
first_by_le levels terms.Static = bind_le _ _ (weaker _ (local_shrinks levels)) (λ l. pure_le _)
first_by_le levels terms.Volatile = bind_le _ _ (weaker _ (local_shrinks levels)) (λ l. pure_le _)
first_by_le levels terms.Extern = bind_le _ _ (weaker _ (local_shrinks levels)) (λ l. pure_le _)
first_by_le levels terms.Int = bind_le _ _ (weaker _ (local_shrinks levels)) (λ l. pure_le _)
first_by_le levels terms.Long = bind_le _ _ (weaker _ (local_shrinks levels)) (λ l. pure_le _)
first_by_le levels terms.Semicolon = bind_le take_token _ take_le (λ from. pure_le (firsts.Empty from))
first_by_le levels _ = bind_le _ _ (weaker _ (assign_shrinks levels)) (λ a. weaker _ (closes_shrinks _))

first_part_le : (levels : ℕ) → NeverGrows (stmt_spec.first_part levels)
unfolding stmt_spec.first_part
first_part_le levels = bind_le look _ look_le (first_by_le levels)

cond_if_le : (levels : ℕ) (b : Bool) → NeverGrows (stmt_spec.cond_if levels b)
cond_if_le levels true = pure_le _
cond_if_le levels false = bind_le _ _ (weaker _ (cond_shrinks levels)) (λ c. pure_le _)

middle_part_le : (levels : ℕ) → NeverGrows (stmt_spec.middle_part levels)
unfolding stmt_spec.middle_part
middle_part_le levels = bind_le _ _ (see_le terms.Semicolon) (cond_if_le levels)

last_if_le : (levels : ℕ) (b : Bool) → NeverGrows (stmt_spec.last_if levels b)
last_if_le levels true = pure_le _
last_if_le levels false = bind_le _ _ (weaker _ (assign_shrinks levels)) (λ a. pure_le _)

last_part_le : (levels : ℕ) → NeverGrows (stmt_spec.last_part levels)
unfolding stmt_spec.last_part
last_part_le levels = bind_le _ _ (see_le terms.RightParen) (last_if_le levels)

module _ (levels : ℕ) (inner : Around → Parser Stmt) (shrinks : (around : Around) → Shrinks (inner around)) where
  pub block_shrinks : (around : Around) → Shrinks (stmt_spec.block levels inner around)
  unfolding stmt_spec.block same_term
  block_shrinks around = bind_first (expect terms.LeftBrace) _ (expect_shrinks terms.LeftBrace refl)
      (λ from. bind_le (many terms.RightBrace (inner around)) _ (many_le terms.RightBrace (inner around) (weaker _ (shrinks around))) (λ ss. close_le terms.RightBrace (roll-Block (record { from = from; stmts = ss })) refl))

  else_if_le : (around : Around) (b : Bool) → NeverGrows (stmt_spec.else_if levels inner around b)
  else_if_le around true = bind_le _ _ (weaker _ (shrinks around)) (λ s. pure_le _)
  else_if_le around false = pure_le _

  if_shrinks : (around : Around) → Shrinks (stmt_spec.if_stmt levels inner around)
  unfolding stmt_spec.if_stmt
  if_shrinks around = bind_second take_token _ take_le (λ from. bind_first _ _ (condition_shrinks levels) (λ c. bind_le _ _ (weaker _ (shrinks around)) (λ inside. bind_le (eat terms.Else) _ (eat_le terms.Else) (λ b. bind_le _ _ (else_if_le around b) (λ o. pure_le (stmts.If from c inside o))))))

  while_shrinks : Shrinks (stmt_spec.while_stmt levels inner)
  unfolding stmt_spec.while_stmt
  while_shrinks = bind_second take_token _ take_le (λ from. bind_first _ _ (condition_shrinks levels) (λ c. bind_le _ _ (weaker _ (shrinks arounds.Loop)) (λ body. pure_le (stmts.While from c body))))

  for_shrinks : Shrinks (stmt_spec.for_stmt levels inner)
  unfolding stmt_spec.for_stmt same_term
  for_shrinks = bind_second take_token _ take_le (λ from. bind_first (expect terms.LeftParen) _ (expect_shrinks terms.LeftParen refl) (λ o. bind_le _ _ (first_part_le levels) (λ first. bind_le _ _ (middle_part_le levels)
      (λ c. bind_le (expect terms.Semicolon) _ (weaker _ (expect_shrinks terms.Semicolon refl)) (λ s. bind_le _ _ (last_part_le levels) (λ last. bind_le (expect terms.RightParen) _ (weaker _ (expect_shrinks terms.RightParen refl)) (λ cl. bind_le _ _ (weaker _ (shrinks arounds.Loop)) (λ body. pure_le (stmts.For from first c last body)))))))))

  atomic_shrinks : (around : Around) → Shrinks (stmt_spec.atomic_stmt levels inner around)
  unfolding stmt_spec.atomic_stmt same_term
  atomic_shrinks around = bind_second take_token _ take_le (λ from. bind_first stmt_spec.word_end _ word_end_shrinks (λ b. bind_le _ _ (many_le terms.AtomicEnd (inner around) (weaker _ (shrinks around)))
      (λ ss. bind_le (expect terms.AtomicEnd) _ (weaker _ (expect_shrinks terms.AtomicEnd refl)) (λ en. bind_le stmt_spec.word_end _ (weaker _ word_end_shrinks) (λ cl. pure_le (stmts.Atomic from ss))))))

  stmt_by_shrinks : (around : Around) (k : Term) (i : Input) → peek i ≡ k → (x : Stmt) (j : Input) → stmt_spec.stmt_by levels inner around k i ≡ Ok (x, j) → length j.tokens < length i.tokens
  stmt_by_shrinks around terms.LeftBrace i is x j e = bind_first _ _ (block_shrinks around) (λ b. pure_le _) i x j e
  stmt_by_shrinks around terms.Semicolon i is x j e = omega (arith, next_shorter i (λ ended. another (sym is ∙ ended)), ap (λ (k : Input). length k.tokens) (ok_parts _ x (next i) j e).1)
    where
      another : terms.Semicolon ≡ terms.End → ⊥
      another h = cc
  stmt_by_shrinks around terms.Static i is x j e = local_stmt_shrinks levels i x j e
  stmt_by_shrinks around terms.Volatile i is x j e = local_stmt_shrinks levels i x j e
  stmt_by_shrinks around terms.Extern i is x j e = local_stmt_shrinks levels i x j e
  stmt_by_shrinks around terms.Int i is x j e = local_stmt_shrinks levels i x j e
  stmt_by_shrinks around terms.Long i is x j e = local_stmt_shrinks levels i x j e
  stmt_by_shrinks around terms.Name i is x j e = assign_stmt_shrinks levels i x j e
  stmt_by_shrinks around terms.Increment i is x j e = assign_stmt_shrinks levels i x j e
  stmt_by_shrinks around terms.Decrement i is x j e = assign_stmt_shrinks levels i x j e
  stmt_by_shrinks around terms.If i is x j e = if_shrinks around i x j e
  stmt_by_shrinks around terms.While i is x j e = while_shrinks i x j e
  stmt_by_shrinks around terms.For i is x j e = for_shrinks i x j e
  stmt_by_shrinks around terms.Break i is x j e = break_by_shrinks around i x j e
  stmt_by_shrinks around terms.Return i is x j e = return_shrinks i x j e
  stmt_by_shrinks around terms.AtomicBegin i is x j e = atomic_shrinks around i x j e
  stmt_by_shrinks around terms.HandleType i is x j e = bind_first _ _ handles_shrinks (λ h. pure_le _) i x j e
  stmt_by_shrinks around _ i is x j e = call_stmt_shrinks levels i x j e

pub past_limit_fails : (b : Bool) (i : Input) (x : Stmt) (j : Input) → stmt_spec.past_limit b i ≡ Ok (x, j) → ⊥
past_limit_fails true i x j e = not_err (too_deep i) x j e
past_limit_fails false i x j e = not_err (refusal i) x j e

pub stmt_shrinks : (levels : ℕ) (around : Around) → Shrinks (stmt_spec.stmt levels around)
unfolding stmt_spec.stmt stmt_spec.stmt_over stmt_spec.no_stmt
stmt_shrinks zero around i x j e = absurd (past_limit_fails (stmt_spec.begins around (peek i)) i x j e)
stmt_shrinks (suc levels) around i x j e = stmt_by_shrinks levels (stmt_spec.stmt levels) (stmt_shrinks levels) around (peek i) i refl x j e
