-- How statements are read.
use Rattle.std.specs.Prelude.{ℕ, zero, suc, Bool, true, false, Option, Some, None, Ok}
use Rattle.c_tree.specs.declared.term.Term.{Term}
use Rattle.c_tree.specs.declared.term.Term.TheVariants as terms
use Rattle.c_tree.specs.declared.simple.Assign.{Assign}
use Rattle.c_tree.specs.declared.simple.Cond.{Cond}
use Rattle.c_tree.specs.declared.simple.Nil.{Nil}
use Rattle.c_tree.specs.declared.stmt.Around.{Around}
use Rattle.c_tree.specs.declared.stmt.Around.TheVariants as arounds
use Rattle.c_tree.specs.declared.stmt.Block.{Block, roll-Block}
use Rattle.c_tree.specs.declared.stmt.First.{First}
use Rattle.c_tree.specs.declared.stmt.First.TheVariants as firsts
use Rattle.c_tree.specs.declared.stmt.Stmt.{Stmt}
use Rattle.c_tree.specs.declared.stmt.Stmt.TheVariants as stmts
use Rattle.c_tree.specs.inside.Input.{Parser, ◌>>=◌, ◌>>◌, pure, refuse, refuse_deep, look, take_token, eat, expect, peek, sees}
use Rattle.c_tree.specs.inside.Many.{many}
use Rattle.c_tree.specs.inside.Simple.{cond, assign, local, call, handles, nil, empty_parens}

-- The token begins a statement there.
abbrev pub begins : Around → Term → Bool
begins around terms.LeftBrace = true
begins around terms.Semicolon = true
begins around terms.Static = true
begins around terms.Volatile = true
begins around terms.Extern = true
begins around terms.Int = true
begins around terms.Long = true
begins around terms.Name = true
begins around terms.Increment = true
begins around terms.Decrement = true
begins around terms.If = true
begins around terms.While = true
begins around terms.For = true
begins arounds.Loop terms.Break = true
begins around terms.Return = true
begins around terms.Assert = true
begins around terms.Assume = true
begins around terms.ReachError = true
begins around terms.Abort = true
begins around terms.Exit = true
begins around terms.MutexLock = true
begins around terms.MutexUnlock = true
begins around terms.MutexDestroy = true
begins around terms.MutexInit = true
begins around terms.Create = true
begins around terms.Join = true
begins around terms.AtomicBegin = true
begins around terms.HandleType = true
begins around _ = false

-- `()` and `;`
abbrev pub word_end : Parser ℕ
word_end = empty_parens >> expect terms.Semicolon

abbrev pub returned_if : Bool → Parser (Option Nil)
returned_if true = pure None
returned_if false = nil >>= λ n. pure (Some n)

unfoldable pub return_stmt : Parser Stmt
return_stmt = do
  from ← take_token
  is_plain ← (λ i. Ok (sees terms.Semicolon i, i))
  value ← returned_if is_plain
  closed ← expect terms.Semicolon
  pure (stmts.Return from value)

abbrev pub break_by : Around → Parser Stmt
break_by arounds.Nothing = refuse
break_by arounds.Loop = do
  from ← take_token
  closed ← expect terms.Semicolon
  pure (stmts.Break from)

abbrev pub handles_stmt : Parser Stmt
handles_stmt = do
  h ← handles
  pure (stmts.Handles h)

-- ---- with expressions of at most so many levels

module _ (levels : ℕ) where
  unfoldable pub assign_stmt : Parser Stmt
  assign_stmt = do
    a ← assign levels
    closed ← expect terms.Semicolon
    pure (stmts.Assign a)

  unfoldable pub call_stmt : Parser Stmt
  call_stmt = do
    c ← call levels
    closed ← expect terms.Semicolon
    pure (stmts.Call c)

  unfoldable pub local_stmt : Parser Stmt
  local_stmt = do
    l ← local levels
    pure (stmts.Local l)

  unfoldable pub first_local : Parser First
  first_local = do
    l ← local levels
    pure (firsts.Local l)

  unfoldable pub first_assign : Parser First
  first_assign = do
    a ← assign levels
    closed ← expect terms.Semicolon
    pure (firsts.Assign a)

  abbrev pub first_by : Term → Parser First
  first_by terms.Static = first_local
  first_by terms.Volatile = first_local
  first_by terms.Extern = first_local
  first_by terms.Int = first_local
  first_by terms.Long = first_local
  first_by terms.Semicolon = take_token >>= λ from. pure (firsts.Empty from)
  first_by _ = first_assign

  unfoldable pub first_part : Parser First
  first_part = look >>= first_by

  abbrev pub cond_if : Bool → Parser (Option Cond)
  cond_if true = pure None
  cond_if false = cond levels >>= λ c. pure (Some c)

  -- a condition, where it is not missing
  unfoldable pub middle_part : Parser (Option Cond)
  middle_part = (λ i. Ok (sees terms.Semicolon i, i)) >>= cond_if

  abbrev pub last_if : Bool → Parser (Option Assign)
  last_if true = pure None
  last_if false = assign levels >>= λ a. pure (Some a)

  unfoldable pub last_part : Parser (Option Assign)
  last_part = (λ i. Ok (sees terms.RightParen i, i)) >>= last_if

  -- `( cond )`
  unfoldable pub condition : Parser Cond
  condition = do
    opened ← expect terms.LeftParen
    c ← cond levels
    closed ← expect terms.RightParen
    pure c

  -- ---- with statements one level deeper

  module _ (inner : Around → Parser Stmt) where
    unfoldable pub block : Around → Parser Block
    block around = do
      from ← expect terms.LeftBrace
      ss ← many terms.RightBrace (inner around)
      closed ← expect terms.RightBrace
      pure (roll-Block (record { from = from; stmts = ss }))

    abbrev pub else_if : Around → Bool → Parser (Option Stmt)
    else_if around true = inner around >>= λ s. pure (Some s)
    else_if around false = pure None

    unfoldable pub if_stmt : Around → Parser Stmt
    if_stmt around = do
      from ← take_token
      c ← condition
      inside ← inner around
      has_else ← eat terms.Else
      otherwise ← else_if around has_else
      pure (stmts.If from c inside otherwise)

    unfoldable pub while_stmt : Parser Stmt
    while_stmt = do
      from ← take_token
      c ← condition
      body ← inner arounds.Loop
      pure (stmts.While from c body)

    unfoldable pub for_stmt : Parser Stmt
    for_stmt = do
      from ← take_token
      opened ← expect terms.LeftParen
      first ← first_part
      c ← middle_part
      second ← expect terms.Semicolon
      last ← last_part
      closed ← expect terms.RightParen
      body ← inner arounds.Loop
      pure (stmts.For from first c last body)

    unfoldable pub atomic_stmt : Around → Parser Stmt
    atomic_stmt around = do
      from ← take_token
      begun ← word_end
      ss ← many terms.AtomicEnd (inner around)
      ended ← expect terms.AtomicEnd
      closed ← word_end
      pure (stmts.Atomic from ss)

    abbrev pub stmt_by : Around → Term → Parser Stmt
    stmt_by around terms.LeftBrace = block around >>= λ b. pure (stmts.Block b)
    stmt_by around terms.Semicolon = take_token >>= λ from. pure (stmts.Empty from)
    stmt_by around terms.Static = local_stmt
    stmt_by around terms.Volatile = local_stmt
    stmt_by around terms.Extern = local_stmt
    stmt_by around terms.Int = local_stmt
    stmt_by around terms.Long = local_stmt
    stmt_by around terms.Name = assign_stmt
    stmt_by around terms.Increment = assign_stmt
    stmt_by around terms.Decrement = assign_stmt
    stmt_by around terms.If = if_stmt around
    stmt_by around terms.While = while_stmt
    stmt_by around terms.For = for_stmt
    stmt_by around terms.Break = break_by around
    stmt_by around terms.Return = return_stmt
    stmt_by around terms.AtomicBegin = atomic_stmt around
    stmt_by around terms.HandleType = handles_stmt
    stmt_by around _ = call_stmt

    unfoldable pub stmt_over : Around → Parser Stmt
    stmt_over around = look >>= stmt_by around

abbrev pub past_limit : Bool → Parser Stmt
past_limit true = refuse_deep
past_limit false = refuse

-- Where no level is left, a token that begins a statement is one too many.
unfoldable pub no_stmt : Around → Parser Stmt
no_stmt around = λ i. past_limit (begins around (peek i)) i

-- with at most so many levels of statements, this one included
unfoldable pub stmt : ℕ → Around → Parser Stmt
stmt zero around = no_stmt around
stmt (suc levels) around = stmt_over levels (stmt levels) around
