-- Statements, and what completes them, with more levels.
use Rattle.std.proofs.Common.{◌≡◌, ℕ, zero, suc, ◌<◌, Bool, true, false, List, [], ◌∷◌, ◌++◌, Some, None, refl, ap, arith}
use Rattle.c_lex.specs.Tokens.{Lexeme}
use Rattle.c_tree.specs.declared.term.Term.{Term}
use Rattle.c_tree.specs.declared.term.Term.TheVariants as terms
use Rattle.c_tree.specs.declared.simple.Qual.{Qual}
use Rattle.c_tree.specs.declared.simple.QualKind.TheVariants as kinds
use Rattle.c_tree.specs.declared.stmt.Around.{Around}
use Rattle.c_tree.specs.declared.stmt.Around.TheVariants as arounds
use Rattle.c_tree.specs.declared.stmt.Block.{roll-Block}
use Rattle.c_tree.specs.declared.stmt.First.TheVariants as firsts
use Rattle.c_tree.specs.declared.stmt.Stmt.{Stmt}
use Rattle.c_tree.specs.declared.stmt.Stmt.TheVariants as stmts
use Rattle.c_tree.specs.Term.{same_term, term_of}
use Rattle.c_tree.specs.inside.Input.{Parser, ◌>>=◌, pure, refuse, look, take_token, expect, sees, term_at}
use Rattle.c_tree.specs.inside.Simple as simple_spec
use Rattle.c_tree.specs.inside.Stmt as spec
use Rattle.c_tree.proofs.Shrinks.{Shrinks}
use Rattle.c_tree.proofs.Sizes.{refuse_shrinks}
use Rattle.c_tree.proofs.StmtSizes.{stmt_shrinks}
use Rattle.c_tree.proofs.Again.{same_self}
use Rattle.c_tree.proofs.AgainParts.{closes}
use Rattle.c_tree.proofs.NextToken.{views_sees}
use Rattle.c_tree.proofs.Completing.{any, Fills, FinishesAt, Completes, bind, fill_bind}
use Rattle.c_tree.proofs.Fillers.{IsToken, zero_token, name_token, int_token, end_token, abort_token, open_token, close_token, left_token, right_token, semicolon, increment_token, is_atomic_end, is_open, is_close, is_left, is_right, is_semicolon, is_handle, handle_token}
use Rattle.c_tree.proofs.CompletingSteps.{something, leads_any, leads_none, leads_token, filled, not_read, same_completes, pure_completes, refuse_at, seen_some, Branches, looked, looked_fill, Takes, taking, take_fill, deep_at, expect_completes, wanted, ended, is_not, eaten, seen_token}
use Rattle.c_tree.proofs.CompletingLoops.{only, many_completes, missing_completes}
use Rattle.c_tree.proofs.CompletingSimple.{semicolon_closes, empty_parens_completes, nil_completes, handles_completes, cond_completes, assign_completes, assign_name_fill, assign_increment_fill, assign_decrement_fill, call_tokens, calls_word, call_completes, call_fill, local_completes, local_qual_fill, local_int_fill, local_long_fill}

-- what no `if` goes on with
abbrev pub no_else : Term → Bool
no_else = is_not terms.Else

word_end_completes : Completes spec.word_end spec.word_end (open_token ∷ close_token ∷ semicolon ∷ []) any
word_end_completes = bind empty_parens_completes leads_any (λ c. expect_completes semicolon terms.Semicolon is_semicolon)

-- ---- `return` and `break`

return_from : (from : ℕ) → Bool → Parser Stmt
return_from from b = spec.returned_if b >>= λ v. expect terms.Semicolon >>= λ c. pure (stmts.Return from v)

return_plain : (from : ℕ) → Completes (return_from from true) (return_from from true) (semicolon ∷ []) no_else
unfolding return_from
return_plain from = bind (pure_completes {C = any} None) leads_any (λ v. ended is_semicolon (stmts.Return from v))

return_value : (from : ℕ) → Completes (return_from from false) (return_from from false) (zero_token ∷ semicolon ∷ []) no_else
unfolding return_from
return_value from = bind (bind nil_completes leads_any (λ v. pure_completes {C = any} (Some v))) leads_any (λ v. ended is_semicolon (stmts.Return from v))

return_there : (from : ℕ) (b : Bool) (end : ℕ) (ts : List Lexeme) → FinishesAt (return_from from b) (return_from from b) something no_else end ts
return_there from true end ts = (return_plain from).there end ts
return_there from false end ts = filled ((return_value from).there end ts)

return_takes : Takes terms.Return spec.return_stmt spec.return_stmt (semicolon ∷ []) no_else
unfolding spec.return_stmt return_from
return_takes = taking refl (λ from. seen_some (sees terms.Semicolon) (views_sees terms.Semicolon) (λ b end ts is. return_there from b end ts) true (λ end tail. seen_token semicolon terms.Semicolon is_semicolon.is end tail) (return_plain from).fill)

break_takes : Takes terms.Break (spec.break_by arounds.Loop) (spec.break_by arounds.Loop) (semicolon ∷ []) no_else
break_takes = taking refl (λ from. ended is_semicolon (stmts.Break from))

break_there : (around : Around) (end : ℕ) (ts : List Lexeme) → term_at ts ≡ terms.Break → FinishesAt (spec.break_by around) (spec.break_by around) something no_else end ts
break_there arounds.Nothing end ts is = refuse_at end ts
break_there arounds.Loop end ts is = break_takes.there end ts is

-- ---- with expressions, which have fewer levels in the first of two parsers

module _ (n m : ℕ) (lt : n < m) where
  assign_stmt_completes : Completes (spec.assign_stmt n) (spec.assign_stmt m) (name_token ∷ increment_token ∷ semicolon ∷ []) no_else
  unfolding spec.assign_stmt
  assign_stmt_completes = bind (assign_completes n m lt) (leads_token is_semicolon refl) (λ a. ended is_semicolon (stmts.Assign a))

  assign_stmt_fill : {us : List Lexeme} → Fills (simple_spec.assign m) us closes → Fills (spec.assign_stmt m) (us ++ semicolon ∷ []) no_else
  unfolding spec.assign_stmt
  assign_stmt_fill fill = fill_bind fill (λ a. (ended is_semicolon (stmts.Assign a)).fill) (leads_token is_semicolon refl)

  call_stmt_completes : Completes (spec.call_stmt n) (spec.call_stmt m) (abort_token ∷ open_token ∷ close_token ∷ semicolon ∷ []) no_else
  unfolding spec.call_stmt
  call_stmt_completes = bind (call_completes n m lt) leads_any (λ c. ended is_semicolon (stmts.Call c))

  call_stmt_fill : (k : Term) → calls_word k ≡ true → (t : Lexeme) → term_of t ≡ k → Fills (spec.call_stmt m) (t ∷ (call_tokens k ++ semicolon ∷ [])) no_else
  unfolding spec.call_stmt
  call_stmt_fill k so t is = fill_bind (call_fill n m lt t k so is) (λ c. (ended is_semicolon (stmts.Call c)).fill) leads_any

  local_stmt_completes : Completes (spec.local_stmt n) (spec.local_stmt m) (int_token ∷ name_token ∷ semicolon ∷ []) no_else
  unfolding spec.local_stmt
  local_stmt_completes = bind (local_completes n m lt) leads_any (λ l. pure_completes (stmts.Local l))

  local_stmt_fill : {us : List Lexeme} → Fills (simple_spec.local m) us any → Fills (spec.local_stmt m) (us ++ []) no_else
  unfolding spec.local_stmt
  local_stmt_fill fill = fill_bind fill (λ l. (pure_completes (stmts.Local l)).fill) leads_any

  qualified_fill : (q : Qual) (t : Lexeme) → simple_spec.qual_mark (term_of t) t.from ≡ Some q → Fills (spec.local_stmt m) (t ∷ int_token ∷ name_token ∷ semicolon ∷ []) no_else
  qualified_fill q t is = local_stmt_fill (local_qual_fill n m lt t q is)

  -- ---- the parts of a `for`

  first_local_completes : Completes (spec.first_local n) (spec.first_local m) (int_token ∷ name_token ∷ semicolon ∷ []) any
  unfolding spec.first_local
  first_local_completes = bind (local_completes n m lt) leads_any (λ l. pure_completes (firsts.Local l))

  first_assign_completes : Completes (spec.first_assign n) (spec.first_assign m) (name_token ∷ increment_token ∷ semicolon ∷ []) any
  unfolding spec.first_assign
  first_assign_completes = bind (assign_completes n m lt) (leads_token is_semicolon refl) (λ a. ended is_semicolon (firsts.Assign a))

  first_empty : Takes terms.Semicolon (spec.first_by n terms.Semicolon) (spec.first_by m terms.Semicolon) [] any
  first_empty = taking refl (λ from. pure_completes (firsts.Empty from))

  first_branches : Branches (spec.first_by n) (spec.first_by m) any
  first_branches terms.Static end ts is = filled (first_local_completes.there end ts)
  first_branches terms.Volatile end ts is = filled (first_local_completes.there end ts)
  first_branches terms.Extern end ts is = filled (first_local_completes.there end ts)
  first_branches terms.Int end ts is = filled (first_local_completes.there end ts)
  first_branches terms.Long end ts is = filled (first_local_completes.there end ts)
  first_branches terms.Semicolon end ts is = first_empty.there end ts is
  first_branches _ end ts is = filled (first_assign_completes.there end ts)

  first_part_completes : Completes (spec.first_part n) (spec.first_part m) (semicolon ∷ []) any
  unfolding spec.first_part
  first_part_completes = looked first_branches terms.Semicolon is_semicolon.is (first_empty.fill semicolon is_semicolon.is)

  paren_closes : (k : Term) → only terms.RightParen k ≡ true → closes k ≡ true
  unfolding same_term
  paren_closes terms.RightParen so = refl
  paren_closes _ so = absurd cc

  middle_completes : Completes (spec.middle_part n) (spec.middle_part m) [] (only terms.Semicolon)
  unfolding spec.middle_part
  middle_completes = missing_completes terms.Semicolon (spec.cond_if n) (spec.cond_if m) zero_token [] (pure_completes None) (bind (cond_completes n m lt) (leads_none semicolon_closes) (λ c. pure_completes (Some c)))

  last_completes : Completes (spec.last_part n) (spec.last_part m) [] (only terms.RightParen)
  unfolding spec.last_part
  last_completes = missing_completes terms.RightParen (spec.last_if n) (spec.last_if m) name_token (increment_token ∷ []) (pure_completes None) (bind (assign_completes n m lt) (leads_none paren_closes) (λ a. pure_completes (Some a)))

  condition_completes : Completes (spec.condition n) (spec.condition m) (open_token ∷ zero_token ∷ close_token ∷ []) any
  unfolding spec.condition
  condition_completes = wanted is_open (λ o. bind (cond_completes n m lt) (leads_token is_close refl) (λ c. ended is_close c))

  -- ---- with statements inside

  module _ (p q : Around → Parser Stmt) (shrinks : (around : Around) → Shrinks (p around)) (deeper : (around : Around) → Shrinks (q around)) (inner : (around : Around) → Completes (p around) (q around) (semicolon ∷ []) no_else) where
    brace_no_else : (k : Term) → only terms.RightBrace k ≡ true → no_else k ≡ true
    unfolding same_term
    brace_no_else terms.RightBrace so = refl
    brace_no_else _ so = absurd cc

    atomic_no_else : (k : Term) → only terms.AtomicEnd k ≡ true → no_else k ≡ true
    unfolding same_term
    atomic_no_else terms.AtomicEnd so = refl
    atomic_no_else _ so = absurd cc

    pub block_completes : {C : Term → Bool} (around : Around) (t : Lexeme) → IsToken t terms.LeftBrace → Completes (spec.block n p around) (spec.block m q around) (t ∷ right_token ∷ []) C
    unfolding spec.block
    block_completes around t token = wanted token (λ from. bind (many_completes terms.RightBrace (p around) (q around) [] no_else (shrinks around) (deeper around) semicolon (inner around) brace_no_else) (leads_token is_right (same_self terms.RightBrace)) (λ ss. ended is_right (roll-Block (record { from = from; stmts = ss }))))

    block_stmt : (around : Around) (t : Lexeme) → IsToken t terms.LeftBrace → Completes (spec.stmt_by n p around terms.LeftBrace) (spec.stmt_by m q around terms.LeftBrace) (t ∷ right_token ∷ []) no_else
    block_stmt around t token = bind (block_completes {C = any} around t token) leads_any (λ b. pure_completes (stmts.Block b))

    else_taken : (around : Around) → Completes (spec.else_if n p around true) (spec.else_if m q around true) (semicolon ∷ []) no_else
    else_taken around = bind (inner around) (leads_none (λ k so. so)) (λ s. pure_completes (Some s))

    if_takes : (around : Around) → Takes terms.If (spec.if_stmt n p around) (spec.if_stmt m q around) (open_token ∷ zero_token ∷ close_token ∷ semicolon ∷ []) no_else
    unfolding spec.if_stmt
    if_takes around = taking refl (λ from. bind condition_completes leads_any (λ c. bind (inner around) (leads_none (λ k so. so)) (λ s. eaten terms.Else (λ b. spec.else_if n p around b >>= λ o. pure (stmts.If from c s o)) (λ b. spec.else_if m q around b >>= λ o. pure (stmts.If from c s o)) refl (leads_none (λ k so. so))
        (bind (else_taken around) (leads_none (λ k so. so)) (λ o. pure_completes (stmts.If from c s o)))
        (bind (pure_completes {C = no_else} None) (leads_none (λ k so. so)) (λ o. pure_completes (stmts.If from c s o))))))

    while_takes : Takes terms.While (spec.while_stmt n p) (spec.while_stmt m q) (open_token ∷ zero_token ∷ close_token ∷ semicolon ∷ []) no_else
    unfolding spec.while_stmt
    while_takes = taking refl (λ from. bind condition_completes leads_any (λ c. bind (inner arounds.Loop) (leads_none (λ k so. so)) (λ s. pure_completes (stmts.While from c s))))

    for_takes : Takes terms.For (spec.for_stmt n p) (spec.for_stmt m q) (open_token ∷ semicolon ∷ semicolon ∷ close_token ∷ semicolon ∷ []) no_else
    unfolding spec.for_stmt
    for_takes = taking refl (λ from. wanted is_open (λ o. bind first_part_completes leads_any (λ first. bind middle_completes (leads_token is_semicolon (same_self terms.Semicolon)) (λ c. wanted is_semicolon (λ d. bind last_completes (leads_token is_close (same_self terms.RightParen))
        (λ last. wanted is_close (λ e. bind (inner arounds.Loop) (leads_none (λ k so. so)) (λ s. pure_completes (stmts.For from first c last s)))))))))

    atomic_takes : (around : Around) → Takes terms.AtomicBegin (spec.atomic_stmt n p around) (spec.atomic_stmt m q around) (open_token ∷ close_token ∷ semicolon ∷ end_token ∷ open_token ∷ close_token ∷ semicolon ∷ []) no_else
    unfolding spec.atomic_stmt
    atomic_takes around = taking refl (λ from. bind word_end_completes leads_any (λ b. bind (many_completes terms.AtomicEnd (p around) (q around) [] no_else (shrinks around) (deeper around) semicolon (inner around) atomic_no_else) (leads_token is_atomic_end (same_self terms.AtomicEnd))
        (λ ss. wanted is_atomic_end (λ e. bind word_end_completes leads_any (λ c. pure_completes (stmts.Atomic from ss))))))

    empty_takes : (around : Around) → Takes terms.Semicolon (spec.stmt_by n p around terms.Semicolon) (spec.stmt_by m q around terms.Semicolon) [] no_else
    empty_takes around = taking refl (λ from. pure_completes (stmts.Empty from))

    handles_stmt : (around : Around) (t : Lexeme) → IsToken t terms.HandleType → Completes (spec.stmt_by n p around terms.HandleType) (spec.stmt_by m q around terms.HandleType) (t ∷ name_token ∷ semicolon ∷ []) no_else
    handles_stmt around t token = bind (handles_completes t token) leads_any (λ h. pure_completes (stmts.Handles h))

    stmt_branches : (around : Around) → Branches (spec.stmt_by n p around) (spec.stmt_by m q around) no_else
    stmt_branches around terms.LeftBrace end ts is = filled ((block_stmt around left_token is_left).there end ts)
    stmt_branches around terms.Semicolon end ts is = (empty_takes around).there end ts is
    stmt_branches around terms.Static end ts is = filled (local_stmt_completes.there end ts)
    stmt_branches around terms.Volatile end ts is = filled (local_stmt_completes.there end ts)
    stmt_branches around terms.Extern end ts is = filled (local_stmt_completes.there end ts)
    stmt_branches around terms.Int end ts is = filled (local_stmt_completes.there end ts)
    stmt_branches around terms.Long end ts is = filled (local_stmt_completes.there end ts)
    stmt_branches around terms.Name end ts is = filled (assign_stmt_completes.there end ts)
    stmt_branches around terms.Increment end ts is = filled (assign_stmt_completes.there end ts)
    stmt_branches around terms.Decrement end ts is = filled (assign_stmt_completes.there end ts)
    stmt_branches around terms.If end ts is = (if_takes around).there end ts is
    stmt_branches around terms.While end ts is = while_takes.there end ts is
    stmt_branches around terms.For end ts is = for_takes.there end ts is
    stmt_branches around terms.Break end ts is = break_there around end ts is
    stmt_branches around terms.Return end ts is = return_takes.there end ts is
    stmt_branches around terms.AtomicBegin end ts is = (atomic_takes around).there end ts is
    stmt_branches around terms.HandleType end ts is = filled ((handles_stmt around handle_token is_handle).there end ts)
    stmt_branches around _ end ts is = filled (call_stmt_completes.there end ts)

    -- where no level is left, what a further level reads
    limit_branches : (around : Around) → Branches (λ k. spec.past_limit (spec.begins around k)) (spec.stmt_by m q around) no_else
    limit_branches around terms.LeftBrace end ts is = deep_at refl (λ t e. (block_stmt around t (record { is = e; some = refl })).fill) end ts is
    limit_branches around terms.Semicolon end ts is = deep_at refl (empty_takes around).fill end ts is
    limit_branches around terms.Static end ts is = deep_at refl (λ t e. qualified_fill (record { from = t.from; kind = kinds.Static }) t (ap (λ (k : Term). simple_spec.qual_mark k t.from) e)) end ts is
    limit_branches around terms.Volatile end ts is = deep_at refl (λ t e. qualified_fill (record { from = t.from; kind = kinds.Volatile }) t (ap (λ (k : Term). simple_spec.qual_mark k t.from) e)) end ts is
    limit_branches around terms.Extern end ts is = deep_at refl (λ t e. qualified_fill (record { from = t.from; kind = kinds.Extern }) t (ap (λ (k : Term). simple_spec.qual_mark k t.from) e)) end ts is
    limit_branches around terms.Int end ts is = deep_at refl (λ t e. local_stmt_fill (local_int_fill n m lt t e)) end ts is
    limit_branches around terms.Long end ts is = deep_at refl (λ t e. local_stmt_fill (local_long_fill n m lt t e)) end ts is
    limit_branches around terms.Name end ts is = deep_at refl (λ t e. assign_stmt_fill (assign_name_fill n m lt t e)) end ts is
    limit_branches around terms.Increment end ts is = deep_at refl (λ t e. assign_stmt_fill (assign_increment_fill n m lt t e)) end ts is
    limit_branches around terms.Decrement end ts is = deep_at refl (λ t e. assign_stmt_fill (assign_decrement_fill n m lt t e)) end ts is
    limit_branches around terms.If end ts is = deep_at refl (if_takes around).fill end ts is
    limit_branches around terms.While end ts is = deep_at refl while_takes.fill end ts is
    limit_branches around terms.For end ts is = deep_at refl for_takes.fill end ts is
    limit_branches arounds.Loop terms.Break end ts is = deep_at refl break_takes.fill end ts is
    limit_branches around terms.Return end ts is = deep_at refl return_takes.fill end ts is
    limit_branches around terms.Assert end ts is = deep_at refl (call_stmt_fill terms.Assert refl) end ts is
    limit_branches around terms.Assume end ts is = deep_at refl (call_stmt_fill terms.Assume refl) end ts is
    limit_branches around terms.ReachError end ts is = deep_at refl (call_stmt_fill terms.ReachError refl) end ts is
    limit_branches around terms.Abort end ts is = deep_at refl (call_stmt_fill terms.Abort refl) end ts is
    limit_branches around terms.Exit end ts is = deep_at refl (call_stmt_fill terms.Exit refl) end ts is
    limit_branches around terms.MutexLock end ts is = deep_at refl (call_stmt_fill terms.MutexLock refl) end ts is
    limit_branches around terms.MutexUnlock end ts is = deep_at refl (call_stmt_fill terms.MutexUnlock refl) end ts is
    limit_branches around terms.MutexDestroy end ts is = deep_at refl (call_stmt_fill terms.MutexDestroy refl) end ts is
    limit_branches around terms.MutexInit end ts is = deep_at refl (call_stmt_fill terms.MutexInit refl) end ts is
    limit_branches around terms.Create end ts is = deep_at refl (call_stmt_fill terms.Create refl) end ts is
    limit_branches around terms.Join end ts is = deep_at refl (call_stmt_fill terms.Join refl) end ts is
    limit_branches around terms.AtomicBegin end ts is = deep_at refl (atomic_takes around).fill end ts is
    limit_branches around terms.HandleType end ts is = deep_at refl (λ t e. (handles_stmt around t (record { is = e; some = refl })).fill) end ts is
    limit_branches around _ end ts is = refuse_at end ts

-- a statement is filled by `;`
empty_fill : Fills (take_token >>= λ from. pure (stmts.Empty from)) (semicolon ∷ []) no_else
empty_fill = fill_bind (take_fill {C = any} semicolon) (λ from. (pure_completes (stmts.Empty from)).fill) leads_any

stmt_fill : (levels : ℕ) (around : Around) → Fills (spec.stmt (suc levels) around) (semicolon ∷ []) no_else
unfolding spec.stmt spec.stmt_over
stmt_fill levels around = looked_fill (spec.stmt_by levels (spec.stmt levels) around) terms.Semicolon is_semicolon.is empty_fill

no_stmt_completes : (m : ℕ) (around : Around) → Completes (spec.stmt zero around) (spec.stmt (suc (suc m)) around) (semicolon ∷ []) no_else
unfolding spec.stmt spec.stmt_over spec.no_stmt
no_stmt_completes m around = same_completes (spec.no_stmt around) (look >>= spec.stmt_by (suc m) (spec.stmt (suc m)) around) (look >>= λ k. spec.past_limit (spec.begins around k)) (look >>= spec.stmt_by (suc m) (spec.stmt (suc m)) around) (λ i. refl) (λ i. refl)
    (looked (limit_branches 0 (suc m) (omega arith) (λ a. refuse) (spec.stmt (suc m)) (λ a. refuse_shrinks) (stmt_shrinks (suc m)) (λ a. not_read (stmt_fill m a)) around) terms.Semicolon is_semicolon.is
    empty_fill)

stmt_over_completes : (n m : ℕ) → n < m → ((around : Around) → Completes (spec.stmt n around) (spec.stmt m around) (semicolon ∷ []) no_else) → (around : Around) → Completes (spec.stmt (suc n) around) (spec.stmt (suc m) around) (semicolon ∷ []) no_else
unfolding spec.stmt spec.stmt_over
stmt_over_completes n m lt inner around = looked (stmt_branches n m lt (spec.stmt n) (spec.stmt m) (stmt_shrinks n) (stmt_shrinks m) inner around) terms.Semicolon is_semicolon.is
    empty_fill

pub stmt_completes : (n m : ℕ) → suc n < m → (around : Around) → Completes (spec.stmt n around) (spec.stmt m around) (semicolon ∷ []) no_else
stmt_completes n zero lt around = absurd (omega arith)
stmt_completes n (suc zero) lt around = absurd (omega arith)
stmt_completes zero (suc (suc m)) lt around = no_stmt_completes m around
stmt_completes (suc n) (suc (suc m)) lt around = stmt_over_completes n (suc m) (omega arith) (stmt_completes n (suc m) (omega arith)) around
