-- The actions of statements match what is left at their locations.
use Rattle.std.proofs.Common.{◌≡◌, ℕ, ◌+◌, ◌++◌, Some, None, refl, subst}
use Rattle.c_check.specs.Plan.{Stmt, Stmts}
use Rattle.c_check.specs.Items.{Grain, Item, Items, Side, items, joined, one}
use Rattle.thread_cfg.specs.Source.{Standing, behind_loop, read_as}
use Rattle.thread_cfg.specs.Path.{Event}
use Rattle.thread_cfg.specs.Action.{Around, actions, assign_accesses, assign_reads, condition_actions, condition_size, entry, over_reads, simple, size, stmt_actions, stmt_size}
use Rattle.thread_cfg.specs.SameSteps.{Lefts}
use Rattle.thread_cfg.specs.inside.Left.{again, condition_left, left, round, stmt_left}
use Rattle.thread_cfg.proofs.Matching.{AllMatch, StandsFrom, any-matches, assign-matches, block-matches, jump-matches, lock-matches, match-++, stands-behind, stands-front, unlock-matches}
use Rattle.thread_cfg.proofs.Entries.{behind-items, condition-length, entry-stands, joined-joined, loop-stands, stmt-length, stmts-length}
use Rattle.thread_cfg.proofs.Tests.{condition-match, reads-match, test-match}

-- What is left around statements: at the next location what is behind them, behind the innermost loop what is behind its mark, at the
-- last location nothing, and at 0 the thread has failed.
pub record Surrounded (lefts : Lefts) (around : Around) (next : ℕ) (rest : Items) : Type 0 where
  pub next_stands : lefts next ≡ Some (Standing.Doing (read_as rest))
  pub out_stands : lefts around.out ≡ Some (Standing.Doing (read_as (behind_loop rest)))
  pub exit_stands : lefts around.exit ≡ Some (Standing.Doing Items.End)
  pub fails : lefts 0 ≡ Some Standing.Failed

mutual
  -- the actions of a statement do what its items do
  stmt-match : (lefts : Lefts) (around : Around) (at next : ℕ) (s : Stmt) (rest : Items) → Surrounded lefts around next rest
      → StandsFrom lefts at (stmt_left around.temporary s rest) → AllMatch around.frame lefts (stmt_left around.temporary s rest) (stmt_actions around at next s)
  stmt-match lefts around at next (Stmt.Assign from place v e) rest k h =
      reads-match around.frame lefts from (assign_reads around.temporary v e) at (Items.Then (Item.Assign v (over_reads around.temporary (assign_accesses v e) e)) rest)
      (simple from (Event.Sets place v (over_reads around.temporary (assign_accesses v e) e)) next) refl h
      (assign-matches around.frame lefts from place v (over_reads around.temporary (assign_accesses v e) e) next rest k.next_stands)
  stmt-match lefts around at next (Stmt.AssignAny from v) rest k h = (any-matches around.frame lefts from v next rest k.next_stands, tt)
  stmt-match lefts around at next (Stmt.If from c ts es) rest k h =
      let temporary = around.temporary in
      let cs = condition_left temporary c (Side.Goes (items (Grain.Cut temporary) ts)) (Side.Goes (items (Grain.Cut temporary) es)) rest in
      let t_at = at + condition_size c in
      let e_at = at + condition_size c + size ts in
      let both = subst (λ n. StandsFrom lefts (at + n) (left temporary ts rest ++ left temporary es rest))
      (condition-length temporary c (Side.Goes (items (Grain.Cut temporary) ts)) (Side.Goes (items (Grain.Cut temporary) es)) rest)
      (stands-behind lefts at cs (left temporary ts rest ++ left temporary es rest) h) in
      let t_h = stands-front lefts t_at (left temporary ts rest) (left temporary es rest) both in
      let e_h = subst (λ n. StandsFrom lefts (t_at + n) (left temporary es rest)) (stmts-length temporary ts rest)
      (stands-behind lefts t_at (left temporary ts rest) (left temporary es rest) both) in
      match-++ around.frame lefts cs (left temporary ts rest ++ left temporary es rest) (condition_actions temporary at (entry ts t_at next) (entry es e_at next) c)
      (actions around t_at next ts ++ actions around e_at next es)
      (condition-match around.frame lefts temporary at (entry ts t_at next) (entry es e_at next) c (items (Grain.Cut temporary) ts) (items (Grain.Cut temporary) es) rest
      (entry-stands lefts temporary t_at next ts rest t_h k.next_stands) (entry-stands lefts temporary e_at next es rest e_h k.next_stands)
      (stands-front lefts at cs (left temporary ts rest ++ left temporary es rest) h))
      (match-++ around.frame lefts (left temporary ts rest) (left temporary es rest) (actions around t_at next ts) (actions around e_at next es)
      (stmts-match lefts around t_at next ts rest k t_h) (stmts-match lefts around e_at next es rest k e_h))
  stmt-match lefts around at next (Stmt.Loop from c body last) rest k h =
      let temporary = around.temporary in
      let mark = Items.Then (again temporary c body last) rest in
      let cs = condition_left temporary c (Side.Goes (round temporary c body last)) (Side.Goes Items.End) rest in
      let bs = left temporary body (joined (items (Grain.Cut temporary) last) mark) in
      let ls = left temporary last mark in
      let b_at = at + condition_size c in
      let l_at = at + condition_size c + size body in
      let inside = record around { out = next } in
      let both = subst (λ n. StandsFrom lefts (at + n) (bs ++ ls)) (condition-length temporary c (Side.Goes (round temporary c body last)) (Side.Goes Items.End) rest)
      (stands-behind lefts at cs (bs ++ ls) h) in
      let c_h = stands-front lefts at cs (bs ++ ls) h in
      let b_h = stands-front lefts b_at bs ls both in
      let l_h = subst (λ n. StandsFrom lefts (b_at + n) ls) (stmts-length temporary body (joined (items (Grain.Cut temporary) last) mark)) (stands-behind lefts b_at bs ls both) in
      let round_stands = loop-stands lefts temporary at c body last rest c_h in
      let last_stands = entry-stands lefts temporary l_at at last mark l_h round_stands in
      let body_stands = entry-stands lefts temporary b_at (entry last l_at at) body (joined (items (Grain.Cut temporary) last) mark) b_h last_stands in
      match-++ around.frame lefts cs (bs ++ ls) (condition_actions temporary at (entry body b_at (entry last l_at at)) next c)
      (actions inside b_at (entry last l_at at) body ++ actions inside l_at at last)
      (condition-match around.frame lefts temporary at (entry body b_at (entry last l_at at)) next c (round temporary c body last) Items.End rest
      (rw (
        joined-joined (items (Grain.Cut temporary) body) (joined (items (Grain.Cut temporary) last) (one (again temporary c body last))) rest,
        joined-joined (items (Grain.Cut temporary) last) (one (again temporary c body last)) rest,
      ) body_stands)
      k.next_stands c_h)
      (match-++ around.frame lefts bs ls (actions inside b_at (entry last l_at at) body) (actions inside l_at at last)
      (stmts-match lefts inside b_at (entry last l_at at) body (joined (items (Grain.Cut temporary) last) mark)
      (record { next_stands = last_stands; out_stands = rw (behind-items temporary last mark) k.next_stands; exit_stands = k.exit_stands; fails = k.fails }) b_h)
      (stmts-match lefts inside l_at at last mark
      (record { next_stands = round_stands; out_stands = k.next_stands; exit_stands = k.exit_stands; fails = k.fails }) l_h))
  stmt-match lefts around at next (Stmt.Break from) rest k h =
      (jump-matches around.frame lefts from around.out Item.Break rest (behind_loop rest) refl k.out_stands (λ values after standing d. (d.0, d.1)) (λ values. (refl, refl)), tt)
  stmt-match lefts around at next (Stmt.Exit from) rest k h =
      (jump-matches around.frame lefts from around.exit Item.Exit rest Items.End refl k.exit_stands (λ values after standing d. (d.0, d.1)) (λ values. (refl, refl)), tt)
  stmt-match lefts around at next (Stmt.Lock from lock) rest k h = (lock-matches around.frame lefts from lock next rest k.next_stands, tt)
  stmt-match lefts around at next (Stmt.Unlock from lock) rest k h = (unlock-matches around.frame lefts from lock next rest k.next_stands k.fails, tt)
  stmt-match lefts around at next (Stmt.Assert from t) rest k h =
      test-match around.frame lefts around.temporary at (Some next) (Some 0) t (Side.Goes Items.End) Side.Failed rest k.next_stands k.fails h
  stmt-match lefts around at next (Stmt.Assume from t) rest k h =
      test-match around.frame lefts around.temporary at (Some next) None t (Side.Goes Items.End) Side.Nowhere rest k.next_stands tt h
  stmt-match lefts around at next (Stmt.Atomic from inner) rest k h = (block-matches around.frame lefts from inner next rest k.next_stands k.fails, tt)

  -- the actions of statements do what their items do
  pub stmts-match : (lefts : Lefts) (around : Around) (at next : ℕ) (ss : Stmts) (rest : Items) → Surrounded lefts around next rest
      → StandsFrom lefts at (left around.temporary ss rest) → AllMatch around.frame lefts (left around.temporary ss rest) (actions around at next ss)
  stmts-match lefts around at next Stmts.End rest k h = tt
  stmts-match lefts around at next (Stmts.Then s more) rest k h =
      let temporary = around.temporary in
      let behind = joined (items (Grain.Cut temporary) more) rest in
      let m_at = at + stmt_size s in
      let m_h = subst (λ n. StandsFrom lefts (at + n) (left temporary more rest)) (stmt-length temporary s behind)
      (stands-behind lefts at (stmt_left temporary s behind) (left temporary more rest) h) in
      match-++ around.frame lefts (stmt_left temporary s behind) (left temporary more rest) (stmt_actions around at (entry more m_at next) s) (actions around m_at next more)
      (stmt-match lefts around at (entry more m_at next) s behind
      (record {
        next_stands = entry-stands lefts temporary m_at next more rest m_h k.next_stands;
        out_stands = rw (behind-items temporary more rest) k.out_stands;
        exit_stands = k.exit_stands;
        fails = k.fails;
      })
      (stands-front lefts at (stmt_left temporary s behind) (left temporary more rest) h))
      (stmts-match lefts around m_at next more rest k m_h)
