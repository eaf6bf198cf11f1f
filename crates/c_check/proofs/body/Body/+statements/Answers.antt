use Rattle.std.proofs.Common.{◌≡◌, ◌++◌, ◌+◌, ◌∷◌, [], length, drop, None, option_map, refl, sym, ap, ◌∙◌, arith, rules}
use Rattle.std.proofs.lemmas.List.{drop_more, drop_all}
use Rattle.std.proofs.lemmas.Result.{on_ok_weaker}
use Rattle.c_tree.specs.Plain as plain
use Rattle.c_tree.specs.Seen.{plain_assign, plain_call, plain_cond, plain_first, plain_stmt, plain_stmts}
use Rattle.c_tree.proofs.View.{block_is, empty_is, local_is, assign_is, if_is, while_is, for_is, break_is, return_is, call_is, atomic_is, handles_is}
use Rattle.c_check.specs.declared.uses.Use.TheVariants as use_as
use Rattle.c_check.specs.declared.instruction.Instruction.TheVariants as instruction
use Rattle.c_check.specs.Scope.{open_scope}
use Rattle.c_check.specs.Resolve as resolve
use Rattle.c_check.specs.Broken as broken
use Rattle.c_check.specs.First.{first_of}
use Rattle.c_check.specs.inside.Found.{first_found, found, loop_end, other_found, refused, stmt_found, stmts_found, tested, together}
use Rattle.c_check.proofs.Found.{together-none}
use Rattle.c_check.proofs.Compound.{exit_found, jump_found}
use Rattle.c_check.proofs.Arms.{atomic_done, behind-if_layer, block_found, declares_found, for_done, if_layer_done, length-outside, stmts_body, stmts_scopes, together-no_stmts, while_done}
use Rattle.c_check.proofs.Scoped.{drop-behind, drop-behind_all, drop-with_first}
use Rattle.c_check.proofs.body.Body.+statements.Goals as goal

pub block-returns-clause-scopes : goal.block-returns-clause-scopes
block-returns-clause-scopes t c =
    c.close.ensures ∙ ap (drop 1) c.in_ok-statements.ensures.scopes ∙ drop-behind_all c.open.new.self (length c.args.self.now.locals) (plain_stmts c.as_slice.result.now) ∙ ap (drop 1) c.in_ok-open.ensures

pub inside-returns-clause-scopes : goal.inside-returns-clause-scopes
inside-returns-clause-scopes t c =
    c.close.ensures ∙ ap (drop 1) c.in_ok-statement.ensures.scopes ∙ drop-behind c.open.new.self (length c.args.self.now.locals) (plain_stmt c.args.s.now) ∙ ap (drop 1) c.in_ok-open.ensures

pub statement-returns-in-Block-clause-scopes : goal.statement-returns-in-Block-clause-scopes
statement-returns-in-Block-clause-scopes t c = rw (c.in-Block.is, block_is) c.block.ensures.scopes

pub statement-returns-in-Block-clause-body : goal.statement-returns-in-Block-clause-body
statement-returns-in-Block-clause-body t c =
    rw (c.in-Block.is, block_is) (on_ok_weaker c.block.result (λ e. e ∙ ap (together c.args.self.now) (block_found _ _ _ _ _)) c.block.ensures.body)

pub statement-returns-in-Empty-clause-scopes : goal.statement-returns-in-Empty-clause-scopes
statement-returns-in-Empty-clause-scopes t c = rw (c.in-Empty.is, empty_is)

pub statement-returns-in-Empty-clause-body : goal.statement-returns-in-Empty-clause-body
unfolding stmt_found
statement-returns-in-Empty-clause-body t c = rw (c.in-Empty.is, empty_is) (sym (together-none c.args.self.now))

pub statement-returns-in-Local-clause-scopes : goal.statement-returns-in-Local-clause-scopes
statement-returns-in-Local-clause-scopes t c = rw (c.in-Local.is, local_is, ← c.get.ensures) c.locals.ensures.scopes

pub statement-returns-in-Local-clause-body : goal.statement-returns-in-Local-clause-body
statement-returns-in-Local-clause-body t c =
    rw (c.in-Local.is, local_is, ← c.get.ensures) (on_ok_weaker c.locals.result (λ e. e ∙ ap (together c.args.self.now) (declares_found _ _ _ _ _)) c.locals.ensures.body)

pub statement-returns-in_ok-end_loop-in-For-clause-scopes : goal.statement-returns-in_ok-end_loop-in-For-clause-scopes
statement-returns-in_ok-end_loop-in-For-clause-scopes t c =
    let f = plain_first c.in-For.first in
    let n = length c.args.self.now.locals in
    let inside_is : c.enter_for.new.scopes ≡ resolve.with_first (open_scope c.args.scopes.now) n f = search rules in
    rw (c.in-For.is, for_is) (c.close.ensures ∙ ap (drop 1) (c.in_ok-inside-in-For.ensures.scopes ∙ inside_is) ∙ drop-with_first (open_scope c.args.scopes.now) n f)

pub statement-returns-in_ok-end_loop-in-For-clause-body : goal.statement-returns-in_ok-end_loop-in-For-clause-body
statement-returns-in_ok-end_loop-in-For-clause-body t c =
    let ss = c.args.scopes.now in
    let p = c.args.place in
    let from = c.in-For.from in
    let f = plain_first c.in-For.first in
    let v = option_map plain_cond c.in-For.c in
    let last = option_map plain_assign c.in-For.last in
    let s = plain_stmt c.in-For.s in
    let n = length c.args.self.now.locals in
    let inside = c.enter_for.new.scopes in
    let inside_is : c.enter_for.new.scopes ≡ resolve.with_first (open_scope ss) n f = search rules in
    let e1 : c.enter_for.new.self ≡ together (together c.args.self.now (refused (first_of (broken.not_in_atomic p from)))) (first_found (open_scope ss) n f) = search rules in
    let e3 : c.inside-in-For.new.self ≡ together c.begin_for.new.self (stmt_found p (open_scope inside) (length c.begin_for.new.self.locals) s) = search rules in
    let e4 : c.end_loop.new.self ≡ together c.inside-in-For.new.self (loop_end inside last) = search rules in
    rw (c.in-For.is, for_is) (for_done p ss c.args.self.now from f v last s inside_is e1 c.in_ok-begin_for-in-For.ensures e3 e4)

pub statement-returns-in-Break-clause-scopes : goal.statement-returns-in-Break-clause-scopes
statement-returns-in-Break-clause-scopes t c = rw (c.in-Break.is, break_is) (on_ok_weaker c.push_outside_atomic.result (λ e. refl) c.push_outside_atomic.ensures)

pub statement-returns-in-Break-clause-body : goal.statement-returns-in-Break-clause-body
unfolding stmt_found
statement-returns-in-Break-clause-body t c =
    rw (c.in-Break.is, break_is) (on_ok_weaker c.push_outside_atomic.result (λ e. e ∙ ap (together c.args.self.now) (jump_found c.args.place c.in-Break.from)) c.push_outside_atomic.ensures)

pub statement-returns-in-Handles-clause-scopes : goal.statement-returns-in-Handles-clause-scopes
statement-returns-in-Handles-clause-scopes t c = rw (c.in-Handles.is, handles_is, ← c.get-in-Handles.ensures) c.handles.ensures.scopes

pub statement-returns-in-Handles-clause-body : goal.statement-returns-in-Handles-clause-body
unfolding stmt_found found refused
statement-returns-in-Handles-clause-body t c =
    rw (c.in-Handles.is, handles_is, ← c.get-in-Handles.ensures) c.handles.ensures.body

pub statements-loop-s-preserved : goal.statements-loop-s-preserved
statements-loop-s-preserved t c =
    let at = c.loop-s in
    let xs = c.args.ss.now in
    let s = c.s-item.result in
    let left = plain_stmts (drop (at.s-index + 1) xs) in
    let here : plain_stmts (drop at.s-index xs) ≡ plain.Stmts.Then (plain_stmt s) left =
    ap plain_stmts (drop_more xs at.s-index s (omega arith) ∙ ap (λ x. x ∷ drop (at.s-index + 1) xs) (sym c.s-item.is)) in (
      stmts_scopes c.args.place at.self at.scopes (plain_stmt s) left c.in_ok-statement.ensures.scopes c.in_ok-statement.ensures.body
          ∙ ap (resolve.behind_all at.scopes (length at.self.locals)) (sym here) ∙ at.invariant.0,
      stmts_body c.args.place at.self at.scopes (plain_stmt s) left c.in_ok-statement.ensures.scopes c.in_ok-statement.ensures.body
          ∙ ap (λ ls. together at.self (stmts_found c.args.place at.scopes (length at.self.locals) ls)) (sym here) ∙ at.invariant.1,
    )

pub statements-returns-clause-scopes : goal.statements-returns-clause-scopes
statements-returns-clause-scopes t c =
    let at = c.loop-s in
    ap (λ xs. resolve.behind_all at.scopes (length at.self.locals) (plain_stmts xs)) (sym (drop_all at.s-index c.args.ss.now (omega arith))) ∙ at.invariant.0

pub statements-returns-clause-body : goal.statements-returns-clause-body
statements-returns-clause-body t c =
    let at = c.loop-s in
    sym (together-no_stmts c.args.place at.self at.scopes)
    ∙ ap (λ xs. together at.self (stmts_found c.args.place at.scopes (length at.self.locals) (plain_stmts xs))) (sym (drop_all at.s-index c.args.ss.now (omega arith))) ∙ at.invariant.1

pub atomic-returns-clause-scopes : goal.atomic-returns-clause-scopes
atomic-returns-clause-scopes t c =
    let ss = c.args.scopes.now in
    let b = c.push_outside_atomic.new.self in
    let inner = plain_stmts c.args.ss.now in
    let same : length b.locals ≡ length c.args.self.now.locals =
    ap (λ x. length x.locals) c.in_ok-push_outside_atomic.ensures ∙ length-outside c.args.self.now c.args.place c.args.from _ in
    on_ok_weaker c.end_atomic.result (λ e. c.in_ok-statements.ensures.scopes ∙ ap (λ n. resolve.behind_all ss n inner) same) c.end_atomic.ensures

pub atomic-returns-clause-body : goal.atomic-returns-clause-body
atomic-returns-clause-body t c =
    let ss = c.args.scopes.now in
    let p = c.args.place in
    let b = c.push_outside_atomic.new.self in
    let inner = plain_stmts c.args.ss.now in
    let e2 : c.statements.new.self ≡ together b (stmts_found (broken.in_atomic p) ss (length b.locals) inner) = search rules in
    on_ok_weaker c.end_atomic.result (atomic_done p ss c.args.self.now c.args.from inner c.in_ok-push_outside_atomic.ensures e2) c.end_atomic.ensures

pub otherwise-returns-in-None-clause-body : goal.otherwise-returns-in-None-clause-body
unfolding found
otherwise-returns-in-None-clause-body t c = rw c.in-None.is (sym (together-none c.args.self.now))

pub repeat-returns-clause-body : goal.repeat-returns-clause-body
repeat-returns-clause-body t c =
    let ss = c.args.scopes.now in
    let p = c.args.place in
    let from = c.args.from in
    let v = plain_cond c.args.c.now in
    let s = plain_stmt c.args.s.now in
    let e1 : c.begin_while.new.self
    ≡ together (together c.args.self.now (refused (first_of (broken.not_in_atomic p from ++ broken.value_broken ss use_as.Condition v)))) (tested (instruction.Loop from) (resolve.condition ss v)) =
    search rules in
    let e2 : c.inside.new.self ≡ together c.begin_while.new.self (stmt_found p (open_scope ss) (length c.begin_while.new.self.locals) s) = search rules in
    on_ok_weaker c.end_loop.result (λ e. while_done p ss c.args.self.now from v s e1 e2
    (e ∙ ap (λ x. together c.inside.new.self (loop_end x None)) c.in_ok-inside.ensures.scopes)) c.end_loop.ensures

pub statement-returns-in-Assign-clause-scopes : goal.statement-returns-in-Assign-clause-scopes
statement-returns-in-Assign-clause-scopes t c = rw (c.in-Assign.is, assign_is) (on_ok_weaker c.assign_statement.result (λ e. refl) c.assign_statement.ensures)

pub statement-returns-in-Assign-clause-body : goal.statement-returns-in-Assign-clause-body
unfolding stmt_found
statement-returns-in-Assign-clause-body t c =
    let a = plain_assign c.in-Assign.a in
    let ss = c.args.scopes.now in
    rw (c.in-Assign.is, assign_is) (on_ok_weaker c.assign_statement.result
    (λ e. e ∙ ap (λ x. together c.args.self.now (found [] (resolve.assign ss (plain_assign x)) (broken.assign_broken ss (plain_assign x)))) c.get-in-Assign.ensures) c.assign_statement.ensures)

pub statement-returns-in-Call-clause-scopes : goal.statement-returns-in-Call-clause-scopes
statement-returns-in-Call-clause-scopes t c = rw (c.in-Call.is, call_is) (on_ok_weaker c.call_statement.result (λ e. refl) c.call_statement.ensures)

pub statement-returns-in-Call-clause-body : goal.statement-returns-in-Call-clause-body
unfolding stmt_found
statement-returns-in-Call-clause-body t c =
    let p = c.args.place in
    let ss = c.args.scopes.now in
    rw (c.in-Call.is, call_is) (on_ok_weaker c.call_statement.result
    (λ e. e ∙ ap (λ x. together c.args.self.now (found [] (resolve.call ss (plain_call x)) (broken.call_broken p ss (plain_call x)))) c.get-in-Call.ensures) c.call_statement.ensures)

pub statement-returns-in-Return-clause-scopes : goal.statement-returns-in-Return-clause-scopes
statement-returns-in-Return-clause-scopes t c = rw (c.in-Return.is, return_is) (on_ok_weaker c.exit.result (λ e. refl) c.exit.ensures)

pub statement-returns-in-Return-clause-body : goal.statement-returns-in-Return-clause-body
unfolding stmt_found
statement-returns-in-Return-clause-body t c =
    rw (c.in-Return.is, return_is) (on_ok_weaker c.exit.result (λ e. e ∙ ap (together c.args.self.now) (exit_found c.args.place c.in-Return.from)) c.exit.ensures)

pub statement-returns-in_ok-otherwise-in-If-clause-scopes : goal.statement-returns-in_ok-otherwise-in-If-clause-scopes
statement-returns-in_ok-otherwise-in-If-clause-scopes t c =
    let ss = c.args.scopes.now in
    let s = plain_stmt c.in-If.s in
    let other = option_map plain_stmt c.in-If.other in
    let same : c.otherwise.new.scopes ≡ ss = search rules in
    rw (c.in-If.is, if_is) (on_ok_weaker c.push-in-If.result (λ e. same ∙ sym (behind-if_layer ss (length c.args.self.now.locals) c.in-If.from (plain_cond c.in-If.c) s other)) c.push-in-If.ensures)

pub statement-returns-in_ok-otherwise-in-If-clause-body : goal.statement-returns-in_ok-otherwise-in-If-clause-body
statement-returns-in_ok-otherwise-in-If-clause-body t c =
    let ss = c.args.scopes.now in
    let p = c.args.place in
    let from = c.in-If.from in
    let v = plain_cond c.in-If.c in
    let s = plain_stmt c.in-If.s in
    let other = option_map plain_stmt c.in-If.other in
    let e1 : c.begin_if.new.self ≡ together (together c.args.self.now (refused (first_of (broken.value_broken ss use_as.Condition v)))) (tested (instruction.If from) (resolve.condition ss v)) =
    search rules in
    let e2 : c.inside.new.self ≡ together c.begin_if.new.self (stmt_found p (open_scope ss) (length c.begin_if.new.self.locals) s) = search rules in
    let e4 : c.otherwise.new.self ≡ together c.push.new.self (other_found p (open_scope ss) (length c.push.new.self.locals) other) = search rules in
    rw (c.in-If.is, if_is) (on_ok_weaker c.push-in-If.result (if_layer_done p ss c.args.self.now from v s other e1 e2 c.in_ok-push-in-If.ensures e4) c.push-in-If.ensures)

pub statement-returns-in-While-clause-scopes : goal.statement-returns-in-While-clause-scopes
statement-returns-in-While-clause-scopes t c = rw (c.in-While.is, while_is) c.repeat.ensures.scopes

pub statement-returns-in-While-clause-body : goal.statement-returns-in-While-clause-body
statement-returns-in-While-clause-body t c = rw (c.in-While.is, while_is, ← c.get-in-While.ensures, ← c.get-in-While-2.ensures) c.repeat.ensures.body

pub statement-returns-in-Atomic-clause-scopes : goal.statement-returns-in-Atomic-clause-scopes
statement-returns-in-Atomic-clause-scopes t c = rw (c.in-Atomic.is, atomic_is, ← c.as_slice.ensures) c.atomic.ensures.scopes

pub statement-returns-in-Atomic-clause-body : goal.statement-returns-in-Atomic-clause-body
statement-returns-in-Atomic-clause-body t c = rw (c.in-Atomic.is, atomic_is, ← c.as_slice.ensures) c.atomic.ensures.body
