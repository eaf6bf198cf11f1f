use Rattle.c_tree.proofs.View.{block_is, empty_is, local_is, assign_is, if_is, while_is, for_is, break_is, return_is, call_is, atomic_is, handles_is}
use Rattle.c_tree.proofs.views.plain_statements_go_by_form.Goals as goal

pub returns-clause-block : goal.returns-clause-block
returns-clause-block c = block_is

pub returns-clause-empty : goal.returns-clause-empty
returns-clause-empty c = empty_is

pub returns-clause-local : goal.returns-clause-local
returns-clause-local c = local_is

pub returns-clause-assign : goal.returns-clause-assign
returns-clause-assign c = assign_is

pub returns-clause-if_else : goal.returns-clause-if_else
returns-clause-if_else c = if_is

pub returns-clause-while_loop : goal.returns-clause-while_loop
returns-clause-while_loop c = while_is

pub returns-clause-for_loop : goal.returns-clause-for_loop
returns-clause-for_loop c = for_is

pub returns-clause-break_out : goal.returns-clause-break_out
returns-clause-break_out c = break_is

pub returns-clause-return_from : goal.returns-clause-return_from
returns-clause-return_from c = return_is

pub returns-clause-call : goal.returns-clause-call
returns-clause-call c = call_is

pub returns-clause-atomic : goal.returns-clause-atomic
returns-clause-atomic c = atomic_is

pub returns-clause-handles : goal.returns-clause-handles
returns-clause-handles c = handles_is
