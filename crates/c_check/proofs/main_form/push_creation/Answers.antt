use Rattle.std.proofs.Common.{sym, append-nil}
use Rattle.c_tree.proofs.View.{block_is, empty_is, local_is, assign_is, if_is, while_is, for_is, break_is, return_is, call_is, atomic_is, handles_is}
use Rattle.c_check.proofs.Creations.{if_creates_nothing}
use Rattle.c_check.proofs.main_form.push_creation.Goals as goal

pub returns-in-Block : goal.returns-in-Block
returns-in-Block c = rw (c.in-Block.is, block_is) (sym (append-nil c.args.created.now))

pub returns-in-Empty : goal.returns-in-Empty
returns-in-Empty c = rw (c.in-Empty.is, empty_is) (sym (append-nil c.args.created.now))

pub returns-in-Local : goal.returns-in-Local
returns-in-Local c = rw (c.in-Local.is, local_is) (sym (append-nil c.args.created.now))

pub returns-in-Assign : goal.returns-in-Assign
returns-in-Assign c = rw (c.in-Assign.is, assign_is) (sym (append-nil c.args.created.now))

pub returns-in-While : goal.returns-in-While
returns-in-While c = rw (c.in-While.is, while_is) (sym (append-nil c.args.created.now))

pub returns-in-For : goal.returns-in-For
returns-in-For c = rw (c.in-For.is, for_is) (sym (append-nil c.args.created.now))

pub returns-in-Break : goal.returns-in-Break
returns-in-Break c = rw (c.in-Break.is, break_is) (sym (append-nil c.args.created.now))

pub returns-in-Return : goal.returns-in-Return
returns-in-Return c = rw (c.in-Return.is, return_is) (sym (append-nil c.args.created.now))

pub returns-in-Atomic : goal.returns-in-Atomic
returns-in-Atomic c = rw (c.in-Atomic.is, atomic_is) (sym (append-nil c.args.created.now))

pub returns-in-Handles : goal.returns-in-Handles
returns-in-Handles c = rw (c.in-Handles.is, handles_is) (sym (append-nil c.args.created.now))

pub returns-in-If : goal.returns-in-If
returns-in-If c = rw (c.in-If.is, if_is, if_creates_nothing) (sym (append-nil c.args.created.now))

pub returns-in-Call : goal.returns-in-Call
returns-in-Call c = rw (c.in-Call.is, call_is, ← c.get.ensures) c.push_called.ensures
