use Rattle.annotation_form.proofs.HomeTexts.{no_thread, no_place, split3}
use Rattle.annotation_form.proofs.head.read_head.Goals as goal

pub returns-in_err-thread-clause-none : goal.returns-in_err-thread-clause-none
returns-in_err-thread-clause-none c =
    rw c.from_residual-in_err-thread.ensures (λ home atom small is.
    no_thread home atom c.args.line.now _ _ small is c.in_ok-kind.ensures.plain c.in_ok-kind.ensures.parts c.in_err-thread.ensures.none)

pub returns-in_err-place-clause-none : goal.returns-in_err-place-clause-none
returns-in_err-place-clause-none c =
    rw c.from_residual-in_err-place.ensures (λ home atom small is.
    no_place home atom c.args.line.now _ _ _ _ small is c.in_ok-kind.ensures.plain c.in_ok-kind.ensures.parts c.in_ok-thread.ensures.plain c.in_ok-thread.ensures.parts c.in_err-place.ensures.none)

pub returns-in_err-atom-clause-none : goal.returns-in_err-atom-clause-none
returns-in_err-atom-clause-none c =
    rw c.from_residual-in_err-atom.ensures (λ home atom small is.
    let parts = split3 home atom c.args.line.now _ _ _ _ _ _ small is c.in_ok-kind.ensures.plain c.in_ok-kind.ensures.parts c.in_ok-thread.ensures.plain c.in_ok-thread.ensures.parts c.in_ok-place.ensures.plain c.in_ok-place.ensures.parts in
    c.in_err-atom.ensures.none atom parts.behind_is)

pub returns-in_err-home-clause-none : goal.returns-in_err-home-clause-none
returns-in_err-home-clause-none c =
    rw c.from_residual-in_err-home.ensures (λ home atom small is.
    let parts = split3 home atom c.args.line.now _ _ _ _ _ _ small is c.in_ok-kind.ensures.plain c.in_ok-kind.ensures.parts c.in_ok-thread.ensures.plain c.in_ok-thread.ensures.parts c.in_ok-place.ensures.plain c.in_ok-place.ensures.parts in
    c.in_err-home.ensures.none home small parts.are_words)
