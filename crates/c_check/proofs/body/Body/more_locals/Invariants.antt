use Rattle.std.proofs.Common.{◌≡◌, length, map, drop}
use Rattle.c_tree.specs.Seen.{plain_lname}
use Rattle.c_check.specs.Resolve.{with_locals}
use Rattle.c_check.specs.inside.Found.{locals_found, together}
use Rattle.c_check.proofs.body.Body.more_locals.Given as goal

abbrev pub invariant-loop-m : goal.invariant-loop-m
invariant-loop-m l =
    let left = map (λ m. plain_lname m.1) (drop l.m-index l.more) in
    let all = map (λ m. plain_lname m.1) l.more in
    (with_locals l.scopes (length l.self.locals) left ≡ with_locals l.fn.scopes (length l.fn.self.locals) all)
    × (together l.self (locals_found l.scopes (length l.self.locals) left) ≡ together l.fn.self (locals_found l.fn.scopes (length l.fn.self.locals) all))
