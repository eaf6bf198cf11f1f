-- What is read of variables and locks stands in the text.
use Rattle.std.proofs.Common.{◌≡◌, Bool, true, false, length, Option, Some, None, Ok, refl}
use Rattle.c_tree.specs.declared.term.Term.TheVariants as terms
use Rattle.c_tree.specs.declared.item.Start.{Start}
use Rattle.c_tree.specs.inside.Input.{Input, place, sees, after, expect, eat}
use Rattle.c_tree.specs.inside.Chain.{more_of}
use Rattle.c_tree.specs.inside.Expr as expr_spec
use Rattle.c_tree.specs.inside.Simple.{comma_mark}
use Rattle.c_tree.specs.inside.Item as spec
use Rattle.c_tree.specs.Grammar.{Stands, StartsAt}
use Rattle.c_tree.specs.Sequence.{◌then◌, Perhaps, IsComma}
use Rattle.c_tree.specs.GrammarItem.{IsSign, IsStart, IsGname, IsGlobals, IsStarted, IsMname, IsLocks}
use Rattle.c_tree.proofs.Steps.{bind_ok}
use Rattle.c_tree.proofs.Shrinks.{Shrinks, number_shrinks}
use Rattle.c_tree.proofs.Sizes.{bind_first, bind_second, pure_le, here_le, eat_le}
use Rattle.c_tree.proofs.Found.{Finds, expect_found, name_found, number_found, more_found, starts}
use Rattle.c_tree.proofs.FoundParts.{given, semicolon_found, stands_found, eaten, not_eaten, comma_mark_found}

start_number_shrinks : Shrinks spec.start_number
unfolding spec.start_number
start_number_shrinks = bind_second _ _ here_le (λ from. bind_second (eat terms.Minus) _ (eat_le terms.Minus) (λ m. bind_first expr_spec.number _ number_shrinks (λ v. pure_le {A = Start} (record { from = from; is_negative = m; value = v }))))

sign_found : (i : Input) (b : Bool) → sees terms.Minus i ≡ b → IsSign b i.tokens (after terms.Minus i).tokens
sign_found i true is = eaten terms.Minus (λ h. cc) i is
sign_found i false is = not_eaten terms.Minus i is

start_number_found : Finds spec.start_number IsStart
unfolding spec.start_number
start_number_found i x j e =
    let starts_so : StartsAt (place i) i.tokens = starts i (length j.tokens) (start_number_shrinks i x j e) in
    let a = bind_ok (expr_spec.number (after terms.Minus i)) _ x j e in
    let numbered = number_found (after terms.Minus i) a.0 a.1 a.2 in
    given IsStart (record { from = place i; is_negative = sees terms.Minus i; value = a.0 }) x a.1 j i.tokens a.3
    (starts_so, ((after terms.Minus i).tokens, sign_found i (sees terms.Minus i) refl, ((place (after terms.Minus i), numbered.0), numbered.1)))

start_found : (i : Input) (b : Bool) → sees terms.Assign i ≡ b → (x : Option Start) (j : Input) → spec.start_if b (after terms.Assign i) ≡ Ok (x, j) → Perhaps (λ s. Stands terms.Assign then IsStart s) x i.tokens j.tokens
start_found i true is x j e =
    let a = bind_ok (spec.start_number (after terms.Assign i)) _ x j e in
    given (Perhaps (λ s. Stands terms.Assign then IsStart s)) (Some a.0) x a.1 j i.tokens a.3 ((after terms.Assign i).tokens, eaten terms.Assign (λ h. cc) i is, start_number_found (after terms.Assign i) a.0 a.1 a.2)
start_found i false is x j e = given (Perhaps (λ s. Stands terms.Assign then IsStart s)) None x (after terms.Assign i) j i.tokens e (not_eaten terms.Assign i is)

gname_found : Finds spec.gname IsGname
unfolding spec.gname
gname_found i x j e =
    let a = bind_ok (expr_spec.name i) _ x j e in
    let b = bind_ok (spec.start_if (sees terms.Assign a.1) (after terms.Assign a.1)) _ x j a.3 in
    given IsGname (record { name = a.0; start = b.0 }) x b.1 j i.tokens b.3 (a.1.tokens, name_found i a.0 a.1 a.2, start_found a.1 (sees terms.Assign a.1) refl b.0 b.1 b.2)

pub globals_found : Finds spec.globals IsGlobals
unfolding spec.globals
globals_found i x j e =
    let a = bind_ok (spec.gname i) _ x j e in
    let b = bind_ok (more_of comma_mark spec.gname a.1) _ x j a.3 in
    let c = bind_ok (expect terms.Semicolon b.1) _ x j b.3 in
    given IsGlobals (record { first = a.0; more = b.0 }) x c.1 j i.tokens c.3
    (a.1.tokens, gname_found i a.0 a.1 a.2, (b.1.tokens, more_found comma_mark spec.gname IsComma IsGname comma_mark_found gname_found a.1 b.0 b.1 b.2, semicolon_found b.1 c.0 c.1 c.2))

started_found : (i : Input) (b : Bool) → sees terms.Assign i ≡ b → (x : Bool) (j : Input) → spec.started_if b (after terms.Assign i) ≡ Ok (x, j) → IsStarted x i.tokens j.tokens
started_found i true is x j e =
    let a = bind_ok (expect terms.MutexStart (after terms.Assign i)) _ x j e in
    given IsStarted true x a.1 j i.tokens a.3 ((after terms.Assign i).tokens, eaten terms.Assign (λ h. cc) i is, stands_found terms.MutexStart (λ h. cc) (after terms.Assign i) a.0 a.1 a.2)
started_found i false is x j e = given IsStarted false x (after terms.Assign i) j i.tokens e (not_eaten terms.Assign i is)

mname_found : Finds spec.mname IsMname
unfolding spec.mname
mname_found i x j e =
    let a = bind_ok (expr_spec.name i) _ x j e in
    let b = bind_ok (spec.started_if (sees terms.Assign a.1) (after terms.Assign a.1)) _ x j a.3 in
    given IsMname (record { name = a.0; is_started = b.0 }) x b.1 j i.tokens b.3 (a.1.tokens, name_found i a.0 a.1 a.2, started_found a.1 (sees terms.Assign a.1) refl b.0 b.1 b.2)

pub locks_found : Finds spec.locks IsLocks
unfolding spec.locks
locks_found i x j e =
    let h = bind_ok (expect terms.MutexType i) _ x j e in
    let a = bind_ok (spec.mname h.1) _ x j h.3 in
    let b = bind_ok (more_of comma_mark spec.mname a.1) _ x j a.3 in
    let c = bind_ok (expect terms.Semicolon b.1) _ x j b.3 in
    given IsLocks (record { from = h.0; first = a.0; more = b.0 }) x c.1 j i.tokens c.3
    (h.1.tokens, expect_found terms.MutexType (λ z. cc) i h.0 h.1 h.2, (a.1.tokens, mname_found h.1 a.0 a.1 a.2, (b.1.tokens, more_found comma_mark spec.mname IsComma IsMname comma_mark_found mname_found a.1 b.0 b.1 b.2, semicolon_found b.1 c.0 c.1 c.2)))
