use Rattle.std.proofs.Common.{◌≡◌, length, take, get_or, true, Ok, ◌++◌, refl, sym, ap, subst, ◌∙◌, arith, false-eqb}
use Rattle.std.proofs.lemmas.Bool.{eqb-true}
use Rattle.c_lex.specs.Tokens.{views, is_fresh_after, lexemes_of, lexed}
use Rattle.c_lex.proofs.Cuts.{Cuts, boundary, cuts_of}
use Rattle.c_lex.proofs.Steps.{IsReadTo, at_start, goes_on, refuses, at_end}
use Rattle.c_lex.proofs.Places.{stand_from}
use Rattle.c_lex.proofs.Longest.{tokens_from_longest}
use Rattle.c_lex.proofs.lexer.lex.Goals as goal
use Rattle.c_lex.proofs.lexer.lex.Goals.{In-Ok, After-loop-rest}

pub loop-rest-init : goal.loop-rest-init
loop-rest-init c = subst (λ ts. IsReadTo c.args.text.now (views ts) 0 true c.args.text.now) (sym c.new-tokens.ensures.items) (at_start c.args.text.now c.utf8.text)

pub returns-in-Err-clause-exact : goal.returns-in-Err-clause-exact
returns-in-Err-clause-exact c =
    refuses c.args.text.now _ c.loop-rest.from c.loop-rest.is_fresh c.loop-rest.rest.now c.in-Err.code (omega (arith, false-eqb _ 0 c.loop-rest-test.ensures)) (sym c.piece_at.ensures ∙ c.in-Err.is) c.loop-rest.invariant

-- the piece ends in the rest, where it may be cut
cuts : (c : In-Ok) → Cuts c.loop-rest.rest.now c.in-Ok.piece.len
cuts c = cuts_of c.loop-rest.is_fresh c.loop-rest.rest.now c.in-Ok.piece (omega (arith, false-eqb _ 0 c.loop-rest-test.ensures)) (sym c.piece_at.ensures ∙ c.in-Ok.is)

pub split_at-requires : goal.split_at-requires
split_at-requires c = boundary c.loop-rest.rest.now c.in-Ok.piece.len (cuts c) c.loop-rest.invariant.is_utf8

pub loop-rest-smaller : goal.loop-rest-smaller
loop-rest-smaller c =
    let some = (cuts (goal.at.loop-rest-smaller c).In-Ok).some in
    let within = (cuts (goal.at.loop-rest-smaller c).In-Ok).within in
    omega (arith, c.split_at.ensures.back_len)

pub loop-rest-preserved : goal.loop-rest-preserved
loop-rest-preserved c =
    let next = goes_on c.args.text.now (views c.loop-rest.tokens.items) c.loop-rest.from c.loop-rest.is_fresh c.loop-rest.rest.now c.in-Ok.piece (omega (arith, false-eqb _ 0 c.loop-rest-test.ensures)) (sym c.piece_at.ensures ∙ c.in-Ok.is) c.loop-rest.invariant in
    let front : views c.push_token.new.tokens.items ≡ views c.loop-rest.tokens.items ++ lexemes_of c.in-Ok.piece.kind (take c.in-Ok.piece.len c.loop-rest.rest.now) c.loop-rest.from = c.in_ok-push_token.ensures ∙ ap (λ bs. views c.loop-rest.tokens.items ++ lexemes_of c.in-Ok.piece.kind bs c.loop-rest.from) c.split_at.ensures.front in
    let fresh : c.is_fresh_after-is_fresh.result ≡ is_fresh_after c.loop-rest.is_fresh (get_or c.loop-rest.rest.now 0 0) = c.is_fresh_after-is_fresh.ensures ∙ ap (λ bs. is_fresh_after c.loop-rest.is_fresh (get_or bs 0 0)) c.as_bytes.ensures.value in
    rw (front, fresh, c.split_at.ensures.back) next

is_whole : (c : After-loop-rest) → lexed c.args.text.now ≡ Ok (views c.loop-rest.tokens.items)
is_whole c = at_end c.args.text.now _ _ _ _ (eqb-true _ 0 (sym c.loop-rest-test.ensures)) c.loop-rest.invariant

pub returns-clause-exact : goal.returns-clause-exact
returns-clause-exact c = is_whole (goal.at.returns-clause-exact c).After-loop-rest

pub returns-clause-slices : goal.returns-clause-slices
returns-clause-slices c = stand_from (length c.args.text.now) 0 true c.args.text.now c.args.text.now (views c.loop-rest.tokens.items) refl (omega arith) (is_whole (goal.at.returns-clause-slices c).After-loop-rest)

pub returns-clause-longest : goal.returns-clause-longest
returns-clause-longest c = tokens_from_longest (length c.args.text.now) 0 true c.args.text.now c.args.text.now (views c.loop-rest.tokens.items) refl (omega arith) (is_whole (goal.at.returns-clause-longest c).After-loop-rest)
