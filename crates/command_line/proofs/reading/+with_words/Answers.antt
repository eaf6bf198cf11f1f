use Rattle.std.proofs.Common.{rules, ◌≡◌, ◌∷◌, Some, None, map, string_bytes, option_map, subst, ap, ◌∙◌}
use Rattle.command_line.proofs.WordsGiven.{words_stop, words_go_on}
use Rattle.command_line.specs.Grammar.{arguments}
use Rattle.command_line.specs.Request as specs
use Rattle.command_line.specs.inside.Seen.{argument_of, given_of, FrontIs}
use Rattle.command_line.proofs.reading.+with_words.Goals as goal

pub returns-in_err-with : goal.returns-in_err-with
returns-in_err-with t c =
    let words : map string_bytes c.args.words.now ≡ c.as_str-2.result.now ∷ map string_bytes c.in-Some.rest.now = search rules in
    let stops : specs.with_argument (given_of c.args.given) (argument_of c.in_ok-argument.argument) ≡ None = search rules in
    let front = (subst (FrontIs c.as_str-2.result.now (map string_bytes c.in-Some.rest.now)) c.in_ok-argument.was c.first_argument.ensures).0 in
    ap (option_map given_of) c.from_residual-in_err-with.ensures ∙ words_stop (given_of c.args.given) (map string_bytes c.args.words.now) (argument_of c.in_ok-argument.argument) (arguments (map string_bytes c.in_ok-argument.behind.now))
    (ap arguments words ∙ front) stops

pub returns : goal.returns
returns t c =
    let words : map string_bytes c.args.words.now ≡ c.as_str-2.result.now ∷ map string_bytes c.in-Some.rest.now = search rules in
    let goes : specs.with_argument (given_of c.args.given) (argument_of c.in_ok-argument.argument) ≡ Some (given_of c.in_ok-with.field-0) = search rules in
    let front = (subst (FrontIs c.as_str-2.result.now (map string_bytes c.in-Some.rest.now)) c.in_ok-argument.was c.first_argument.ensures).0 in
    c.with_words.ensures ∙ words_go_on (given_of c.args.given) (given_of c.in_ok-with.field-0) (map string_bytes c.args.words.now) (argument_of c.in_ok-argument.argument) (arguments (map string_bytes c.in_ok-argument.behind.now))
    (ap arguments words ∙ front) goes
