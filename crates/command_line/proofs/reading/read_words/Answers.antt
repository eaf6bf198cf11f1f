use Rattle.std.proofs.Common.{rules, ◌≡◌, ◌∷◌, Some, map, string_bytes}
use Rattle.command_line.proofs.WordsGiven.{if_none, not_asked}
use Rattle.command_line.specs.Grammar.{command_named}
use Rattle.command_line.specs.Request as specs
use Rattle.command_line.specs.inside.Seen.{given_of}
use Rattle.command_line.proofs.reading.read_words.Goals as goal

pub returns-in_err-options-clause-refused : goal.returns-in_err-options-clause-refused
returns-in_err-options-clause-refused c =
    let words : map string_bytes c.args.words.now ≡ c.as_str.result.now ∷ map string_bytes c.in_ok-first.others.now = search rules in
    let named : command_named c.as_str.result.now ≡ Some c.in_ok-command.command = search rules in
    let gives : specs.given_by (map string_bytes c.in_ok-first.others.now) ≡ Some (given_of c.in_ok-given.given) = search rules in
    let none : (options : specs.Options) → ¬ (specs.AreOptions c.in_ok-command.command (given_of c.in_ok-given.given) options) = search rules in
    if_none c.from_residual-in_err-options.result
    (not_asked (map string_bytes c.args.words.now) (map string_bytes c.in_ok-first.others.now) c.as_str.result.now c.in_ok-command.command (given_of c.in_ok-given.given) words named gives none)
