-- What words give, one argument after the other.
use Rattle.std.proofs.Common.{◌≡◌, ℕ, ◌≤◌, ℤ, pos, List, ◌∷◌, Option, Some, None, IfNone, ap, subst, sym, ◌∙◌}
use Rattle.std.specs.Option.{option_and_then}
use Rattle.command_line.specs.Grammar.{Argument, arguments, command_named, in_front}
use Rattle.command_line.specs.Request.{AreOptions, Asks, Given, IsNumber, Options, Request, given_by, with_argument, with_arguments}
use Rattle.command_line.specs.declared.commands.Command.{Command}

-- an argument that gives again what was given
pub words_stop : (given : Given) (words : List (List ℕ)) (argument : Argument) (others : Option (List Argument))
    → arguments words ≡ in_front argument others → with_argument given argument ≡ None
    → None ≡ option_and_then (with_arguments given) (arguments words)
words_stop given words argument None is none = sym (ap (option_and_then (with_arguments given)) is)
words_stop given words argument (Some others) is none =
    sym (ap (option_and_then (with_arguments given)) is ∙ ap (option_and_then (λ more. with_arguments more others)) none)

-- an argument that gives something more
pub words_go_on : (given more : Given) (words : List (List ℕ)) (argument : Argument) (others : Option (List Argument))
    → arguments words ≡ in_front argument others → with_argument given argument ≡ Some more
    → option_and_then (with_arguments more) others ≡ option_and_then (with_arguments given) (arguments words)
words_go_on given more words argument None is some = sym (ap (option_and_then (with_arguments given)) is)
words_go_on given more words argument (Some others) is some =
    sym (ap (option_and_then (with_arguments given)) is ∙ ap (option_and_then (λ more. with_arguments more others)) some)

pub if_none : {X P : Type 0} (found : Option X) → P → IfNone found P
if_none None p = p
if_none (Some x) p = tt

-- Words ask for nothing where the options that they give are none of the command.
pub not_asked : (words others : List (List ℕ)) (first : List ℕ) (command : Command) (given : Given)
    → words ≡ first ∷ others → command_named first ≡ Some command → given_by others ≡ Some given
    → ((options : Options) → ¬ AreOptions command given options) → (request : Request) → ¬ Asks words request
not_asked words others first command given is named gives none request asks =
    let same : first ∷ others ≡ asks.first ∷ asks.others = sym is ∙ asks.words_are in
    let same_first : first ≡ asks.first = cc in
    let same_others : others ≡ asks.others = cc in
    let commands : Some asks.command ≡ Some command = sym asks.is_command ∙ ap command_named (sym same_first) ∙ named in
    let all_given : Some asks.given ≡ Some given = sym asks.others_give ∙ ap given_by (sym same_others) ∙ gives in
    let same_command : asks.command ≡ command = cc in
    let same_given : asks.given ≡ given = cc in
    none request.options (subst (λ g. AreOptions command g request.options) same_given
    (subst (λ c. AreOptions c asks.given request.options) same_command asks.options))

-- A text writes no number within limits where the number that it writes is not within them.
pub not_within : (found : Option ℕ) (number : ℤ) (least most : ℕ) (text : List ℕ)
    → IfNone found ((n : ℕ) → number ≡ pos n → least ≤ n → n ≤ most → ⊥) → ((n : ℕ) → IsNumber least most text n → number ≡ pos n)
    → IfNone found ((n : ℕ) → ¬ IsNumber least most text n)
not_within None number least most text none same = λ n is. none n (same n is) is.above is.below
not_within (Some m) number least most text none same = tt
