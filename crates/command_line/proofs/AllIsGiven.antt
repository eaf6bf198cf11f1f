-- What stands among arguments is given, and all of it.
use Rattle.std.proofs.Common.{◌≡◌, ℕ, ◌+◌, ◌≤◌, Bool, true, false, List, [], ◌∷◌, ◌++◌, length, Option, Some, None, option_map, refl, ap, sym, ◌∙◌, length-append, arith}
use Rattle.std.specs.Option.{option_and_then}
use Rattle.std.proofs.lemmas.List.{append-nil}
use Rattle.command_line.specs.Grammar.{Argument, arguments}
use Rattle.command_line.specs.Request.{Given, first, given_by, nothing, one_more, raised_flag, with_arguments, with_part}
use Rattle.command_line.specs.Once.{IsGivenBy, SayGiven, texts_of, times, values_of}
use Rattle.command_line.specs.declared.arguments.Part.{Part}
use Rattle.command_line.specs.declared.arguments.Part.TheVariants.{Operand, Flag as AFlag, Setting as ASetting}
use Rattle.command_line.specs.declared.commands.Flag.TheVariants.{Serial, Journal}
use Rattle.command_line.specs.declared.commands.Setting.TheVariants.{Rule, Start, Facts, Jobs, Refinements, Tree}
use Rattle.command_line.proofs.StandsOnce.{IsGivenBehind}
use Rattle.command_line.proofs.WordsSaid.{said-arguments}

-- ---- nothing more is given

times-one : (given before : Bool) → times given ≡ times before + 0 → before ≡ given
times-one true true is = refl
times-one true false is = absurd (omega (arith, is))
times-one false true is = absurd (omega (arith, is))
times-one false false is = refl

values_of-one : (given before : Option (List ℕ)) → values_of given ≡ values_of before → before ≡ given
values_of-one (Some x) (Some y) is = (let e : y ≡ x = cc in ap Some e)
values_of-one (Some x) None is = cc
values_of-one None (Some y) is = cc
values_of-one None None is = refl

times-few : (given : Bool) → times given ≤ 1
times-few true = omega arith
times-few false = omega arith

-- a setting has one value
values_of-few : (given : Option (List ℕ)) (x v : List ℕ) (more : List (List ℕ)) → values_of given ≡ x ∷ v ∷ more → ⊥
values_of-few None x v more is = cc
values_of-few (Some y) x v more is = cc

-- ---- one argument

abbrev with_one : Part → List ℕ → List Argument → List Argument
with_one part text arguments = record { part = part; text = text } ∷ arguments

-- what an argument gives that stands in front of others
record GivesInFront (before given : Given) (part : Part) (text : List ℕ) (arguments : List Argument) : Type 0 where
  more : Given
  with_it : with_part before part text ≡ Some more
  others : IsGivenBehind more arguments given

operand_in_front : (before given : Given) (text : List ℕ) (arguments : List Argument) → length given.operands ≤ 2 → IsGivenBehind before (with_one Operand text arguments) given
    → GivesInFront before given Operand text arguments
operand_in_front before given text arguments few h = by before.operands refl
  where
    by : (operands : List (List ℕ)) → before.operands ≡ operands → GivesInFront before given Operand text arguments
    by [] is = record {
      more = record before { operands = text ∷ [] };
      with_it = ap (λ (xs : List (List ℕ)). option_map (λ (operands : List (List ℕ)). record before { operands = operands }) (one_more xs text)) is;
      others = record { operands = h.operands ∙ ap (λ (xs : List (List ℕ)). xs ++ text ∷ texts_of Operand arguments) is; few = λ h. few; serial = h.serial; journal = h.journal; rule = h.rule; start = h.start; facts = h.facts; jobs = h.jobs; refinements = h.refinements; tree = h.tree };
    }
    by (a ∷ []) is = record {
      more = record before { operands = a ∷ text ∷ [] };
      with_it = ap (λ (xs : List (List ℕ)). option_map (λ (operands : List (List ℕ)). record before { operands = operands }) (one_more xs text)) is;
      others = record { operands = h.operands ∙ ap (λ (xs : List (List ℕ)). xs ++ text ∷ texts_of Operand arguments) is; few = λ h. few; serial = h.serial; journal = h.journal; rule = h.rule; start = h.start; facts = h.facts; jobs = h.jobs; refinements = h.refinements; tree = h.tree };
    }
    by (a ∷ b ∷ more) is =
        (let front : length given.operands ≡ length (before.operands ++ text ∷ texts_of Operand arguments) = ap (λ (xs : List (List ℕ)). length xs) h.operands in
        let long : length before.operands ≡ length (a ∷ b ∷ more) = ap (λ (xs : List (List ℕ)). length xs) is in
        let both = length-append before.operands (text ∷ texts_of Operand arguments) in
        absurd (omega (arith, few, front, long, both)))

serial_in_front : (before given : Given) (text : List ℕ) (arguments : List Argument) → IsGivenBehind before (with_one (AFlag Serial) text arguments) given → GivesInFront before given (AFlag Serial) text arguments
serial_in_front before given text arguments h = by before.serial refl
  where
    by : (up : Bool) → before.serial ≡ up → GivesInFront before given (AFlag Serial) text arguments
    by true is = (let e : times before.serial ≡ 1 = ap times is in absurd (omega (arith, e, h.serial, times-few given.serial)))
    by false is = record {
      more = record before { serial = true };
      with_it = ap (λ (up : Bool). option_map (λ (up : Bool). record before { serial = up }) (raised_flag up)) is;
      others = (let e : times before.serial ≡ 0 = ap times is in record { operands = h.operands; few = h.few; serial = omega (arith, e, h.serial); journal = h.journal; rule = h.rule; start = h.start; facts = h.facts; jobs = h.jobs; refinements = h.refinements; tree = h.tree });
    }

journal_in_front : (before given : Given) (text : List ℕ) (arguments : List Argument) → IsGivenBehind before (with_one (AFlag Journal) text arguments) given → GivesInFront before given (AFlag Journal) text arguments
journal_in_front before given text arguments h = by before.journal refl
  where
    by : (up : Bool) → before.journal ≡ up → GivesInFront before given (AFlag Journal) text arguments
    by true is = (let e : times before.journal ≡ 1 = ap times is in absurd (omega (arith, e, h.journal, times-few given.journal)))
    by false is = record {
      more = record before { journal = true };
      with_it = ap (λ (up : Bool). option_map (λ (up : Bool). record before { journal = up }) (raised_flag up)) is;
      others = (let e : times before.journal ≡ 0 = ap times is in record { operands = h.operands; few = h.few; serial = h.serial; journal = omega (arith, e, h.journal); rule = h.rule; start = h.start; facts = h.facts; jobs = h.jobs; refinements = h.refinements; tree = h.tree });
    }

rule_in_front : (before given : Given) (value : List ℕ) (arguments : List Argument) → IsGivenBehind before (with_one (ASetting Rule) value arguments) given → GivesInFront before given (ASetting Rule) value arguments
rule_in_front before given value arguments h = by before.rule refl
  where
    by : (text : Option (List ℕ)) → before.rule ≡ text → GivesInFront before given (ASetting Rule) value arguments
    by None is = record {
      more = record before { rule = Some value };
      with_it = ap (λ (text : Option (List ℕ)). option_map (λ (text : List ℕ). record before { rule = Some text }) (first text value)) is;
      others = record { operands = h.operands; few = h.few; serial = h.serial; journal = h.journal; rule = h.rule ∙ ap (λ (text : Option (List ℕ)). values_of text ++ value ∷ texts_of (ASetting Rule) arguments) is; start = h.start; facts = h.facts; jobs = h.jobs; refinements = h.refinements; tree = h.tree };
    }
    by (Some x) is = absurd (values_of-few given.rule x value (texts_of (ASetting Rule) arguments) (h.rule ∙ ap (λ (text : Option (List ℕ)). values_of text ++ value ∷ texts_of (ASetting Rule) arguments) is))

start_in_front : (before given : Given) (value : List ℕ) (arguments : List Argument) → IsGivenBehind before (with_one (ASetting Start) value arguments) given → GivesInFront before given (ASetting Start) value arguments
start_in_front before given value arguments h = by before.start refl
  where
    by : (text : Option (List ℕ)) → before.start ≡ text → GivesInFront before given (ASetting Start) value arguments
    by None is = record {
      more = record before { start = Some value };
      with_it = ap (λ (text : Option (List ℕ)). option_map (λ (text : List ℕ). record before { start = Some text }) (first text value)) is;
      others = record { operands = h.operands; few = h.few; serial = h.serial; journal = h.journal; rule = h.rule; start = h.start ∙ ap (λ (text : Option (List ℕ)). values_of text ++ value ∷ texts_of (ASetting Start) arguments) is; facts = h.facts; jobs = h.jobs; refinements = h.refinements; tree = h.tree };
    }
    by (Some x) is = absurd (values_of-few given.start x value (texts_of (ASetting Start) arguments) (h.start ∙ ap (λ (text : Option (List ℕ)). values_of text ++ value ∷ texts_of (ASetting Start) arguments) is))

facts_in_front : (before given : Given) (value : List ℕ) (arguments : List Argument) → IsGivenBehind before (with_one (ASetting Facts) value arguments) given → GivesInFront before given (ASetting Facts) value arguments
facts_in_front before given value arguments h = by before.facts refl
  where
    by : (text : Option (List ℕ)) → before.facts ≡ text → GivesInFront before given (ASetting Facts) value arguments
    by None is = record {
      more = record before { facts = Some value };
      with_it = ap (λ (text : Option (List ℕ)). option_map (λ (text : List ℕ). record before { facts = Some text }) (first text value)) is;
      others = record { operands = h.operands; few = h.few; serial = h.serial; journal = h.journal; rule = h.rule; start = h.start; facts = h.facts ∙ ap (λ (text : Option (List ℕ)). values_of text ++ value ∷ texts_of (ASetting Facts) arguments) is; jobs = h.jobs; refinements = h.refinements; tree = h.tree };
    }
    by (Some x) is = absurd (values_of-few given.facts x value (texts_of (ASetting Facts) arguments) (h.facts ∙ ap (λ (text : Option (List ℕ)). values_of text ++ value ∷ texts_of (ASetting Facts) arguments) is))

jobs_in_front : (before given : Given) (value : List ℕ) (arguments : List Argument) → IsGivenBehind before (with_one (ASetting Jobs) value arguments) given → GivesInFront before given (ASetting Jobs) value arguments
jobs_in_front before given value arguments h = by before.jobs refl
  where
    by : (text : Option (List ℕ)) → before.jobs ≡ text → GivesInFront before given (ASetting Jobs) value arguments
    by None is = record {
      more = record before { jobs = Some value };
      with_it = ap (λ (text : Option (List ℕ)). option_map (λ (text : List ℕ). record before { jobs = Some text }) (first text value)) is;
      others = record { operands = h.operands; few = h.few; serial = h.serial; journal = h.journal; rule = h.rule; start = h.start; facts = h.facts; jobs = h.jobs ∙ ap (λ (text : Option (List ℕ)). values_of text ++ value ∷ texts_of (ASetting Jobs) arguments) is; refinements = h.refinements; tree = h.tree };
    }
    by (Some x) is = absurd (values_of-few given.jobs x value (texts_of (ASetting Jobs) arguments) (h.jobs ∙ ap (λ (text : Option (List ℕ)). values_of text ++ value ∷ texts_of (ASetting Jobs) arguments) is))

refinements_in_front : (before given : Given) (value : List ℕ) (arguments : List Argument) → IsGivenBehind before (with_one (ASetting Refinements) value arguments) given → GivesInFront before given (ASetting Refinements) value arguments
refinements_in_front before given value arguments h = by before.refinements refl
  where
    by : (text : Option (List ℕ)) → before.refinements ≡ text → GivesInFront before given (ASetting Refinements) value arguments
    by None is = record {
      more = record before { refinements = Some value };
      with_it = ap (λ (text : Option (List ℕ)). option_map (λ (text : List ℕ). record before { refinements = Some text }) (first text value)) is;
      others = record { operands = h.operands; few = h.few; serial = h.serial; journal = h.journal; rule = h.rule; start = h.start; facts = h.facts; jobs = h.jobs; refinements = h.refinements ∙ ap (λ (text : Option (List ℕ)). values_of text ++ value ∷ texts_of (ASetting Refinements) arguments) is; tree = h.tree };
    }
    by (Some x) is = absurd (values_of-few given.refinements x value (texts_of (ASetting Refinements) arguments) (h.refinements ∙ ap (λ (text : Option (List ℕ)). values_of text ++ value ∷ texts_of (ASetting Refinements) arguments) is))

tree_in_front : (before given : Given) (value : List ℕ) (arguments : List Argument) → IsGivenBehind before (with_one (ASetting Tree) value arguments) given → GivesInFront before given (ASetting Tree) value arguments
tree_in_front before given value arguments h = by before.tree refl
  where
    by : (text : Option (List ℕ)) → before.tree ≡ text → GivesInFront before given (ASetting Tree) value arguments
    by None is = record {
      more = record before { tree = Some value };
      with_it = ap (λ (text : Option (List ℕ)). option_map (λ (text : List ℕ). record before { tree = Some text }) (first text value)) is;
      others = record { operands = h.operands; few = h.few; serial = h.serial; journal = h.journal; rule = h.rule; start = h.start; facts = h.facts; jobs = h.jobs; refinements = h.refinements; tree = h.tree ∙ ap (λ (text : Option (List ℕ)). values_of text ++ value ∷ texts_of (ASetting Tree) arguments) is };
    }
    by (Some x) is = absurd (values_of-few given.tree x value (texts_of (ASetting Tree) arguments) (h.tree ∙ ap (λ (text : Option (List ℕ)). values_of text ++ value ∷ texts_of (ASetting Tree) arguments) is))

in_front_of : (before given : Given) (part : Part) (text : List ℕ) (arguments : List Argument) → length given.operands ≤ 2 → IsGivenBehind before (with_one part text arguments) given
    → GivesInFront before given part text arguments
in_front_of before given Operand text arguments few h = operand_in_front before given text arguments few h
in_front_of before given (AFlag Serial) text arguments few h = serial_in_front before given text arguments h
in_front_of before given (AFlag Journal) text arguments few h = journal_in_front before given text arguments h
in_front_of before given (ASetting Rule) text arguments few h = rule_in_front before given text arguments h
in_front_of before given (ASetting Start) text arguments few h = start_in_front before given text arguments h
in_front_of before given (ASetting Facts) text arguments few h = facts_in_front before given text arguments h
in_front_of before given (ASetting Jobs) text arguments few h = jobs_in_front before given text arguments h
in_front_of before given (ASetting Refinements) text arguments few h = refinements_in_front before given text arguments h
in_front_of before given (ASetting Tree) text arguments few h = tree_in_front before given text arguments h

-- ---- all arguments

nothing_more : (before given : Given) → IsGivenBehind before [] given → before ≡ given
nothing_more before given h =
    let operands : before.operands ≡ given.operands = sym (h.operands ∙ append-nil before.operands) in
    let serial = times-one given.serial before.serial h.serial in
    let journal = times-one given.journal before.journal h.journal in
    let rule = values_of-one given.rule before.rule (h.rule ∙ append-nil (values_of before.rule)) in
    let start = values_of-one given.start before.start (h.start ∙ append-nil (values_of before.start)) in
    let facts = values_of-one given.facts before.facts (h.facts ∙ append-nil (values_of before.facts)) in
    let jobs = values_of-one given.jobs before.jobs (h.jobs ∙ append-nil (values_of before.jobs)) in
    let refinements = values_of-one given.refinements before.refinements (h.refinements ∙ append-nil (values_of before.refinements)) in
    let tree = values_of-one given.tree before.tree (h.tree ∙ append-nil (values_of before.tree)) in
    λ i. record { operands = operands i; serial = serial i; journal = journal i; rule = rule i; start = start i; facts = facts i; jobs = jobs i; refinements = refinements i; tree = tree i }

with_arguments-of : (before : Given) (arguments : List Argument) (given : Given) → length given.operands ≤ 2 → IsGivenBehind before arguments given → with_arguments before arguments ≡ Some given
with_arguments-of before [] given few h = ap Some (nothing_more before given h)
with_arguments-of before (argument ∷ arguments) given few h =
    (let front = in_front_of before given argument.part argument.text arguments few h in
    ap (option_and_then (λ more. with_arguments more arguments)) front.with_it ∙ with_arguments-of front.more arguments given few front.others)

behind_nothing : (arguments : List Argument) (given : Given) → IsGivenBy arguments given → IsGivenBehind nothing arguments given
behind_nothing arguments given h = record {
  operands = h.operands;
  few = λ few. h.few;
  serial = omega (arith, h.serial);
  journal = omega (arith, h.journal);
  rule = h.rule;
  start = h.start;
  facts = h.facts;
  jobs = h.jobs;
  refinements = h.refinements;
  tree = h.tree;
}

-- words give what stands among them
pub said-given_by : (words : List (List ℕ)) (given : Given) → SayGiven words given → given_by words ≡ Some given
said-given_by words given said =
    ap (option_and_then (with_arguments nothing)) (said-arguments words said.arguments said.said)
    ∙ with_arguments-of nothing said.arguments given said.gives.few (behind_nothing said.arguments given said.gives)
