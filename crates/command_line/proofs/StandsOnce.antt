-- What arguments give, whatever their order.
use Rattle.std.proofs.Common.{◌≡◌, ℕ, ◌+◌, ◌≤◌, Bool, true, false, List, [], ◌∷◌, ◌++◌, length, Option, Some, None, option_map, refl, ap, subst, sym, ◌∙◌, append_assoc, length-append, arith}
use Rattle.std.specs.Prelude.{if◌then◌else◌}
use Rattle.std.specs.Option.{option_and_then}
use Rattle.std.proofs.lemmas.List.{append-nil}
use Rattle.command_line.specs.Grammar.{Argument, arguments}
use Rattle.command_line.specs.Request.{Given, first, given_by, one_more, nothing, raised_flag, with_argument, with_arguments, with_flag, with_operand, with_part, with_setting}
use Rattle.command_line.specs.Once.{IsGivenBy, SayGiven, same_part, texts_of, times, values_of}
use Rattle.command_line.specs.declared.arguments.Part.{Part}
use Rattle.command_line.specs.declared.arguments.Part.TheVariants.{Operand, Flag as AFlag, Setting as ASetting}
use Rattle.command_line.specs.declared.commands.Flag.{Flag}
use Rattle.command_line.specs.declared.commands.Flag.TheVariants.{Serial, Journal}
use Rattle.command_line.specs.declared.commands.Setting.{Setting}
use Rattle.command_line.specs.declared.commands.Setting.TheVariants.{Rule, Start, Facts, Jobs, Refinements, Tree}
use Rattle.command_line.proofs.WordsSay.{arguments-said}

-- what arguments give behind others that gave this
pub record IsGivenBehind (before : Given) (arguments : List Argument) (given : Given) : Type 0 where
  pub operands : given.operands ≡ before.operands ++ texts_of Operand arguments
  pub few : length before.operands ≤ 2 → length given.operands ≤ 2
  pub serial : times given.serial ≡ times before.serial + length (texts_of (AFlag Serial) arguments)
  pub journal : times given.journal ≡ times before.journal + length (texts_of (AFlag Journal) arguments)
  pub rule : values_of given.rule ≡ values_of before.rule ++ texts_of (ASetting Rule) arguments
  pub start : values_of given.start ≡ values_of before.start ++ texts_of (ASetting Start) arguments
  pub facts : values_of given.facts ≡ values_of before.facts ++ texts_of (ASetting Facts) arguments
  pub jobs : values_of given.jobs ≡ values_of before.jobs ++ texts_of (ASetting Jobs) arguments
  pub refinements : values_of given.refinements ≡ values_of before.refinements ++ texts_of (ASetting Refinements) arguments
  pub tree : values_of given.tree ≡ values_of before.tree ++ texts_of (ASetting Tree) arguments

map_is : {X Y : Type 0} (f : X → Y) (o : Option X) (y : Y) → option_map f o ≡ Some y → (x : X) × (o ≡ Some x) × (f x ≡ y)
map_is f None y is = cc
map_is f (Some x) y is = (x, refl, cc)

same : {X : Type 0} (xs : List X) → xs ≡ xs ++ []
same xs = sym (append-nil xs)

unchanged : (given : Given) → IsGivenBehind given [] given
unchanged given = record {
  operands = same given.operands;
  few = λ h. h;
  serial = omega arith;
  journal = omega arith;
  rule = same (values_of given.rule);
  start = same (values_of given.start);
  facts = same (values_of given.facts);
  jobs = same (values_of given.jobs);
  refinements = same (values_of given.refinements);
  tree = same (values_of given.tree);
}

-- ---- one argument

one_more-is : (xs ys : List (List ℕ)) (text : List ℕ) → one_more xs text ≡ Some ys → (ys ≡ xs ++ text ∷ []) × (length ys ≤ 2)
one_more-is [] ys text is = (let e : text ∷ [] ≡ ys = cc in (sym e, (let P : List (List ℕ) → Type 0 = λ l. length l ≤ 2 in subst P e (omega arith))))
one_more-is (a ∷ []) ys text is = (let e : a ∷ text ∷ [] ≡ ys = cc in (sym e, (let P : List (List ℕ) → Type 0 = λ l. length l ≤ 2 in subst P e (omega arith))))
one_more-is (a ∷ b ∷ more) ys text is = cc

raised_flag-is : (b up : Bool) → raised_flag b ≡ Some up → times up ≡ times b + 1
raised_flag-is false up is = (let e : true ≡ up = cc in subst (λ (u : Bool). times u ≡ 1) e refl)
raised_flag-is true up is = cc

first-is : (before : Option (List ℕ)) (value text : List ℕ) → first before value ≡ Some text → values_of (Some text) ≡ values_of before ++ value ∷ []
first-is None value text is = (let e : text ≡ value = cc in ap (λ (v : List ℕ). v ∷ []) e)
first-is (Some x) value text is = cc

abbrev one : Part → List ℕ → List Argument
one part text = record { part = part; text = text } ∷ []

operand_gives : (before given : Given) (text : List ℕ) → with_operand before text ≡ Some given → IsGivenBehind before (one Operand text) given
operand_gives before given text is =
    let parts = map_is (λ (operands : List (List ℕ)). record before { operands = operands }) (one_more before.operands text) given is in
    let more = one_more-is before.operands parts.0 text parts.1 in
    let h = unchanged before in
    let P : Given → Type 0 = λ g. IsGivenBehind before (one Operand text) g in
    subst P parts.2
    (record { operands = more.0; few = λ few. more.1; serial = h.serial; journal = h.journal; rule = h.rule; start = h.start; facts = h.facts; jobs = h.jobs; refinements = h.refinements; tree = h.tree })

flag_gives : (before given : Given) (f : Flag) (text : List ℕ) → with_flag before f ≡ Some given → IsGivenBehind before (one (AFlag f) text) given
flag_gives before given Serial text is =
    (let parts = map_is (λ (up : Bool). record before { serial = up }) (raised_flag before.serial) given is in
    let h = unchanged before in
    let P : Given → Type 0 = λ g. IsGivenBehind before (one (AFlag Serial) text) g in
    subst P parts.2
    (record { operands = h.operands; few = h.few; serial = raised_flag-is before.serial parts.0 parts.1; journal = h.journal; rule = h.rule; start = h.start; facts = h.facts; jobs = h.jobs; refinements = h.refinements; tree = h.tree }))
flag_gives before given Journal text is =
    (let parts = map_is (λ (up : Bool). record before { journal = up }) (raised_flag before.journal) given is in
    let h = unchanged before in
    let P : Given → Type 0 = λ g. IsGivenBehind before (one (AFlag Journal) text) g in
    subst P parts.2
    (record { operands = h.operands; few = h.few; serial = h.serial; journal = raised_flag-is before.journal parts.0 parts.1; rule = h.rule; start = h.start; facts = h.facts; jobs = h.jobs; refinements = h.refinements; tree = h.tree }))

setting_gives : (before given : Given) (s : Setting) (value : List ℕ) → with_setting before s value ≡ Some given → IsGivenBehind before (one (ASetting s) value) given
setting_gives before given Rule value is =
    (let parts = map_is (λ (text : List ℕ). record before { rule = Some text }) (first before.rule value) given is in
    let h = unchanged before in
    let P : Given → Type 0 = λ g. IsGivenBehind before (one (ASetting Rule) value) g in
    subst P parts.2 (record { operands = h.operands; few = h.few; serial = h.serial; journal = h.journal; rule = first-is before.rule value parts.0 parts.1; start = h.start; facts = h.facts; jobs = h.jobs; refinements = h.refinements; tree = h.tree }))
setting_gives before given Start value is =
    (let parts = map_is (λ (text : List ℕ). record before { start = Some text }) (first before.start value) given is in
    let h = unchanged before in
    let P : Given → Type 0 = λ g. IsGivenBehind before (one (ASetting Start) value) g in
    subst P parts.2 (record { operands = h.operands; few = h.few; serial = h.serial; journal = h.journal; rule = h.rule; start = first-is before.start value parts.0 parts.1; facts = h.facts; jobs = h.jobs; refinements = h.refinements; tree = h.tree }))
setting_gives before given Facts value is =
    (let parts = map_is (λ (text : List ℕ). record before { facts = Some text }) (first before.facts value) given is in
    let h = unchanged before in
    let P : Given → Type 0 = λ g. IsGivenBehind before (one (ASetting Facts) value) g in
    subst P parts.2 (record { operands = h.operands; few = h.few; serial = h.serial; journal = h.journal; rule = h.rule; start = h.start; facts = first-is before.facts value parts.0 parts.1; jobs = h.jobs; refinements = h.refinements; tree = h.tree }))
setting_gives before given Jobs value is =
    (let parts = map_is (λ (text : List ℕ). record before { jobs = Some text }) (first before.jobs value) given is in
    let h = unchanged before in
    let P : Given → Type 0 = λ g. IsGivenBehind before (one (ASetting Jobs) value) g in
    subst P parts.2 (record { operands = h.operands; few = h.few; serial = h.serial; journal = h.journal; rule = h.rule; start = h.start; facts = h.facts; jobs = first-is before.jobs value parts.0 parts.1; refinements = h.refinements; tree = h.tree }))
setting_gives before given Refinements value is =
    (let parts = map_is (λ (text : List ℕ). record before { refinements = Some text }) (first before.refinements value) given is in
    let h = unchanged before in
    let P : Given → Type 0 = λ g. IsGivenBehind before (one (ASetting Refinements) value) g in
    subst P parts.2 (record { operands = h.operands; few = h.few; serial = h.serial; journal = h.journal; rule = h.rule; start = h.start; facts = h.facts; jobs = h.jobs; refinements = first-is before.refinements value parts.0 parts.1; tree = h.tree }))
setting_gives before given Tree value is =
    (let parts = map_is (λ (text : List ℕ). record before { tree = Some text }) (first before.tree value) given is in
    let h = unchanged before in
    let P : Given → Type 0 = λ g. IsGivenBehind before (one (ASetting Tree) value) g in
    subst P parts.2 (record { operands = h.operands; few = h.few; serial = h.serial; journal = h.journal; rule = h.rule; start = h.start; facts = h.facts; jobs = h.jobs; refinements = h.refinements; tree = first-is before.tree value parts.0 parts.1 }))

part_gives : (before given : Given) (p : Part) (text : List ℕ) → with_part before p text ≡ Some given → IsGivenBehind before (one p text) given
part_gives before given Operand text is = operand_gives before given text is
part_gives before given (AFlag f) text is = flag_gives before given f text is
part_gives before given (ASetting s) text is = setting_gives before given s text is

-- ---- one argument behind another

texts_of-cons : (p : Part) (argument : Argument) (arguments : List Argument) → texts_of p (argument ∷ arguments) ≡ texts_of p (argument ∷ []) ++ texts_of p arguments
texts_of-cons p argument arguments = by (same_part p argument.part)
  where
    by : (is_same : Bool) → (if is_same then argument.text ∷ texts_of p arguments else texts_of p arguments) ≡ (if is_same then argument.text ∷ [] else []) ++ texts_of p arguments
    by true = refl
    by false = refl

values_behind : (p : Part) (argument : Argument) (arguments : List Argument) (before more given : List (List ℕ)) → more ≡ before ++ texts_of p (argument ∷ [])
    → given ≡ more ++ texts_of p arguments → given ≡ before ++ texts_of p (argument ∷ arguments)
values_behind p argument arguments before more given one others =
    others ∙ ap (λ (xs : List (List ℕ)). xs ++ texts_of p arguments) one ∙ append_assoc before (texts_of p (argument ∷ [])) (texts_of p arguments)
    ∙ ap (λ (xs : List (List ℕ)). before ++ xs) (sym (texts_of-cons p argument arguments))

times_behind : (p : Part) (argument : Argument) (arguments : List Argument) (before more given : ℕ) → more ≡ before + length (texts_of p (argument ∷ []))
    → given ≡ more + length (texts_of p arguments) → given ≡ before + length (texts_of p (argument ∷ arguments))
times_behind p argument arguments before more given one others =
    let whole : length (texts_of p (argument ∷ arguments)) ≡ length (texts_of p (argument ∷ []) ++ texts_of p arguments) = ap (λ (xs : List (List ℕ)). length xs) (texts_of-cons p argument arguments) in
    let both = length-append (texts_of p (argument ∷ [])) (texts_of p arguments) in
    omega (arith, one, others, whole, both)

behind : (argument : Argument) (arguments : List Argument) (before more given : Given) → IsGivenBehind before (argument ∷ []) more → IsGivenBehind more arguments given
    → IsGivenBehind before (argument ∷ arguments) given
behind argument arguments before more given one others = record {
  operands = values_behind Operand argument arguments before.operands more.operands given.operands one.operands others.operands;
  few = λ h. others.few (one.few h);
  serial = times_behind (AFlag Serial) argument arguments (times before.serial) (times more.serial) (times given.serial) one.serial others.serial;
  journal = times_behind (AFlag Journal) argument arguments (times before.journal) (times more.journal) (times given.journal) one.journal others.journal;
  rule = values_behind (ASetting Rule) argument arguments (values_of before.rule) (values_of more.rule) (values_of given.rule) one.rule others.rule;
  start = values_behind (ASetting Start) argument arguments (values_of before.start) (values_of more.start) (values_of given.start) one.start others.start;
  facts = values_behind (ASetting Facts) argument arguments (values_of before.facts) (values_of more.facts) (values_of given.facts) one.facts others.facts;
  jobs = values_behind (ASetting Jobs) argument arguments (values_of before.jobs) (values_of more.jobs) (values_of given.jobs) one.jobs others.jobs;
  refinements = values_behind (ASetting Refinements) argument arguments (values_of before.refinements) (values_of more.refinements) (values_of given.refinements) one.refinements others.refinements;
  tree = values_behind (ASetting Tree) argument arguments (values_of before.tree) (values_of more.tree) (values_of given.tree) one.tree others.tree;
}

-- ---- all arguments

with_arguments-gives : (before : Given) (arguments : List Argument) (given : Given) → with_arguments before arguments ≡ Some given → IsGivenBehind before arguments given
with_arguments-gives before [] given is = (let e : before ≡ given = cc in let P : Given → Type 0 = λ g. IsGivenBehind before [] g in subst P e (unchanged before))
with_arguments-gives before (argument ∷ arguments) given is = by (with_argument before argument) refl is (λ more e. with_arguments-gives more arguments given e)
  where
    by : (more : Option Given) → with_argument before argument ≡ more → option_and_then (λ more. with_arguments more arguments) more ≡ Some given
        → ((more : Given) → with_arguments more arguments ≡ Some given → IsGivenBehind more arguments given) → IsGivenBehind before (argument ∷ arguments) given
    by None one is others = cc
    by (Some more) one is others = behind argument arguments before more given (part_gives before more argument.part argument.text one) (others more is)

gives_at_all : (arguments : List Argument) (given : Given) → IsGivenBehind nothing arguments given → IsGivenBy arguments given
gives_at_all arguments given h = record {
  operands = h.operands;
  few = h.few (omega arith);
  serial = omega (arith, h.serial);
  journal = omega (arith, h.journal);
  rule = h.rule;
  start = h.start;
  facts = h.facts;
  jobs = h.jobs;
  refinements = h.refinements;
  tree = h.tree;
}

-- what words give stands among them, each option once
pub given_by-said : (words : List (List ℕ)) (given : Given) → given_by words ≡ Some given → SayGiven words given
given_by-said words given is = by (arguments words) refl is
  where
    by : (found : Option (List Argument)) → arguments words ≡ found → option_and_then (with_arguments nothing) found ≡ Some given → SayGiven words given
    by None found is = cc
    by (Some all) found is = record { arguments = all; said = arguments-said words all found; gives = gives_at_all all given (with_arguments-gives nothing all given is) }
