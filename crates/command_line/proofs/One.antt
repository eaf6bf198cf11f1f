-- Words ask for one thing alone.
use Rattle.std.proofs.Common.{◌≡◌, ℕ, ◌^◌, ◌<◌, pos, List, ◌∷◌, get_or, Option, Some, None, refl, ap, subst, sym, ◌∙◌, arith}
use Rattle.thr_base.specs.Limits.{most_generated}
use Rattle.thr_base.specs.Number.{digits_number}
use Rattle.thr_base.specs.declared.limits.Limits.{Limits}
use Rattle.thr_base.specs.declared.names.RuleName.{RuleName}
use Rattle.thr_base.specs.declared.names.RuleName.TheVariants.{Rg, Og}
use Rattle.thr_base.proofs.Numbers.{IsTextOf-number_text}
use Rattle.command_line.specs.Grammar.{command_named}
use Rattle.command_line.specs.Request.{AreLimits, AreOptions, Asks, Given, IsNumber, IsRule, IsSetting, IsWork, verify, tables, tables_with, check, replay, generate, bench, help, Options, Request, Work, Generate, Bench, given_by, rule_text}
use Rattle.command_line.specs.declared.commands.Command.{Command}

one_number : (least most m n : ℕ) (text : List ℕ) → most < 2 ^ 32 → IsNumber least most text m → IsNumber least most text n → m ≡ n
one_number least most m n text small a b =
    sym (IsTextOf-number_text (pos m) (omega (arith, small, a.below))).number
    ∙ ap digits_number (sym a.text_is ∙ b.text_is) ∙ (IsTextOf-number_text (pos n) (omega (arith, small, b.below))).number

one_setting : (least most default m n : ℕ) (given : Option (List ℕ)) → most < 2 ^ 32 → IsSetting least most default given m → IsSetting least most default given n → m ≡ n
one_setting least most default m n None small a b = a ∙ sym b
one_setting least most default m n (Some text) small a b = one_number least most m n text small a b

rule_text-one : (one other : RuleName) → rule_text one ≡ rule_text other → one ≡ other
rule_text-one Rg Rg same = refl
rule_text-one Rg Og same = (let first : 114 ≡ 111 = ap (λ (text : List ℕ). get_or text 0 0) same in absurd (omega (arith, first)))
rule_text-one Og Rg same = (let first : 111 ≡ 114 = ap (λ (text : List ℕ). get_or text 0 0) same in absurd (omega (arith, first)))
rule_text-one Og Og same = refl

one_rule : (given : Option (List ℕ)) (one other : RuleName) → IsRule given one → IsRule given other → one ≡ other
one_rule None one other a b = a ∙ sym b
one_rule (Some text) one other a b = rule_text-one one other (sym a ∙ b)

one_limits : (given : Given) (one other : Limits) → AreLimits given one → AreLimits given other → one ≡ other
one_limits given one other a b =
    let facts = one_setting _ _ _ one.facts other.facts given.facts (omega arith) a.facts b.facts in
    let jobs = one_setting _ _ _ one.jobs other.jobs given.jobs (omega arith) a.jobs b.jobs in
    let refinements = one_setting _ _ _ one.refinements other.refinements given.refinements (omega arith) a.refinements b.refinements in
    let tree = one_setting _ _ _ one.tree other.tree given.tree (omega arith) a.tree b.tree in
    λ i. record { facts = facts i; jobs = jobs i; refinements = refinements i; tree = tree i }

one_options : (command : Command) (given : Given) (one other : Options) → AreOptions command given one → AreOptions command given other → one ≡ other
one_options command given one other a b =
    let serial = a.serial ∙ sym b.serial in
    let journal = a.journal ∙ sym b.journal in
    let rule = one_rule given.rule one.rule other.rule a.rule b.rule in
    let start = a.start ∙ sym b.start in
    let limits = one_limits given one.limits other.limits a.limits b.limits in
    λ i. record { serial = serial i; journal = journal i; rule = rule i; start = start i; limits = limits i }

one_work : {command : Command} {operands : List (List ℕ)} {one other : Work} → IsWork command operands one → IsWork command operands other → one ≡ other
one_work (verify program) (verify program') = refl
one_work (tables program) (tables program') = refl
one_work (tables_with program predicates) (tables_with program' predicates') = refl
one_work (check program annotation) (check program' annotation') = refl
one_work (replay program schedule) (replay program' schedule') = refl
one_work (generate text n is) (generate text' m is') = ap Generate (one_number 1 most_generated n m text (omega arith) is is')
one_work (bench text n is) (bench text' m is') = ap Bench (one_number 1 most_generated n m text (omega arith) is is')
one_work help help = refl

pub one_request : (words : List (List ℕ)) (one other : Request) → Asks words one → Asks words other → one ≡ other
one_request words one other a b =
    let same : a.first ∷ a.others ≡ b.first ∷ b.others = sym a.words_are ∙ b.words_are in
    let same_first : a.first ≡ b.first = cc in
    let same_others : a.others ≡ b.others = cc in
    let commands : Some a.command ≡ Some b.command = sym a.is_command ∙ ap command_named same_first ∙ b.is_command in
    let all_given : Some a.given ≡ Some b.given = sym a.others_give ∙ ap given_by same_others ∙ b.others_give in
    let same_command : a.command ≡ b.command = cc in
    let same_given : a.given ≡ b.given = cc in
    let work = one_work a.work (subst (λ (g : Given). IsWork a.command g.operands other.work) (sym same_given) (subst (λ (c : Command). IsWork c b.given.operands other.work) (sym same_command) b.work)) in
    let options = one_options a.command a.given one.options other.options a.options
    (subst (λ (g : Given). AreOptions a.command g other.options) (sym same_given) (subst (λ (c : Command). AreOptions c b.given other.options) (sym same_command) b.options)) in
    λ i. record { work = work i; options = options i }
