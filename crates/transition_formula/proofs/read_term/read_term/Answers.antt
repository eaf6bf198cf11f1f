use Rattle.std.proofs.Common.{◌≡◌, ◌∙◌, [], length, take, drop, ap, sym, arith}
use Rattle.lin_rows.proofs.Numbers.{read_back}
use Rattle.std.proofs.lemmas.Bool.{false≢true}
use Rattle.transition_formula.proofs.Words.{drop_none}
use Rattle.transition_formula.proofs.Terms.{parts-of_term}
use Rattle.transition_formula.proofs.read_term.read_term.Goals as goal

pub returns-then-is_same-clause-read : goal.returns-then-is_same-clause-read
returns-then-is_same-clause-read c k rest other fits text-is =
    let parts = parts-of_term c.args.text.now c.args.first k c.args.name.now rest _ _ _ _ _ _ _ other fits c.requires text-is c.behind-tail.ensures c.behind.ensures c.read_joint-negative.ensures.read c.until-length.ensures.marked c.read_factor-size.ensures.read in
    let value : c.with_sign.result ≡ k = c.with_sign.ensures.value k parts.sign (read_back c.read_factor-size.result.0 c.read_factor-size.ensures.fits ∙ parts.size_is) in
    (read_back c.with_sign.result c.with_sign.ensures.fits ∙ value, parts.end_is)

pub returns-then-is_same-clause-other : goal.returns-then-is_same-clause-other
returns-then-is_same-clause-other c k other rest some fits is differs text-is =
    let parts = parts-of_term c.args.text.now c.args.first k other rest _ _ _ _ _ _ _ some fits is text-is c.behind-tail.ensures c.behind.ensures c.read_joint-negative.ensures.read c.until-length.ensures.marked c.read_factor-size.ensures.read in
    absurd (differs (sym parts.name_is ∙ c.is_same.ensures.0 c.if-is_same.true))

pub returns-then-is_same-clause-end : goal.returns-then-is_same-clause-end
returns-then-is_same-clause-end c rest text-is =
    let start : c.read_joint-negative.result.1 ≡ 0 = c.read_joint-negative.ensures.end rest text-is in
    let tail : c.behind-tail.result.now ≡ c.args.text.now = rw start at c.behind-tail.ensures in
    let none : c.until-length.result ≡ 0 = c.until-length.ensures.marked [] _ tt (tail ∙ text-is) in
    let found : c.behind.result.now ≡ drop c.read_factor-size.result.1 (take 0 c.behind-tail.result.now) = rw none at c.behind.ensures in
    let name : c.args.name.now ≡ drop c.read_factor-size.result.1 [] = sym (c.is_same.ensures.0 c.if-is_same.true) ∙ found in
    absurd (omega (arith, c.requires.some, ap length name, drop_none c.read_factor-size.result.1))

pub returns-else-is_same-clause-read : goal.returns-else-is_same-clause-read
returns-else-is_same-clause-read c k rest other fits text-is =
    let parts = parts-of_term c.args.text.now c.args.first k c.args.name.now rest _ _ _ _ _ _ _ other fits c.requires text-is c.behind-tail.ensures c.behind.ensures c.read_joint-negative.ensures.read c.until-length.ensures.marked c.read_factor-size.ensures.read in
    absurd (false≢true (sym c.if-is_same.false ∙ c.is_same.ensures.1 parts.name_is))
