use Rattle.std.proofs.Common.{◌≡◌, length, true, refl, sym, ap, subst, ◌∙◌, arith, option_map}
use Rattle.std.proofs.lemmas.List.{length-map}
use Rattle.thr_base.specs.declared.names.Fact.{Fact}
use Rattle.thr_base.specs.declared.names.Instance.{Instance}
use Rattle.predicate_sets.proofs.Homes.{set_at-map}
use Rattle.predicate_sets.specs.Sets.{set_at}
use Rattle.fact_table.specs.declared.live_fact.LiveFact.{LiveFact}
use Rattle.core_steps.specs.Course.{Course, opening_of, state_of}
use Rattle.core_steps.specs.Withdrawn.{has_id}
use Rattle.core_steps.specs.inside.Kept.{seen}
use Rattle.core_steps.specs.inside.Premises.{IsPremiseOf}
use Rattle.core_steps.proofs.PremiseFacts.{live-there, known-there, known-home, premise-fits, some-none}
use Rattle.core_steps.proofs.stored_core.Core.premise.Goals as goal

pub unreachable-requires : goal.unreachable-requires
unreachable-requires c =
    let Has : Course → Type 0 = λ s. has_id (state_of s).live c.args.id.0 ≡ true in
    let o = opening_of (seen c.self.inside) in
    let (f, is) = live-there o.program o.limits.facts (state_of (seen c.self.inside)) c.self.inside.table c.args.id.0 c.self.invariant.holds.table (subst Has (sym c.self.view_is) c.requires) in
    let both : Fact × Instance = (f.fact, f.kept) in
    some-none both (sym (c.kept.ensures ∙ ap (option_map (λ (g : LiveFact). let one : Fact × Instance = (g.fact, g.kept) in one)) is) ∙ c.in_default.is)

pub overflow_sub-fact : goal.overflow_sub-fact
overflow_sub-fact c =
    let (f, is, same) = known-there c.self.inside.table.live c.args.id.0 c.in-Some.fact c.in-Some.field-0-1 (sym c.kept.ensures ∙ c.in-Some.is) in
    let has = known-home c.self.inside.table c.args.id.0 f c.facts-facts.ensures.table is in
    let e = ap (λ (x : Fact). x.home.0) same in
    omega (arith, has.0, e)

pub index-requires : goal.index-requires
index-requires c =
    let (f, is, same) = known-there c.self.inside.table.live c.args.id.0 c.in-Some.fact c.in-Some.field-0-1 (sym c.kept.ensures ∙ c.in-Some.is) in
    let has = known-home c.self.inside.table c.args.id.0 f c.facts-facts.ensures.table is in
    let e = ap (λ (x : Fact). x.home.0) same in
    let holds = c.self.invariant.holds in
    let shared = ap length holds.shared in
    let mapped = length-map c.self.inside.lists.items (λ list. list.value) in
    omega (arith, has.0, has.1, e, shared, mapped, holds.lists.one_each, holds.table.table_is.homes_are, c.self.inside.lists.ok.0)

pub returns : goal.returns
returns c =
    let (f, is, same) = known-there c.self.inside.table.live c.args.id.0 c.in-Some.fact c.in-Some.field-0-1 (sym c.kept.ensures ∙ c.in-Some.is) in
    let has = known-home c.self.inside.table c.args.id.0 f c.facts-facts.ensures.table is in
    let o = opening_of (seen c.self.inside) in
    let kept = c.self.invariant in
    let home = ap (λ (x : Fact). x.home.0) same in
    let one = kept.holds.lists.one_each in
    let homes = kept.holds.table.table_is.homes_are in
    let list = set_at-map (λ list. list.value) c.self.inside.lists.items c.self.inside.sets c.in-Some.fact.home.0 c.index.result.now kept.holds.shared
    (omega (arith, has.0, home), omega (arith, has.1, home, one, homes)) c.index.ensures in
    let Fits : Course → Type 0 = λ s. IsPremiseOf (opening_of s) (state_of s) c.args.id (record { id = c.args.id; fact = c.in-Some.fact; set = c.in_ok-set.set }) in
    subst Fits c.self.view_is
    (premise-fits o (seen c.self.inside).history c.self.inside.table c.self.inside.sets c.args.id f (record { id = c.args.id; fact = c.in-Some.fact; set = c.in_ok-set.set })
    kept.opening kept.legal kept.holds.table kept.holds.lists c.count-count.ensures.home_sets is refl (sym same)
    (c.in_ok-set.ensures ∙ sym list ∙ ap (λ n. set_at c.self.inside.sets n) (sym home)))
