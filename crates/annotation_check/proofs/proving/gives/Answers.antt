use Rattle.std.proofs.Common.{subst, sym, ap, ◌∙◌, arith}
use Rattle.thr_base.specs.Held.{positions}
use Rattle.predicate_sets.specs.Sets.{set_at}
use Rattle.horn_rules.specs.Fact.{atoms_at}
use Rattle.annotation_form.specs.Passes.{CertificatesProve}
use Rattle.annotation_check.specs.inside.Cases.{told_by}
use Rattle.annotation_check.proofs.Lists.{iff-made}
use Rattle.annotation_check.proofs.proving.gives.Goals as goal

pub returns : goal.returns
returns c =
    let set = c.atoms.ensures.atoms ∙ c.deref.ensures ∙ c.in_ok-set.ensures.set ∙ ap (λ sets. set_at sets c.args.fact.home.0) c.sets.ensures in
    iff-made _ _ c.entails_each.result
    (λ all. record {
      at_home = omega arith;
      entailed = subst (λ atoms. CertificatesProve c.args.annotation.now (told_by c.args.stored.now) c.args.certificates.now (atoms_at atoms (positions c.args.fact.held))) set all;
    })
    (λ given. subst (λ atoms. CertificatesProve c.args.annotation.now (told_by c.args.stored.now) c.args.certificates.now (atoms_at atoms (positions c.args.fact.held))) (sym set) given.entailed)
    c.entails_each.ensures
