use Rattle.std.proofs.Common.{◌∙◌, sym, subst, ap, List}
use Rattle.std.specs.Prelude.{ℤ}
use Rattle.std.specs.List.{AllByRecursion}
use Rattle.thr_base.specs.Number.{Fits}
use Rattle.farkas_cert.specs.Divided.{divided_numbers}
use Rattle.farkas_cert.proofs.Combinations.{divided_fit}
use Rattle.plain_elim.proofs.Combinations.{written_back}
use Rattle.plain_elim.proofs.combination.divided_line.Goals as goal

pub of-requires : goal.of-requires
of-requires c =
    let is = c.divide.ensures ∙ ap divided_numbers c.as_mut_slice.ensures.value in
    written_back (λ xs. AllByRecursion Fits xs) c.divide.new.numbers c.args.numbers.items c.args.numbers.len (c.divide.auto.numbers ∙ c.as_mut_slice.ensures.len)
    (subst (λ (xs : List ℤ). AllByRecursion Fits xs) (sym is) (divided_fit c.args.numbers.items c.requires))
