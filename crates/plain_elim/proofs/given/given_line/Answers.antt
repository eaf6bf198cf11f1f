use Rattle.std.proofs.Common.{◌≡◌, ◌∙◌, sym, subst, ap, arith, List}
use Rattle.std.specs.Prelude.{ℤ, Bool, false}
use Rattle.std.specs.Option.{unwrap_or}
use Rattle.std.specs.List.{AllByRecursion}
use Rattle.thr_base.specs.Number.{Fits}
use Rattle.lin_rows.specs.System.{IsRowOver}
use Rattle.lin_rows.proofs.Lists.{AllByRecursion-slice_get, slice_get-there}
use Rattle.farkas_cert.specs.Line.{Line}
use Rattle.farkas_cert.proofs.NumberedRows.{equality-place}
use Rattle.plain_elim.proofs.GivenLines.{given_fit}
use Rattle.plain_elim.proofs.given.given_line.Goals as goal

-- a line by its parts
line_is : (made : Line) (equal equal' : Bool) (numbers numbers' : List ℤ) → made ≡ record { equal = equal; numbers = numbers } → equal ≡ equal' → numbers ≡ numbers'
    → made ≡ record { equal = equal'; numbers = numbers' }
line_is made equal equal' numbers numbers' is p q = cc

pub overflow_add-place : goal.overflow_add-place
overflow_add-place c = let few = c.requires.named.count in omega arith

pub of-requires : goal.of-requires
of-requires c =
    let rows = c.args.rows.now in
    let there = slice_get-there rows.rows c.args.place c.requires.within in
    let over = AllByRecursion-slice_get (IsRowOver rows.columns) rows.rows c.args.place there.0 c.requires.named.rows there.1 in
    subst (λ (xs : List ℤ). AllByRecursion Fits xs) (sym (c.in_ok-numbers.ensures there.0 there.1)) (given_fit _ c.args.place there.0 over.fits)

pub returns : goal.returns
returns c = λ row is.
    let equal = c.unwrap_or-equal.ensures ∙ ap (λ o. unwrap_or o false) c.equality_of.ensures ∙ equality-place c.args.rows.now.rows c.args.place row is in
    line_is c.of.result _ row.equal _ _ c.of.ensures equal (c.in_ok-numbers.ensures row is)
