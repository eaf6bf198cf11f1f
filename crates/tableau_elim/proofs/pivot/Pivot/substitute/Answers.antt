use Rattle.std.proofs.Common.{◌≡◌, ◌+◌, refl, pos, get_or, rules, subst, sym, Some, None, length, List}
use Rattle.std.specs.Prelude.{ℤ, slice_set, neg_ℤ, unsigned_abs, ◌*ℤ◌}
use Rattle.std.specs.Int.{int_signum}
use Rattle.std.specs.List.{AllByRecursion}
use Rattle.std.proofs.Math.ListN.{length-set}
use Rattle.thr_base.specs.Number.{Fits}
use Rattle.farkas_cert.specs.Divided.{divided_numbers}
use Rattle.farkas_cert.specs.Combination.{combined_numbers}
use Rattle.tableau_elim.proofs.Combinations.{made_by, combination_all_fit}
use Rattle.tableau_elim.proofs.Pivots.{substituted_made, substituted_none}
use Rattle.tableau_elim.proofs.pivot.Pivot.substitute.Goals as goal

pub divide-requires : goal.divide-requires
divide-requires c =
    let pivot = c.args.self.now in
    let numbers = c.args.numbers.now in
    let a : ℤ = pos (unsigned_abs pivot.number) in
    let b : ℤ = neg_ℤ (int_signum pivot.number) *ℤ get_or numbers (pivot.place + 1) (pos 0) in
    let rest = slice_set numbers (pivot.place + 1) (pos 0) in
    let long : length rest ≡ length pivot.moved.items = simp length-set (sym c.requires.known.size) in
    let made : combined_numbers a rest b pivot.moved.items ≡ Some c.combine.new.numbers = search rules in
    let is = made_by a rest b pivot.moved.items c.combine.new.numbers long made in
    subst (λ (xs : List ℤ). AllByRecursion Fits xs) (sym is.1) (combination_all_fit a rest b pivot.moved.items is.0)

pub returns : goal.returns
returns c = λ basic.
    let pivot = c.args.self.now in
    let numbers = c.args.numbers.now in
    let a : ℤ = pos (unsigned_abs pivot.number) in
    let b : ℤ = neg_ℤ (int_signum pivot.number) *ℤ get_or numbers (pivot.place + 1) (pos 0) in
    let rest = slice_set numbers (pivot.place + 1) (pos 0) in
    let made : combined_numbers a rest b pivot.moved.items ≡ Some c.combine.new.numbers = search rules in
    let is : c.divide.new.numbers ≡ divided_numbers c.combine.new.numbers = search rules in
    rw is (substituted_made _ basic numbers c.combine.new.numbers a b (sym c.requires.known.size) refl refl made)

pub returns-then-not-combine : goal.returns-then-not-combine
returns-then-not-combine c = λ basic.
    let pivot = c.args.self.now in
    let numbers = c.args.numbers.now in
    let a : ℤ = pos (unsigned_abs pivot.number) in
    let b : ℤ = neg_ℤ (int_signum pivot.number) *ℤ get_or numbers (pivot.place + 1) (pos 0) in
    let rest = slice_set numbers (pivot.place + 1) (pos 0) in
    let made : combined_numbers a rest b pivot.moved.items ≡ None = search rules in
    substituted_none _ basic numbers a b (sym c.requires.known.size) refl refl made
