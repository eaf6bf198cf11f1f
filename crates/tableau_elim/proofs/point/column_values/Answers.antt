use Rattle.std.proofs.Common.{◌≡◌, ◌∙◌, ◌<◌, zero-add, sym, ap, map, Some, None, length, rules, arith, ◌∷◌, [], List, subst}
use Rattle.std.specs.List.{AllByRecursion, range_with_len}
use Rattle.std.proofs.lemmas.List.{map-append}
use Rattle.std.proofs.lemmas.List.FromFn.{length-range_with_len, get_or-range_with_len}
use Rattle.lin_rows.proofs.Lists.{AllByRecursion-append}
use Rattle.tableau_elim.specs.Rounds.{column_value}
use Rattle.tableau_elim.specs.declared.point.Value.{Value}
use Rattle.tableau_elim.specs.inside.Held.{tableau_of, fraction_in, IsValue}
use Rattle.tableau_elim.proofs.Every.{making_begins, making_goes_on, making_stops, making_ends}
use Rattle.tableau_elim.proofs.point.column_values.Goals as goal

pub columns-init : goal.columns-init
columns-init c = record {
  made = making_begins _ _ _ (ap (map fraction_in) c.in_ok-all.ensures.items);
  known = subst (λ (vs : List Value). AllByRecursion IsValue vs) (sym c.in_ok-all.ensures.items) tt;
}

pub columns-preserved : goal.columns-preserved
columns-preserved c =
    let f = column_value (tableau_of c.args.tableau.now) in
    let n = c.args.columns in
    let k = c.columns.column in
    let value = c.in-Some.value in
    let all = c.columns.all.items in
    let within : k < length (range_with_len 0 n) = omega (arith, length-range_with_len 0 n, c.columns-test.true) in
    let here = ap f (get_or-range_with_len 0 n k 0 c.columns-test.true) in
    let e : Some (fraction_in value) ≡ f k = search rules in
    let pushed = c.in_ok-push-in-Some.ensures.items in
    record {
      made = making_goes_on f (range_with_len 0 n) (map fraction_in all) _ k 0 (fraction_in value) within (here ∙ ap f (zero-add k) ∙ sym e)
          (ap (map fraction_in) pushed ∙ map-append fraction_in all (value ∷ [])) c.columns.invariant.made;
      known = subst (λ (vs : List Value). AllByRecursion IsValue vs) (sym pushed) (AllByRecursion-append IsValue all (value ∷ []) c.columns.invariant.known (c.in-Some.ensures.known, tt));
    }

pub returns-in-None-clause-values : goal.returns-in-None-clause-values
returns-in-None-clause-values c =
    let f = column_value (tableau_of c.args.tableau.now) in
    let n = c.args.columns in
    let k = c.columns.column in
    let within : k < length (range_with_len 0 n) = omega (arith, length-range_with_len 0 n, c.columns-test.true) in
    let here = ap f (get_or-range_with_len 0 n k 0 c.columns-test.true) in
    let e : None ≡ f k = search rules in
    sym (making_stops f (range_with_len 0 n) (map fraction_in c.columns.all.items) k 0 within (here ∙ ap f (zero-add k) ∙ sym e) c.columns.invariant.made)

pub returns-clause-values : goal.returns-clause-values
returns-clause-values c =
    let f = column_value (tableau_of c.args.tableau.now) in
    let n = c.args.columns in
    sym (making_ends f (range_with_len 0 n) (map fraction_in c.columns.all.items) c.columns.column (omega (arith, length-range_with_len 0 n, c.columns-test.false)) c.columns.invariant.made)

pub returns-clause-known : goal.returns-clause-known
returns-clause-known c = c.columns.invariant.known
