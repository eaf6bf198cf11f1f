use Rattle.transition_formula.proofs.FormValues.{forms-made, sums-exact, multiples-exact, compositions-exact, values-exact}
use Rattle.transition_formula.proofs.FormProducts.{differences-exact, products-exact}
use Rattle.transition_formula.proofs.laws.forms_are_exact.Goals as goal

pub returns : goal.returns
returns c = record {
  made = forms-made;
  sums = sums-exact;
  differences = differences-exact;
  multiples = multiples-exact;
  products = products-exact;
  compositions = compositions-exact;
  values = values-exact;
}
