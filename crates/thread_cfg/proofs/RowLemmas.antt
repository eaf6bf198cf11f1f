-- The rows that are given are over their columns and inputs, and fit.
use Rattle.std.proofs.Common.{◌≡◌, ℕ, negsuc, pos, neg_ℤ, Bool, true, false, List, Some, subst}
use Rattle.std.specs.Option.{option_and_then}
use Rattle.std.specs.List.{AllByRecursion}
use Rattle.std.proofs.lemmas.Option.{option_and_then_some}
use Rattle.thr_base.specs.Number.{fits}
use Rattle.lin_rows.specs.Row.{Row}
use Rattle.lin_rows.specs.System.{IsRowOver}
use Rattle.lin_rows.proofs.Booleans.{given_where_true}
use Rattle.lin_rows.proofs.Numbers.{fits-true}
use Rattle.transition_formula.specs.Program.{Form, IsFormOver}
use Rattle.transition_formula.specs.Forms.{fitting_composition, fitting_difference}
use Rattle.transition_formula.proofs.FormValues.{compositions-exact}
use Rattle.thread_cfg.specs.declared.event.Expression.{Expression}
use Rattle.thread_cfg.specs.declared.relation.Relation.{Relation}
use Rattle.thread_cfg.specs.declared.relation.Relation.TheVariants as related
use Rattle.thread_cfg.specs.Source.{Frame}
use Rattle.thread_cfg.specs.Edge.{at_most, moved, raised, row_by}
use Rattle.thread_cfg.specs.inside.Machine.{computed, operations_of}
use Rattle.thread_cfg.specs.inside.Seen.{form_seen, row_seen}
use Rattle.thread_cfg.proofs.Relations.{row_by-over}
use Rattle.thread_cfg.proofs.StackLemmas.{computed-over}

-- an expression, worth what it is behind events
pub form_seen-over : (width columns : ℕ) (frame : Frame) (forms : List Form) (e : Expression) (form : Form) → form_seen width columns frame forms e ≡ Some form
    → AllByRecursion (IsFormOver width) forms → IsFormOver width form
form_seen-over width columns frame forms e form given all =
    option_and_then_some (λ f. fitting_composition width f forms) (computed columns frame (operations_of e)) form given (λ f made rest.
    compositions-exact.over width f form forms (computed-over columns frame (operations_of e) f made).constant_fits all rest)

-- the row that is asked there
pub row_seen-over : (width columns : ℕ) (frame : Frame) (forms : List Form) (r : Relation) (left right : Expression) (row : Row)
    → row_seen width columns frame forms r left right ≡ Some row → AllByRecursion (IsFormOver width) forms → IsRowOver width row
row_seen-over width columns frame forms r left right row given all =
    option_and_then_some (λ one. option_and_then (row_by width r one) (form_seen width columns frame forms right)) (form_seen width columns frame forms left) row given (λ one one_is rest.
    option_and_then_some (row_by width r one) (form_seen width columns frame forms right) row rest (λ other other_is last.
    row_by-over width r one other row last (form_seen-over width columns frame forms left one one_is all) (form_seen-over width columns frame forms right other other_is all)))
