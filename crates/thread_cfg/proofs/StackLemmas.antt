-- The stack of forms, behind one operation after another.
use Rattle.std.proofs.Common.{◌≡◌, ℕ, negsuc, List, [], ◌∷◌, ◌++◌, map, reverse, Option, Some, None, refl, sym, ap, subst, ◌∙◌}
use Rattle.std.specs.Option.{option_and_then}
use Rattle.std.specs.List.{AllByRecursion}
use Rattle.std.proofs.lemmas.List.{reverse-append, map-append}
use Rattle.std.proofs.lemmas.Option.{option_and_then_some, same_Some}
use Rattle.c_check.specs.declared.operation.Operation.{Operation}
use Rattle.c_check.specs.declared.operation.Operation.TheVariants as operation
use Rattle.transition_formula.specs.declared.graph.Line.{Line}
use Rattle.transition_formula.specs.Program.{Form, IsFormOver}
use Rattle.transition_formula.specs.Forms.{column_form, constant_form, fitting_difference, fitting_form, fitting_multiple, fitting_product, fitting_sum}
use Rattle.transition_formula.specs.Stored.{form_of}
use Rattle.transition_formula.proofs.FormProducts.{column-over, differences-exact, fitting_constant-over, products-exact}
use Rattle.transition_formula.proofs.FormValues.{multiples-exact, sums-exact}
use Rattle.thread_cfg.specs.Source.{Frame, column_of}
use Rattle.thread_cfg.specs.inside.Machine.{computed, last_of, next_temporary, on_top, relabelled, replaced, stack_after, stack_behind, stack_of, with_last, with_last_two}

-- one more line
pub stack_of-append : (lines : List Line) (line : Line) → stack_of (lines ++ line ∷ []) ≡ form_of line ∷ stack_of lines
stack_of-append lines line = ap reverse (map-append form_of lines (line ∷ [])) ∙ reverse-append (map form_of lines) (form_of line ∷ [])

-- ---- the forms stay over their columns

-- one more form
on_top-over : (n : ℕ) (stack next : List Form) (made : Option Form) → on_top stack made ≡ Some next → ((form : Form) → made ≡ Some form → IsFormOver n form)
    → AllByRecursion (IsFormOver n) stack → AllByRecursion (IsFormOver n) next
on_top-over n stack next None e h all = absurd cc
on_top-over n stack next (Some form) e h all =
    let same : form ∷ stack ≡ next = cc in
    subst (λ l. AllByRecursion (IsFormOver n) l) same (h form refl, all)

-- what is made of the last one
with_last-over : (n : ℕ) (f : Form → Option Form) (stack next : List Form) → ((a form : Form) → f a ≡ Some form → IsFormOver n a → IsFormOver n form)
    → with_last f stack ≡ Some next → AllByRecursion (IsFormOver n) stack → AllByRecursion (IsFormOver n) next
with_last-over n f [] next h e all = absurd cc
with_last-over n f (a ∷ stack) next h e all = on_top-over n stack next (f a) e (λ form made. h a form made all.0) all.1

-- what is made of the last two
with_last_two-over : (n : ℕ) (f : Form → Form → Option Form) (stack next : List Form)
    → ((a b form : Form) → f a b ≡ Some form → IsFormOver n a → IsFormOver n b → IsFormOver n form)
    → with_last_two f stack ≡ Some next → AllByRecursion (IsFormOver n) stack → AllByRecursion (IsFormOver n) next
with_last_two-over n f [] next h e all = absurd cc
with_last_two-over n f (b ∷ []) next h e all = absurd cc
with_last_two-over n f (b ∷ (a ∷ stack)) next h e all = on_top-over n stack next (f a b) e (λ form made. h a b form made all.1.0 all.0) all.1.1

-- the stack behind an operation
pub stack_after-over : (n : ℕ) (frame : Frame) (stack next : List Form) (o : Operation) → stack_after n frame stack o ≡ Some next
    → AllByRecursion (IsFormOver n) stack → AllByRecursion (IsFormOver n) next
stack_after-over n frame stack next (operation.Number k) e all =
    on_top-over n stack next (fitting_form (constant_form n k)) e (λ form made. fitting_constant-over n k form made) all
stack_after-over n frame stack next (operation.Value v) e all =
    let column = column_form n (column_of frame v) in
    on_top-over n stack next (Some column) e (λ form made. subst (IsFormOver n) (same_Some column form made) (column-over n (column_of frame v))) all
stack_after-over n frame stack next operation.Negate e all =
    with_last-over n (fitting_multiple (negsuc 0)) stack next (λ a form made is. multiples-exact.over n (negsuc 0) a form made is) e all
stack_after-over n frame stack next operation.Add e all =
    with_last_two-over n fitting_sum stack next (λ a b form made is are. sums-exact.over n a b form made is are) e all
stack_after-over n frame stack next operation.Subtract e all =
    with_last_two-over n fitting_difference stack next (λ a b form made is are. differences-exact.over n a b form made is are) e all
stack_after-over n frame stack next operation.Multiply e all =
    with_last_two-over n fitting_product stack next (λ a b form made is are. products-exact.over n a b form made is are) e all

-- ---- one operation more

-- what holds of relabelled operations holds of the first one and of the rest
pub relabelled-next : (P : Operation → Type 0) (next : Option ℕ) (os rest : List Operation) (o : Operation) → os ≡ o ∷ rest
    → AllByRecursion P (relabelled next os) → P (replaced next o) × AllByRecursion P (relabelled (next_temporary next o) rest)
relabelled-next P next os rest o e all = rw e at all

-- behind the first operation the rest gives what all give
pub stack_behind-next : (n : ℕ) (frame : Frame) (next : Option ℕ) (os rest : List Operation) (o : Operation) (stack more : List Form) (whole : Option (List Form))
    → os ≡ o ∷ rest → Some more ≡ stack_after n frame stack (replaced next o) → stack_behind n frame (relabelled next os) stack ≡ whole
    → stack_behind n frame (relabelled (next_temporary next o) rest) more ≡ whole
stack_behind-next n frame next os rest o stack more whole e made all =
    ap (option_and_then (stack_behind n frame (relabelled (next_temporary next o) rest))) made
    ∙ sym (ap (λ l. stack_behind n frame (relabelled next l) stack) e) ∙ all

-- ---- behind all of them

-- operations leave forms over the width, where those in front were
pub stack_behind-over : (n : ℕ) (frame : Frame) (os : List Operation) (stack next : List Form) → stack_behind n frame os stack ≡ Some next
    → AllByRecursion (IsFormOver n) stack → AllByRecursion (IsFormOver n) next
stack_behind-over n frame [] stack next e all = subst (λ l. AllByRecursion (IsFormOver n) l) (same_Some stack next e) all
stack_behind-over n frame (o ∷ os) stack next e all =
    option_and_then_some (stack_behind n frame os) (stack_after n frame stack o) next e (λ more made rest.
    stack_behind-over n frame os more next rest (stack_after-over n frame stack more o made all))

-- the form that is computed
pub computed-over : (n : ℕ) (frame : Frame) (os : List Operation) (form : Form) → computed n frame os ≡ Some form → IsFormOver n form
computed-over n frame os form e =
    option_and_then_some last_of (stack_behind n frame os []) form e (λ stack made last.
    last_of-over stack last (stack_behind-over n frame os [] stack made tt))
  where
    last_of-over : (stack : List Form) → last_of stack ≡ Some form → AllByRecursion (IsFormOver n) stack → IsFormOver n form
    last_of-over [] last all = absurd cc
    last_of-over (found ∷ stack) last all = subst (IsFormOver n) (same_Some found form last) all.0
