-- The operations of an expression compute its form.
use Rattle.std.proofs.Common.{◌≡◌, ℕ, ◌+◌, negsuc, List, [], ◌∷◌, ◌++◌, length, Option, Some, None, refl, sym, ap, subst, ◌∙◌, add-zero, length-append}
use Rattle.std.specs.Option.{option_and_then}
use Rattle.std.specs.List.{AllByRecursion}
use Rattle.std.proofs.Math.Nat.{add_assoc}
use Rattle.std.proofs.lemmas.List.{append_assoc, append-nil}
use Rattle.lin_rows.proofs.Lists.{AllByRecursion-append}
use Rattle.c_check.specs.declared.meaning.Variable.TheVariants as variable
use Rattle.c_check.specs.declared.operation.Operation.{Operation}
use Rattle.c_check.specs.declared.operation.Operation.TheVariants as operation
use Rattle.c_check.specs.Plan.{Arithmetic, postfix}
use Rattle.c_check.specs.Items.{over_temporaries, shared_in}
use Rattle.transition_formula.specs.Program.{Form}
use Rattle.transition_formula.specs.Forms.{constant_form, fitting_difference, fitting_form, fitting_multiple, fitting_product, fitting_sum}
use Rattle.thread_cfg.specs.declared.event.Expression.{Expression}
use Rattle.thread_cfg.specs.declared.event.Expression.TheVariants as expression
use Rattle.thread_cfg.specs.Source.{Frame}
use Rattle.thread_cfg.specs.Edge.{form_of}
use Rattle.thread_cfg.specs.inside.Machine.{ExpressionWithin, OperationWithin, computed, last_of, on_top, operations_of, relabelled, stack_behind}
use Rattle.thread_cfg.specs.inside.Meant.{Means}
use Rattle.thread_cfg.specs.Within.{IsWithin}

-- ---- the machine

-- what goes on with a form that is put on top
goes_on : (k : List Form → Option (List Form)) (stack : List Form) (made : Option Form)
    → option_and_then k (on_top stack made) ≡ option_and_then (λ form. k (form ∷ stack)) made
goes_on k stack None = refl
goes_on k stack (Some form) = refl

-- with what is made of one form
goes_on-one : (f : Form → Option Form) (k : List Form → Option (List Form)) (stack : List Form) (a : Option Form)
    → option_and_then (λ one. option_and_then k (on_top stack (f one))) a ≡ option_and_then (λ form. k (form ∷ stack)) (option_and_then f a)
goes_on-one f k stack None = refl
goes_on-one f k stack (Some one) = goes_on k stack (f one)

-- with what is made of two
goes_on-two : (f : Form → Form → Option Form) (k : List Form → Option (List Form)) (stack : List Form) (a b : Option Form)
    → option_and_then (λ one. option_and_then (λ other. option_and_then k (on_top stack (f one other))) b) a
    ≡ option_and_then (λ form. k (form ∷ stack)) (option_and_then (λ one. option_and_then (f one) b) a)
goes_on-two f k stack None b = refl
goes_on-two f k stack (Some one) None = refl
goes_on-two f k stack (Some one) (Some other) = goes_on k stack (f one other)

-- what goes on in the same way
same_after : {A B : Type 0} (f g : A → Option B) (o : Option A) → ((x : A) → f x ≡ g x) → option_and_then f o ≡ option_and_then g o
same_after f g None same = refl
same_after f g (Some x) same = same x

-- Operations compute this form, whatever stands behind them and below.
abbrev Computes : ℕ → Frame → List Operation → Option Form → Type 0
Computes n frame os form =
    (rest : List Operation) (stack : List Form) → stack_behind n frame (os ++ rest) stack ≡ option_and_then (λ made. stack_behind n frame rest (made ∷ stack)) form

-- two operands, and the operation behind them
computes-two : (n : ℕ) (frame : Frame) (xs ys : List Operation) (o : Operation) (f : Form → Form → Option Form) (a b : Option Form)
    → Computes n frame xs a → Computes n frame ys b
    → ((rest : List Operation) (stack : List Form) (one other : Form)
    → stack_behind n frame (o ∷ rest) (other ∷ (one ∷ stack)) ≡ option_and_then (stack_behind n frame rest) (on_top stack (f one other)))
    → Computes n frame ((xs ++ ys) ++ o ∷ []) (option_and_then (λ one. option_and_then (f one) b) a)
computes-two n frame xs ys o f a b first second here rest stack =
    ap (λ os. stack_behind n frame os stack) (append_assoc (xs ++ ys) (o ∷ []) rest ∙ append_assoc xs ys (o ∷ rest))
    ∙ first (ys ++ o ∷ rest) stack
    ∙ same_after _ _ a (λ one. second (o ∷ rest) (one ∷ stack) ∙ same_after _ _ b (λ other. here rest stack one other))
    ∙ goes_on-two f (stack_behind n frame rest) stack a b

-- the operations of an expression compute its form
pub stack_behind-postfix : (n : ℕ) (frame : Frame) (a : Arithmetic) → Computes n frame (postfix a) (form_of n frame a)
stack_behind-postfix n frame (Arithmetic.Number k) rest stack = goes_on (stack_behind n frame rest) stack (fitting_form (constant_form n k))
stack_behind-postfix n frame (Arithmetic.Value v) rest stack = refl
stack_behind-postfix n frame (Arithmetic.Negated a) rest stack =
    ap (λ os. stack_behind n frame os stack) (append_assoc (postfix a) (operation.Negate ∷ []) rest)
    ∙ stack_behind-postfix n frame a (operation.Negate ∷ rest) stack
    ∙ goes_on-one (fitting_multiple (negsuc 0)) (stack_behind n frame rest) stack (form_of n frame a)
stack_behind-postfix n frame (Arithmetic.Sum a b) rest stack =
    computes-two n frame (postfix a) (postfix b) operation.Add fitting_sum (form_of n frame a) (form_of n frame b)
    (stack_behind-postfix n frame a) (stack_behind-postfix n frame b) (λ more below one other. refl) rest stack
stack_behind-postfix n frame (Arithmetic.Difference a b) rest stack =
    computes-two n frame (postfix a) (postfix b) operation.Subtract fitting_difference (form_of n frame a) (form_of n frame b)
    (stack_behind-postfix n frame a) (stack_behind-postfix n frame b) (λ more below one other. refl) rest stack
stack_behind-postfix n frame (Arithmetic.Product a b) rest stack =
    computes-two n frame (postfix a) (postfix b) operation.Multiply fitting_product (form_of n frame a) (form_of n frame b)
    (stack_behind-postfix n frame a) (stack_behind-postfix n frame b) (λ more below one other. refl) rest stack

-- what is computed of an expression's postfix form is its form
computed-postfix : (n : ℕ) (frame : Frame) (a : Arithmetic) → computed n frame (postfix a) ≡ form_of n frame a
computed-postfix n frame a =
    ap (λ os. option_and_then last_of (stack_behind n frame os [])) (sym (append-nil (postfix a)))
    ∙ ap (option_and_then last_of) (stack_behind-postfix n frame a [] []) ∙ alone (form_of n frame a)
  where
    alone : (form : Option Form) → option_and_then last_of (option_and_then (λ made. Some (made ∷ [])) form) ≡ form
    alone None = refl
    alone (Some form) = refl

-- ---- temporaries

-- operations without a temporary to begin with stay
relabelled-none : (os : List Operation) → relabelled None os ≡ os
relabelled-none [] = refl
relabelled-none (o ∷ os) = ap (λ l. o ∷ l) (relabelled-none os)

-- Operations become these, and so many temporaries are taken, whatever stands behind them.
abbrev Becomes : ℕ → List Operation → List Operation → ℕ → Type 0
Becomes next os made count = (rest : List Operation) → relabelled (Some next) (os ++ rest) ≡ made ++ relabelled (Some (next + count)) rest

-- two operands, and an operation behind them that reads nothing
becomes-two : (next : ℕ) (xs ys made more : List Operation) (o : Operation) (m n count : ℕ) → Becomes next xs made m → Becomes (next + m) ys more n → count ≡ m + n
    → ((k : ℕ) (rest : List Operation) → relabelled (Some k) (o ∷ rest) ≡ o ∷ relabelled (Some k) rest)
    → Becomes next ((xs ++ ys) ++ o ∷ []) ((made ++ more) ++ o ∷ []) count
becomes-two next xs ys made more o m n count first second size here rest =
    ap (relabelled (Some next)) (append_assoc (xs ++ ys) (o ∷ []) rest ∙ append_assoc xs ys (o ∷ rest))
    ∙ first (ys ++ o ∷ rest)
    ∙ ap (λ l. made ++ l) (second (o ∷ rest) ∙ ap (λ l. more ++ l) (here (next + m + n) rest))
    ∙ sym (append_assoc made more (o ∷ relabelled (Some (next + m + n)) rest))
    ∙ sym (append_assoc (made ++ more) (o ∷ []) (relabelled (Some (next + m + n)) rest))
    ∙ ap (λ k. ((made ++ more) ++ o ∷ []) ++ relabelled (Some k) rest) (add_assoc next m n ∙ ap (λ k. next + k) (sym size))

-- the operations of an expression become those of the one over temporaries
relabelled-postfix : (next : ℕ) (a : Arithmetic) → Becomes next (postfix a) (postfix (over_temporaries next a)) (length (shared_in a))
relabelled-postfix next (Arithmetic.Number k) rest = ap (λ n. operation.Number k ∷ relabelled (Some n) rest) (sym (add-zero next))
relabelled-postfix next (Arithmetic.Value (variable.Shared n)) rest = refl
relabelled-postfix next (Arithmetic.Value (variable.Own n)) rest = ap (λ k. operation.Value (variable.Own n) ∷ relabelled (Some k) rest) (sym (add-zero next))
relabelled-postfix next (Arithmetic.Negated a) rest =
    ap (relabelled (Some next)) (append_assoc (postfix a) (operation.Negate ∷ []) rest)
    ∙ relabelled-postfix next a (operation.Negate ∷ rest)
    ∙ sym (append_assoc (postfix (over_temporaries next a)) (operation.Negate ∷ []) (relabelled (Some (next + length (shared_in a))) rest))
relabelled-postfix next (Arithmetic.Sum a b) rest =
    becomes-two next (postfix a) (postfix b) _ _ operation.Add (length (shared_in a)) (length (shared_in b)) _
    (relabelled-postfix next a) (relabelled-postfix (next + length (shared_in a)) b) (length-append (shared_in a) (shared_in b)) (λ k more. refl) rest
relabelled-postfix next (Arithmetic.Difference a b) rest =
    becomes-two next (postfix a) (postfix b) _ _ operation.Subtract (length (shared_in a)) (length (shared_in b)) _
    (relabelled-postfix next a) (relabelled-postfix (next + length (shared_in a)) b) (length-append (shared_in a) (shared_in b)) (λ k more. refl) rest
relabelled-postfix next (Arithmetic.Product a b) rest =
    becomes-two next (postfix a) (postfix b) _ _ operation.Multiply (length (shared_in a)) (length (shared_in b)) _
    (relabelled-postfix next a) (relabelled-postfix (next + length (shared_in a)) b) (length-append (shared_in a) (shared_in b)) (λ k more. refl) rest

-- ---- expressions

-- the operations of an expression are those of what it means
operations-meant : (e : Expression) (a : Arithmetic) → Means e a → operations_of e ≡ postfix a
operations-meant (expression.Number k) a h = ap postfix (sym h)
operations-meant (expression.Value v) a h = ap postfix (sym h)
operations-meant (expression.Whole operations) a h = relabelled-none operations.now ∙ h
operations-meant (expression.Cut operations next) a (read, is, cut) =
    ap (relabelled (Some next)) (is ∙ sym (append-nil (postfix read))) ∙ relabelled-postfix next read [] ∙ append-nil (postfix (over_temporaries next read)) ∙ ap postfix (sym cut)

-- the form that they compute
pub computed-meant : (n : ℕ) (frame : Frame) (e : Expression) (a : Arithmetic) → Means e a → computed n frame (operations_of e) ≡ form_of n frame a
computed-meant n frame e a h = ap (computed n frame) (operations-meant e a h) ∙ computed-postfix n frame a

-- the columns that they read
within-postfix : (n : ℕ) (frame : Frame) (a : Arithmetic) → IsWithin n frame a → AllByRecursion (OperationWithin n frame) (postfix a)
within-postfix n frame (Arithmetic.Number k) h = (tt, tt)
within-postfix n frame (Arithmetic.Value v) h = (h, tt)
within-postfix n frame (Arithmetic.Negated a) h = AllByRecursion-append (OperationWithin n frame) (postfix a) (operation.Negate ∷ []) (within-postfix n frame a h) (tt, tt)
within-postfix n frame (Arithmetic.Sum a b) h =
    AllByRecursion-append (OperationWithin n frame) (postfix a ++ postfix b) (operation.Add ∷ [])
    (AllByRecursion-append (OperationWithin n frame) (postfix a) (postfix b) (within-postfix n frame a h.0) (within-postfix n frame b h.1)) (tt, tt)
within-postfix n frame (Arithmetic.Difference a b) h =
    AllByRecursion-append (OperationWithin n frame) (postfix a ++ postfix b) (operation.Subtract ∷ [])
    (AllByRecursion-append (OperationWithin n frame) (postfix a) (postfix b) (within-postfix n frame a h.0) (within-postfix n frame b h.1)) (tt, tt)
within-postfix n frame (Arithmetic.Product a b) h =
    AllByRecursion-append (OperationWithin n frame) (postfix a ++ postfix b) (operation.Multiply ∷ [])
    (AllByRecursion-append (OperationWithin n frame) (postfix a) (postfix b) (within-postfix n frame a h.0) (within-postfix n frame b h.1)) (tt, tt)

-- a stored expression is within n where the one that it means is
pub expression-within : (n : ℕ) (frame : Frame) (e : Expression) (a : Arithmetic) → Means e a → IsWithin n frame a → ExpressionWithin n frame e
expression-within n frame e a h within =
    subst (λ os. AllByRecursion (OperationWithin n frame) os) (sym (operations-meant e a h)) (within-postfix n frame a within)
