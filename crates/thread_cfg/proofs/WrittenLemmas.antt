-- Which part is written so.
use Rattle.std.proofs.Common.{◌≡◌, ℕ, List, Option, ap, ap₂, ◌∙◌}
use Rattle.c_check.specs.declared.meaning.Variable.{Variable}
use Rattle.c_check.specs.declared.test.Comparison.{Comparison}
use Rattle.c_check.specs.declared.instruction.Assignment.{Assignment}
use Rattle.c_check.specs.declared.instruction.Instruction.{Instruction}
use Rattle.c_check.specs.Plan.{Arithmetic, Stmts, code, postfix}
use Rattle.thread_cfg.specs.inside.Parts.{Part, Written, written}

-- a part that is written as an assignment of any integer is this one
pub is-AssignAny : (from : ℕ) (v : Variable) (next : ℕ) (p : Part) → Written.AssignAny from v next ≡ written p → Part.AssignAny from v next ≡ p
is-AssignAny from v next (Part.Assign from' at' v' e' next') h = absurd cc
is-AssignAny from v next (Part.AssignAny from' v' next') h = cc
is-AssignAny from v next (Part.Choice from' t' f') h = absurd cc
is-AssignAny from v next (Part.Compare from' m' a' b' t' f') h = absurd cc
is-AssignAny from v next (Part.Jump from' to') h = absurd cc
is-AssignAny from v next (Part.Lock from' lock' next') h = absurd cc
is-AssignAny from v next (Part.Unlock from' lock' next') h = absurd cc
is-AssignAny from v next (Part.Block from' inner' next') h = absurd cc

-- a part that is written as a choice is this one
pub is-Choice : (from t f : ℕ) (p : Part) → Written.Choice from t f ≡ written p → Part.Choice from t f ≡ p
is-Choice from t f (Part.Assign from' at' v' e' next') h = absurd cc
is-Choice from t f (Part.AssignAny from' v' next') h = absurd cc
is-Choice from t f (Part.Choice from' t' f') h = cc
is-Choice from t f (Part.Compare from' m' a' b' t' f') h = absurd cc
is-Choice from t f (Part.Jump from' to') h = absurd cc
is-Choice from t f (Part.Lock from' lock' next') h = absurd cc
is-Choice from t f (Part.Unlock from' lock' next') h = absurd cc
is-Choice from t f (Part.Block from' inner' next') h = absurd cc

-- a part that is written as a jump is this one
pub is-Jump : (from to : ℕ) (p : Part) → Written.Jump from to ≡ written p → Part.Jump from to ≡ p
is-Jump from to (Part.Assign from' at' v' e' next') h = absurd cc
is-Jump from to (Part.AssignAny from' v' next') h = absurd cc
is-Jump from to (Part.Choice from' t' f') h = absurd cc
is-Jump from to (Part.Compare from' m' a' b' t' f') h = absurd cc
is-Jump from to (Part.Jump from' to') h = cc
is-Jump from to (Part.Lock from' lock' next') h = absurd cc
is-Jump from to (Part.Unlock from' lock' next') h = absurd cc
is-Jump from to (Part.Block from' inner' next') h = absurd cc

-- a part that is written as a lock is this one
pub is-Lock : (from lock next : ℕ) (p : Part) → Written.Lock from lock next ≡ written p → Part.Lock from lock next ≡ p
is-Lock from lock next (Part.Assign from' at' v' e' next') h = absurd cc
is-Lock from lock next (Part.AssignAny from' v' next') h = absurd cc
is-Lock from lock next (Part.Choice from' t' f') h = absurd cc
is-Lock from lock next (Part.Compare from' m' a' b' t' f') h = absurd cc
is-Lock from lock next (Part.Jump from' to') h = absurd cc
is-Lock from lock next (Part.Lock from' lock' next') h = cc
is-Lock from lock next (Part.Unlock from' lock' next') h = absurd cc
is-Lock from lock next (Part.Block from' inner' next') h = absurd cc

-- a part that is written as an unlock is this one
pub is-Unlock : (from lock next : ℕ) (p : Part) → Written.Unlock from lock next ≡ written p → Part.Unlock from lock next ≡ p
is-Unlock from lock next (Part.Assign from' at' v' e' next') h = absurd cc
is-Unlock from lock next (Part.AssignAny from' v' next') h = absurd cc
is-Unlock from lock next (Part.Choice from' t' f') h = absurd cc
is-Unlock from lock next (Part.Compare from' m' a' b' t' f') h = absurd cc
is-Unlock from lock next (Part.Jump from' to') h = absurd cc
is-Unlock from lock next (Part.Lock from' lock' next') h = absurd cc
is-Unlock from lock next (Part.Unlock from' lock' next') h = cc
is-Unlock from lock next (Part.Block from' inner' next') h = absurd cc

-- a part that is written as an assignment is one of the expression that it has in postfix form
pub is-Assign : (a : Assignment) (next : ℕ) (p : Part) → Written.Assign a next ≡ written p → (e : Arithmetic) × (a.value ≡ postfix e) × (Part.Assign a.from a.at a.variable e next ≡ p)
is-Assign a next (Part.Assign from at v e next') h =
    let b : Assignment = record { from = from; at = at; variable = v; value = postfix e } in
    let same : a ≡ b = cc in let to : next ≡ next' = cc in
    (e, ap (λ x. x.value) same, ap₂ (λ x n. Part.Assign x.from x.at x.variable e n) same to)
is-Assign a next (Part.AssignAny from' v' next') h = absurd cc
is-Assign a next (Part.Choice from' t' f') h = absurd cc
is-Assign a next (Part.Compare from' m' a' b' t' f') h = absurd cc
is-Assign a next (Part.Jump from' to') h = absurd cc
is-Assign a next (Part.Lock from' lock' next') h = absurd cc
is-Assign a next (Part.Unlock from' lock' next') h = absurd cc
is-Assign a next (Part.Block from' inner' next') h = absurd cc

-- a part that is written as a comparison is one of the expressions that it has in postfix form
pub is-Compare : (c : Comparison) (t f : Option ℕ) (p : Part) → Written.Compare c t f ≡ written p
    → (a : Arithmetic) × (b : Arithmetic) × (c.left ≡ postfix a) × (c.right ≡ postfix b) × (Part.Compare c.from c.mark a b t f ≡ p)
is-Compare c t f (Part.Assign from' at' v' e' next') h = absurd cc
is-Compare c t f (Part.AssignAny from' v' next') h = absurd cc
is-Compare c t f (Part.Choice from' t' f') h = absurd cc
is-Compare c t f (Part.Compare from m a b t' f') h =
    let d : Comparison = record { from = from; mark = m; left = postfix a; right = postfix b } in
    let same : c ≡ d = cc in let on_true : t ≡ t' = cc in let on_false : f ≡ f' = cc in (
      a,
      b,
      ap (λ x. x.left) same,
      ap (λ x. x.right) same,
      ap₂ (λ x n. Part.Compare x.from x.mark a b n f) same on_true ∙ ap (λ n. Part.Compare from m a b t' n) on_false,
    )
is-Compare c t f (Part.Jump from' to') h = absurd cc
is-Compare c t f (Part.Lock from' lock' next') h = absurd cc
is-Compare c t f (Part.Unlock from' lock' next') h = absurd cc
is-Compare c t f (Part.Block from' inner' next') h = absurd cc

-- a part that is written as a block is one of the statements whose code it has
pub is-Block : (from : ℕ) (block : List Instruction) (next : ℕ) (p : Part) → Written.Block from block next ≡ written p → (inner : Stmts) × (block ≡ code inner) × (Part.Block from inner next ≡ p)
is-Block from block next (Part.Assign from' at' v' e' next') h = absurd cc
is-Block from block next (Part.AssignAny from' v' next') h = absurd cc
is-Block from block next (Part.Choice from' t' f') h = absurd cc
is-Block from block next (Part.Compare from' m' a' b' t' f') h = absurd cc
is-Block from block next (Part.Jump from' to') h = absurd cc
is-Block from block next (Part.Lock from' lock' next') h = absurd cc
is-Block from block next (Part.Unlock from' lock' next') h = absurd cc
is-Block from block next (Part.Block from' inner next') h = (inner, cc, cc)
