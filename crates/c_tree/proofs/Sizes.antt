-- The parts of statements take tokens, and give none back.
use Rattle.std.proofs.Common.{◌≡◌, ℕ, ◌≤◌, Bool, true, false, cond, List, [], ◌∷◌, length, drop, refl, ap, arith}
use Rattle.c_tree.specs.declared.term.Term.{Term}
use Rattle.c_tree.specs.declared.term.Term.TheVariants as terms
use Rattle.c_tree.specs.declared.simple.Lname.{Lname}
use Rattle.c_lex.specs.Tokens.{Lexeme}
use Rattle.c_tree.specs.Term.{same_term}
use Rattle.c_tree.specs.inside.Input.{Input, Parser, ◌>>=◌, pure, refuse, look, here, take_token, eat, peek, place, next, sees, after, expect, refusal}
use Rattle.c_tree.specs.inside.Expr as expr_spec
use Rattle.c_tree.specs.inside.Simple as spec
use Rattle.c_tree.proofs.Steps.{bind_ok, ok_parts, not_err}
use Rattle.c_tree.proofs.Shrinks.{Shrinks, NeverGrows, expect_shrinks, name_shrinks, expr_over_shrinks, unary_shrinks}

-- ---- steps

pub weaker : {A : Type 0} (p : Parser A) → Shrinks p → NeverGrows p
weaker p shrinks i x j e = (let lt = shrinks i x j e in omega arith)

pub pure_le : {A : Type 0} (x : A) → NeverGrows (pure x)
pure_le x i y j e = (let same = (ok_parts x y i j e).1 in omega (arith, ap (λ (k : Input). length k.tokens) same))

pub refuse_shrinks : {A : Type 0} → Shrinks (refuse {A = A})
refuse_shrinks i x j e = absurd (not_err (refusal i) x j e)

pub bind_le : {A B : Type 0} (p : Parser A) (f : A → Parser B) → NeverGrows p → ((x : A) → NeverGrows (f x)) → NeverGrows (p >>= f)
bind_le p f first second i y j e =
    let a = bind_ok (p i) f y j e in
    omega (arith, first _ _ _ a.2, second a.0 _ _ _ a.3)

-- a first step that takes a token
pub bind_first : {A B : Type 0} (p : Parser A) (f : A → Parser B) → Shrinks p → ((x : A) → NeverGrows (f x)) → Shrinks (p >>= f)
bind_first p f first second i y j e =
    let a = bind_ok (p i) f y j e in
    omega (arith, first _ _ _ a.2, second a.0 _ _ _ a.3)

-- a second step that does
pub bind_second : {A B : Type 0} (p : Parser A) (f : A → Parser B) → NeverGrows p → ((x : A) → Shrinks (f x)) → Shrinks (p >>= f)
bind_second p f first second i y j e =
    let a = bind_ok (p i) f y j e in
    omega (arith, first _ _ _ a.2, second a.0 _ _ _ a.3)

pub next_le : (i : Input) → length (next i).tokens ≤ length i.tokens
unfolding next
next_le i = go i.tokens
  where
    go : (ts : List Lexeme) → length (drop 1 ts) ≤ length ts
    go [] = omega arith
    go (t ∷ ts) = omega arith

pub take_le : NeverGrows take_token
take_le i x j e = (let same = (ok_parts (place i) x (next i) j e).1 in omega (arith, next_le i, ap (λ (k : Input). length k.tokens) same))

after_le : (k : Term) (i : Input) → length (after k i).tokens ≤ length i.tokens
unfolding after
after_le k i = go (sees k i)
  where
    go : (b : Bool) → length (cond b (next i) i).tokens ≤ length i.tokens
    go true = next_le i
    go false = omega arith

pub eat_le : (k : Term) → NeverGrows (eat k)
eat_le k i x j e = (let same = (ok_parts (sees k i) x (after k i) j e).1 in omega (arith, after_le k i, ap (λ (l : Input). length l.tokens) same))

pub look_le : NeverGrows look
look_le i x j e = (let same = (ok_parts (peek i) x i j e).1 in omega (arith, ap (λ (k : Input). length k.tokens) same))

pub here_le : NeverGrows here
here_le i x j e = (let same = (ok_parts (place i) x i j e).1 in omega (arith, ap (λ (k : Input). length k.tokens) same))

pub expect_takes : (k : Term) → same_term terms.End k ≡ false → Shrinks (expect k)
expect_takes k other = expect_shrinks k other

-- ---- expressions and what holds them

pub expr_shrinks : (levels : ℕ) → Shrinks (expr_spec.expr levels)
expr_shrinks levels = expr_over_shrinks (expr_spec.unary levels) (unary_shrinks levels)

pub nondet_shrinks : Shrinks spec.nondet
unfolding spec.nondet same_term
nondet_shrinks = bind_first (expect terms.Nondet) _ (expect_takes terms.Nondet refl) (λ from. bind_le _ _ (bind_le _ _ (weaker _ (expect_takes terms.LeftParen refl)) (λ o. weaker _ (expect_takes terms.RightParen refl))) (λ c. pure_le _))

right_by_shrinks : (levels : ℕ) (k : Term) → Shrinks (spec.right_by levels k)
right_by_shrinks levels terms.Nondet = bind_first _ _ nondet_shrinks (λ n. pure_le _)
right_by_shrinks levels _ = bind_first _ _ (expr_shrinks levels) (λ e. pure_le _)

pub right_shrinks : (levels : ℕ) → Shrinks (spec.right levels)
unfolding spec.right
right_shrinks levels = bind_second look _ look_le (right_by_shrinks levels)

start_if_le : (levels : ℕ) (b : Bool) → NeverGrows (spec.start_if levels b)
start_if_le levels true = bind_le _ _ (weaker _ (right_shrinks levels)) (λ e. pure_le _)
start_if_le levels false = pure_le _

pub lname_shrinks : (levels : ℕ) → Shrinks (spec.lname levels)
unfolding spec.lname
lname_shrinks levels = bind_first expr_spec.name _ name_shrinks (λ x. bind_le (eat terms.Assign) _ (eat_le terms.Assign) (λ b. bind_le _ _ (start_if_le levels b) (λ s. pure_le {A = Lname} (record { name = x; start = s }))))
