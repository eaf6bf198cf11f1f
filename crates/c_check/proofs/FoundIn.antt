-- What a walk over an expression answers of a mark and its operands.
use Rattle.std.proofs.Common.{◌≡◌, ℕ, None, false, ◌+◌, ◌-◌, ◌<◌, ◌≤◌, ◌&&◌, ◌||◌, List, [], ◌++◌, map, length, get_or, Option, refl, sym, ap, ◌∙◌, arith}
use Rattle.thr_base.specs.declared.stops.Refusal.{Refusal}
use Rattle.thr_base.specs.Refusals.{not_linear}
use Rattle.c_tree.specs.declared.expr.UnaryKind.{UnaryKind}
use Rattle.c_tree.specs.declared.expr.EqualityMark.{EqualityMark}
use Rattle.c_tree.specs.declared.expr.EqualityKind.{EqualityKind}
use Rattle.c_tree.specs.declared.expr.EqualityKind.TheVariants as equalities
use Rattle.c_tree.specs.declared.expr.RelationMark.{RelationMark}
use Rattle.c_tree.specs.declared.expr.RelationKind.{RelationKind}
use Rattle.c_tree.specs.declared.expr.RelationKind.TheVariants as relations
use Rattle.c_tree.specs.declared.expr.SumMark.{SumMark}
use Rattle.c_tree.specs.declared.expr.SumKind.{SumKind}
use Rattle.c_tree.specs.declared.expr.SumKind.TheVariants as sums
use Rattle.c_tree.specs.Plain as plain
use Rattle.c_tree.specs.Seen.{and_mark, equality_mark, equality_operator, left_to_right, or_mark, product_mark, relation_mark, relation_operator, sum_mark, sum_operator}
use Rattle.c_check.specs.declared.uses.Found.{Found}
use Rattle.c_check.specs.declared.uses.Use.{Use}
use Rattle.c_check.specs.declared.uses.Use.TheVariants as use_as
use Rattle.c_check.specs.Scope.{Scopes}
use Rattle.c_check.specs.Broken.{broken_if, expr_broken, has_name, no_number, sign_broken, sign_use}
use Rattle.c_check.specs.First.{earlier, first_of}
use Rattle.c_check.specs.inside.Used.{beside, found_in, use_before}
use Rattle.c_check.proofs.FirstOf.{earlier-earlier, first_of-append}
use Rattle.c_check.proofs.Front.{front, front-end, front-next}

-- ---- a mark between two operands

pub first_of-three : (a b c : List Refusal) → first_of (a ++ b ++ c) ≡ earlier (first_of a) (earlier (first_of b) (first_of c))
first_of-three a b c =
    first_of-append (a ++ b) c ∙ ap (λ o. earlier o (first_of c)) (first_of-append a b) ∙ sym (earlier-earlier (first_of a) (first_of b) (first_of c))

-- the operands being used so, and this being broken by the mark
abbrev pub between : Scopes → Use → List Refusal → plain.Expr → plain.Expr → Found
between ss operand broken left right = beside (found_in ss operand left) (first_of broken) (found_in ss operand right)

-- the whole being used so
abbrev IsBetween : Scopes → Use → plain.Expr → Use → List Refusal → plain.Expr → plain.Expr → Type 0
IsBetween ss used whole operand broken left right = found_in ss used whole ≡ between ss operand broken left right

is_between : (ss : Scopes) (used : Use) (whole : plain.Expr) (operand : Use) (broken : List Refusal) (left right : plain.Expr) →
    expr_broken ss used whole ≡ expr_broken ss operand left ++ broken ++ expr_broken ss operand right → has_name whole ≡ has_name left || has_name right →
    IsBetween ss used whole operand broken left right
is_between ss used whole operand broken left right all names =
    let first : first_of (expr_broken ss used whole) ≡ earlier (first_of (expr_broken ss operand left)) (earlier (first_of broken) (first_of (expr_broken ss operand right))) =
    ap first_of all ∙ first_of-three (expr_broken ss operand left) broken (expr_broken ss operand right) in
    cc

pub found_in-or : (ss : Scopes) (used : Use) (from : ℕ) (left right : plain.Expr) → IsBetween ss used (or_mark from left right) use_as.Condition (no_number used from) left right
found_in-or ss used from left right = is_between ss used (or_mark from left right) use_as.Condition (no_number used from) left right refl refl

pub found_in-and : (ss : Scopes) (used : Use) (from : ℕ) (left right : plain.Expr) → IsBetween ss used (and_mark from left right) use_as.Condition (no_number used from) left right
found_in-and ss used from left right = is_between ss used (and_mark from left right) use_as.Condition (no_number used from) left right refl refl

found_in-equality_operator : (ss : Scopes) (used : Use) (from : ℕ) (k : EqualityKind) (left right : plain.Expr) →
    IsBetween ss used (plain.Expr.Binary (equality_operator k) from left right) use_as.Number (no_number used from) left right
found_in-equality_operator ss used from equalities.Equal left right = is_between ss used (plain.Expr.Binary plain.Operator.Equal from left right) use_as.Number (no_number used from) left right refl refl
found_in-equality_operator ss used from equalities.Unequal left right = is_between ss used (plain.Expr.Binary plain.Operator.Unequal from left right) use_as.Number (no_number used from) left right refl refl

pub found_in-equality : (ss : Scopes) (used : Use) (m : EqualityMark) (left right : plain.Expr) → IsBetween ss used (equality_mark m left right) use_as.Number (no_number used m.from) left right
found_in-equality ss used m left right = found_in-equality_operator ss used m.from m.kind left right

found_in-relation_operator : (ss : Scopes) (used : Use) (from : ℕ) (k : RelationKind) (left right : plain.Expr) →
    IsBetween ss used (plain.Expr.Binary (relation_operator k) from left right) use_as.Number (no_number used from) left right
found_in-relation_operator ss used from relations.Less left right = is_between ss used (plain.Expr.Binary plain.Operator.Less from left right) use_as.Number (no_number used from) left right refl refl
found_in-relation_operator ss used from relations.AtMost left right = is_between ss used (plain.Expr.Binary plain.Operator.AtMost from left right) use_as.Number (no_number used from) left right refl refl
found_in-relation_operator ss used from relations.Greater left right = is_between ss used (plain.Expr.Binary plain.Operator.Greater from left right) use_as.Number (no_number used from) left right refl refl
found_in-relation_operator ss used from relations.AtLeast left right = is_between ss used (plain.Expr.Binary plain.Operator.AtLeast from left right) use_as.Number (no_number used from) left right refl refl

pub found_in-relation : (ss : Scopes) (used : Use) (m : RelationMark) (left right : plain.Expr) → IsBetween ss used (relation_mark m left right) use_as.Number (no_number used m.from) left right
found_in-relation ss used m left right = found_in-relation_operator ss used m.from m.kind left right

found_in-sum_operator : (ss : Scopes) (used : Use) (from : ℕ) (k : SumKind) (left right : plain.Expr) →
    IsBetween ss used (plain.Expr.Binary (sum_operator k) from left right) use_as.Number [] left right
found_in-sum_operator ss used from sums.Plus left right = is_between ss used (plain.Expr.Binary plain.Operator.Plus from left right) use_as.Number [] left right refl refl
found_in-sum_operator ss used from sums.Minus left right = is_between ss used (plain.Expr.Binary plain.Operator.Minus from left right) use_as.Number [] left right refl refl

pub found_in-sum : (ss : Scopes) (used : Use) (m : SumMark) (left right : plain.Expr) → IsBetween ss used (sum_mark m left right) use_as.Number [] left right
found_in-sum ss used m left right = found_in-sum_operator ss used m.from m.kind left right

pub found_in-product : (ss : Scopes) (used : Use) (from : ℕ) (left right : plain.Expr) →
    IsBetween ss used (product_mark from left right) use_as.Number (broken_if (has_name left && has_name right) not_linear from) left right
found_in-product ss used from left right =
    is_between ss used (product_mark from left right) use_as.Number (broken_if (has_name left && has_name right) not_linear from) left right refl refl

-- ---- a sign in front of an operand

abbrev pub nothing : Found
nothing = record { refusal = None; has_name = false }

pub found_in-prefixed : (ss : Scopes) (used : Use) (from : ℕ) (kind : UnaryKind) (operand : plain.Expr) →
    found_in ss used (plain.Expr.Prefixed from kind operand) ≡ beside nothing (first_of (sign_broken used kind from)) (found_in ss (sign_use kind) operand)
found_in-prefixed ss used from kind operand =
    ap (λ o. let r : Found = record { refusal = o; has_name = has_name operand } in r) (first_of-append (sign_broken used kind from) (expr_broken ss (sign_use kind) operand))

-- ---- the next mark of a chain, and the end of one

-- Where marks are behind it, a front is used as an operand is.
use_before-some : (operand whole : Use) (behind : ℕ) → 0 < behind → use_before operand whole behind ≡ operand
use_before-some operand whole behind some = grind arith

use_before-none : (operand whole : Use) (behind : ℕ) → behind ≡ 0 → use_before operand whole behind ≡ whole
use_before-none operand whole behind none = grind arith

-- What a walk answered of a front, of the next operand and of the mark between them comes to what it is to answer of the next front.
pub found_in-next : {M A : Type 0} → (ss : Scopes) (operand used : Use) (mark : M → plain.Expr → plain.Expr → plain.Expr) (f : A → plain.Expr) (broken : Use → M → plain.Expr → plain.Expr → List Refusal) →
    ((whole : Use) (m : M) (left right : plain.Expr) → IsBetween ss whole (mark m left right) operand (broken whole m left right) left right) →
    (first : plain.Expr) (more : List (M × A)) (i : ℕ) (m : M × A) (found right : Found) (of_mark : Option Refusal) →
    i < length more → get_or more i m ≡ m →
    found ≡ found_in ss (use_before operand used (length more - i)) (front mark f first more i) →
    right ≡ found_in ss operand (f m.1) →
    of_mark ≡ first_of (broken (use_before operand used (length more - (i + 1))) m.0 (front mark f first more i) (f m.1)) →
    beside found of_mark right ≡ found_in ss (use_before operand used (length more - (i + 1))) (front mark f first more (i + 1))
found_in-next ss operand used mark f broken law first more i m found right of_mark within at found-is right-is mark-is =
    let here : plain.Expr = front mark f first more i in
    let whole : Use = use_before operand used (length more - (i + 1)) in
    let found-is-operand : found ≡ found_in ss operand here = found-is ∙ ap (λ u. found_in ss u here) (use_before-some operand used (length more - i) (omega arith)) in
    ap (λ x. beside x of_mark right) found-is-operand ∙ ap (λ x. beside (found_in ss operand here) of_mark x) right-is
    ∙ ap (λ x. beside (found_in ss operand here) x (found_in ss operand (f m.1))) mark-is ∙ sym (law whole m.0 here (f m.1))
    ∙ ap (found_in ss whole) (sym (front-next mark f first more i m within at))

-- What a walk answered of the front of all is what it is to answer of the whole.
pub found_in-all : {M A : Type 0} → (ss : Scopes) (operand used : Use) (mark : M → plain.Expr → plain.Expr → plain.Expr) (f : A → plain.Expr)
    (first : plain.Expr) (more all : List (M × A)) (i : ℕ) (found : Found) (whole : plain.Expr) →
    length more ≤ i → i ≤ length more → more ≡ all → whole ≡ left_to_right mark first (map (λ m. (m.0, f m.1)) all) →
    found ≡ found_in ss (use_before operand used (length more - i)) (front mark f first more i) →
    found ≡ found_in ss used whole
found_in-all ss operand used mark f first more all i found whole low high same whole-is found-is =
    found-is ∙ ap (λ u. found_in ss u (front mark f first more i)) (use_before-none operand used (length more - i) (omega arith))
    ∙ ap (found_in ss used) (front-end mark f first more all i whole low high same whole-is)
