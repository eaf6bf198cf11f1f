-- How stages follow one another, and what their outcome says.
use Rattle.std.proofs.Common.{◌≡◌, ℕ, zero, suc, ◌+◌, ◌-◌, ◌*◌, ◌<◌, Bool, true, false, List, [], ◌∷◌, ◌++◌, length, reverse, Option, Some, None, find, is_none, Result, Ok, Err, IfOk, if◌then◌else◌, refl, sym, ◌∙◌, ap, subst, arith}
use Rattle.std.specs.Bool.{⊤}
use Rattle.std.specs.Option.{option_map}
use Rattle.std.specs.List.{AllByRecursion}
use Rattle.std.proofs.lemmas.List.{reverse-append, reverse-reverse}
use Rattle.lin_rows.specs.System.{System, HasWidths}
use Rattle.lin_rows.proofs.Lists.{AllByRecursion-append}
use Rattle.farkas_cert.specs.Cert.{Pairs}
use Rattle.farkas_cert.specs.Proof.{Proves, overflow_of}
use Rattle.farkas_cert.specs.Line.{Line, is_false, given_lines, lowest_of}
use Rattle.farkas_cert.specs.BackSubstitution.{Kept, Bounded}
use Rattle.farkas_cert.specs.Elimination.{Work, Next, Goes, Ends, Outcome, Refuted, Leaves, stage, stages, goes_on, or_ends, outcome_of, outcome_within, point_of, follows, take_column_out, take_column_out_by, then_constant_test, constant_test, constant_test_by, equality_stage, pair_stage, beginning, positives, negatives, with_column, without_column, pairs_at, are_too_many}
use Rattle.farkas_cert.specs.declared.answers.LeaveKind.TheVariants.{Overflow, Rows}
use Rattle.farkas_cert.specs.declared.answers.Decided.{Decided}
use Rattle.farkas_cert.specs.declared.answers.Decided.TheVariants as decided
use Rattle.farkas_cert.proofs.Certificates.{certificate_is_sound}
use Rattle.farkas_cert.proofs.Points.{point_is_sound}
use Rattle.farkas_cert.specs.Decision.{outcome_in, IsEvidence}
use Rattle.plain_elim.specs.inside.Held.{refuted_by}

-- ---- one stage behind another

goes_on-open : (system : System) (work : Work) (more : Work → Outcome) (lines : List Line) → 0 < length lines → goes_on system work more lines ≡ or_ends more (stage system work)
goes_on-open system work more [] some = absurd (omega arith)
goes_on-open system work more (line ∷ lines) some = refl

stages-open : (fuel : ℕ) (system : System) (work : Work) → 0 < length work.lines → stages (suc fuel) system work ≡ or_ends (stages fuel system) (stage system work)
unfolding stages
stages-open fuel system work some = goes_on-open system work (stages fuel system) work.lines some

goes_on-closed : (system : System) (work : Work) (more : Work → Outcome) (lines : List Line) → length lines ≡ 0 → goes_on system work more lines ≡ point_of system.columns work.kept
goes_on-closed system work more [] none = refl
goes_on-closed system work more (line ∷ lines) none = absurd (omega arith)

-- Where no line is left the outcome is the point's.
pub stages-closed : (fuel : ℕ) (system : System) (work : Work) → length work.lines ≡ 0 → stages fuel system work ≡ point_of system.columns work.kept
unfolding stages
stages-closed zero system work none = refl
stages-closed (suc fuel) system work none = goes_on-closed system work (stages fuel system) work.lines none

pub stages-end : (n taken : ℕ) (system : System) (work : Work) → n ≡ taken → stages (n - taken) system work ≡ point_of system.columns work.kept
unfolding stages
stages-end n taken system work e =
    let none : 0 ≡ n - taken = omega arith in
    subst (λ k. stages k system work ≡ point_of system.columns work.kept) none refl

pub leads-on : (n taken : ℕ) (system : System) (work : Work) (next : Next) (outcome : Outcome) → taken < n → 0 < length work.lines
    → outcome ≡ stages (n - taken) system work → next ≡ stage system work → outcome ≡ or_ends (stages (n - (taken + 1)) system) next
leads-on n taken system work next outcome within some leads is =
    let more : n - taken ≡ suc (n - (taken + 1)) = omega arith in
    subst (λ k. outcome ≡ stages k system work) more leads
    ∙ stages-open (n - (taken + 1)) system work some
    ∙ ap (or_ends (stages (n - (taken + 1)) system)) (sym is)

-- ---- what a stage keeps

-- The work that follows has kept so much.
abbrev HasKept : ℕ → Next → Type 0
HasKept n (Goes work) = length work.kept ≡ n
HasKept n (Ends outcome) = ⊤

has_kept-goes : (n : ℕ) (next : Next) (work : Work) → HasKept n next → next ≡ Goes work → length work.kept ≡ n
has_kept-goes n next work h e = subst (HasKept n) e h

constant_test_by-keeps : (system : System) (number n : ℕ) (work : Work) (found : Option Line) → length work.kept ≡ n → HasKept n (constant_test_by system number work found)
constant_test_by-keeps system number n work None e = e
constant_test_by-keeps system number n work (Some line) e = tt

then_constant_test-keeps : (system : System) (n : ℕ) (next : Next) → HasKept n next → HasKept n (then_constant_test system next)
unfolding constant_test
then_constant_test-keeps system n (Goes work) h = constant_test_by-keeps system (length work.kept) n work (find (is_false system.columns) work.lines) h
then_constant_test-keeps system n (Ends outcome) h = tt

follows-keeps : (work : Work) (kept : Kept) (made : ℕ) (lines : Option (List Line)) → HasKept (suc (length work.kept)) (follows work kept made lines)
follows-keeps work kept made None = tt
follows-keeps work kept made (Some lines) = refl

if-keeps : (n : ℕ) (b : Bool) (x y : Next) → HasKept n x → HasKept n y → HasKept n (if b then x else y)
if-keeps n true x y p q = p
if-keeps n false x y p q = q

take_column_out-keeps : (system : System) (work : Work) (found : Option Line) → HasKept (suc (length work.kept)) (take_column_out_by system work found)
unfolding equality_stage pair_stage
take_column_out-keeps system work (Some equality) = follows-keeps work _ _ _
take_column_out-keeps system work None =
    let c = lowest_of system.columns work.lines in
    let made = work.made + length (positives c work.lines) * length (negatives c work.lines) in
    let lines = option_map (λ pairs. without_column c work.lines ++ pairs) (pairs_at c work.lines) in
    if-keeps (suc (length work.kept)) (are_too_many system made) (Ends (Leaves (suc (length work.kept)) Rows)) (follows work (Bounded c (with_column c work.lines)) made lines) tt
    (follows-keeps work (Bounded c (with_column c work.lines)) made lines)

-- A stage keeps lines for one more column.
pub stage-keeps : (system : System) (work next : Work) → stage system work ≡ Goes next → length next.kept ≡ suc (length work.kept)
unfolding stage take_column_out
stage-keeps system work next is =
    has_kept-goes (suc (length work.kept)) (stage system work) next
    (then_constant_test-keeps system (suc (length work.kept)) (take_column_out system work) (take_column_out-keeps system work (find (λ line. line.equal) work.lines))) is

-- Before the first stage nothing is kept.
pub beginning-keeps : (system : System) (work : Work) → beginning system ≡ Goes work → length work.kept ≡ 0
unfolding beginning constant_test
beginning-keeps system work is =
    let first : Work = record { lines = given_lines (length system.rows) 0 system.rows; kept = []; made = 0 } in
    has_kept-goes 0 (beginning system) work (constant_test_by-keeps system 0 0 first (find (is_false system.columns) first.lines) refl) is

-- ---- the outcome

pub outcome-beginning : (system : System) (next : Next) → next ≡ beginning system → outcome_of system ≡ or_ends (stages system.columns system) next
unfolding outcome_within
outcome-beginning system next is = ap (or_ends (stages system.columns system)) (sym is)

unproved_by : (system : System) (pairs : Pairs) (number : ℕ) (overflow : Option (ℕ × ℕ)) → HasWidths system
    → outcome_of system ≡ (if is_none overflow then Refuted pairs else Leaves number Overflow) → (¬ Proves system pairs) → Leaves number Overflow ≡ outcome_of system
unproved_by system pairs number None widths leads unproved = absurd (unproved (certificate_is_sound system pairs widths leads).0)
unproved_by system pairs number (Some place) widths leads unproved = sym leads

-- Multipliers that do not prove have a product or sum that does not fit.
pub unproved-leaves : (system : System) (pairs : Pairs) (number : ℕ) → HasWidths system → outcome_of system ≡ refuted_by system pairs number
    → (¬ Proves system pairs) → Leaves number Overflow ≡ outcome_of system
unproved-leaves system pairs number widths leads unproved = unproved_by system pairs number (overflow_of system.rows pairs) widths leads unproved

pub proved-refutes : (system : System) (pairs : Pairs) (number : ℕ) → outcome_of system ≡ refuted_by system pairs number → Proves system pairs → Refuted pairs ≡ outcome_of system
proved-refutes system pairs number leads proves =
    sym (subst (λ (o : Option (ℕ × ℕ)). outcome_of system ≡ (if is_none o then Refuted pairs else Leaves number Overflow)) proves.fits leads)

pub evidence : (system : System) (answer : Decided) → HasWidths system → outcome_in answer ≡ outcome_of system → IsEvidence system answer
evidence system (decided.Refuted cert) widths is =
    let sound = certificate_is_sound system cert widths (sym is) in
    record { proves = sound.0; reduced = sound.1 }
evidence system (decided.Point x d) widths is = point_is_sound system x d widths (sym is)
evidence system (decided.Leaves stage kind) widths is = tt

pub IfOk-evidence : {E : Type 0} (system : System) (answer : Result Decided E) → HasWidths system → IfOk answer (λ decided. outcome_in decided ≡ outcome_of system) → IfOk answer (IsEvidence system)
IfOk-evidence system (Ok answer) widths is = evidence system answer widths is
IfOk-evidence system (Err e) widths is = tt

-- ---- lists in the other order

all-reverse : {A : Type 0} (P : A → Type 0) (xs : List A) → AllByRecursion P xs → AllByRecursion P (reverse xs)
all-reverse P [] all = tt
all-reverse P (x ∷ xs) all =
    subst (AllByRecursion P) (sym (reverse-append (x ∷ []) xs)) (AllByRecursion-append P (reverse xs) (x ∷ []) (all-reverse P xs all.1) (all.0, tt))

pub all-unreversed : {A : Type 0} (P : A → Type 0) (xs : List A) → AllByRecursion P (reverse xs) → AllByRecursion P xs
all-unreversed P xs all = subst (AllByRecursion P) (reverse-reverse xs) (all-reverse P (reverse xs) all)
