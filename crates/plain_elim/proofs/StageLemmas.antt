-- The parts of a stage, put together as the definition has them.
use Rattle.std.proofs.Common.{◌≡◌, ℕ, zero, suc, ◌+◌, ◌*◌, refl, sym, ◌∙◌, ap, ap₂, List, [], ◌∷◌, ◌++◌, map, length, get_or, Bool, true, false, cond, Option, Some, None, Result, Ok, Err, to_z, of_z, arith}
use Rattle.std.specs.Prelude.{ℤ, pos, negsuc, neg_ℤ, ◌-ℤ◌, ◌*ℤ◌, int_lt, unsigned_abs, flat_map, reverse, IfOk}
use Rattle.std.specs.Int.{w128, int_signum}
use Rattle.std.specs.Option.{option_map}
use Rattle.std.specs.List.{position, remove}
use Rattle.std.proofs.lemmas.Int.{ints}
use Rattle.thr_base.specs.Number.{Fits}
use Rattle.lin_rows.proofs.Numbers.{read_back, Fits-neg}
use Rattle.lin_rows.specs.Gcd.{gcd}
use Rattle.lin_rows.specs.System.{System}
use Rattle.farkas_cert.specs.Divided.{over}
use Rattle.farkas_cert.specs.Line.{Line, coefficient_at, is_nonzero, lowest_column, lowest_of, made_line, given_lines}
use Rattle.farkas_cert.specs.BackSubstitution.{Kept, Solved, Bounded}
use Rattle.farkas_cert.specs.Elimination.{Leaves, Work, Goes, Ends, stage_number, every, follows, substituted_line, equality_stage, paired_line, positives, negatives, with_column, without_column, pairs_at, are_too_many, pair_stage, take_column_out, take_column_out_by, constant_test, then_constant_test, stage, beginning, Outcome}
use Rattle.farkas_cert.specs.declared.answers.LeaveKind.TheVariants.{Rows, Overflow}
use Rattle.plain_elim.specs.declared.kept.Kept.{Kept as HeldKept}
use Rattle.plain_elim.specs.inside.Held.{kept_of}
use Rattle.plain_elim.specs.inside.Stages.{pairs_of, made_with}
use Rattle.std.proofs.lemmas.List.{length-map, length-reverse}
use Rattle.plain_elim.proofs.Everyone.{filter-filter}
use Rattle.plain_elim.proofs.Positions.{first_at, none_at}

-- from one fact of what is there to another
pub if_ok : {X E : Type 0} (P Q : X → Type 0) (r : Result X E) → ((x : X) → P x → Q x) → IfOk r P → IfOk r Q
if_ok P Q (Ok x) f h = f x h
if_ok P Q (Err e) f h = h

-- ---- one line

pub substituted_stays : (c : ℕ) (equality line : Line) (q : ℤ) → q ≡ coefficient_at c line → is_nonzero q ≡ false → Some line ≡ substituted_line c equality line
unfolding substituted_line
substituted_stays c equality line q e t =
    let same : is_nonzero (coefficient_at c line) ≡ false = ap is_nonzero (sym e) ∙ t in
    sym (ap (λ b. cond b (made_line line.equal (over (gcd (unsigned_abs (coefficient_at c equality)) (unsigned_abs (coefficient_at c line))) (pos (unsigned_abs (coefficient_at c equality)))) line.numbers (neg_ℤ (over (gcd (unsigned_abs (coefficient_at c equality)) (unsigned_abs (coefficient_at c line))) (int_signum (coefficient_at c equality) *ℤ coefficient_at c line))) equality.numbers) (Some line)) same)

pub substituted_by : (c : ℕ) (equality line : Line) (equal : Bool) (p q a b : ℤ) → p ≡ coefficient_at c equality → q ≡ coefficient_at c line
    → is_nonzero q ≡ true → equal ≡ line.equal → a ≡ over (gcd (unsigned_abs p) (unsigned_abs q)) (pos (unsigned_abs p))
    → b ≡ neg_ℤ (over (gcd (unsigned_abs p) (unsigned_abs q)) (int_signum p *ℤ q))
    → made_line equal a line.numbers b equality.numbers ≡ substituted_line c equality line
unfolding substituted_line
substituted_by c equality line equal p q a b e f t s g h =
    let same : is_nonzero (coefficient_at c line) ≡ true = ap is_nonzero (sym f) ∙ t in
    rw (same, g, h, e, f, s) refl

pub paired_by : (c : ℕ) (positive negative : Line) (p q a b : ℤ) → p ≡ coefficient_at c positive → q ≡ neg_ℤ (coefficient_at c negative)
    → a ≡ over (gcd (unsigned_abs p) (unsigned_abs q)) q → b ≡ over (gcd (unsigned_abs p) (unsigned_abs q)) p
    → made_line false a positive.numbers b negative.numbers ≡ paired_line c positive negative
unfolding paired_line
paired_by c positive negative p q a b e f g h = rw (g, h, e, f) refl

-- a number with the other sign, as it is read back
pub read_turned : (z : ℤ) → Fits z → to_z w128 (of_z w128 (pos 0 -ℤ to_z w128 (of_z w128 z))) ≡ neg_ℤ z
read_turned z h =
    let back : pos 0 -ℤ z ≡ neg_ℤ z = omega (arith, ints) in
    ap (λ z. to_z w128 (of_z w128 (pos 0 -ℤ z))) (read_back z h) ∙ ap (λ z. to_z w128 (of_z w128 z)) back ∙ read_back (neg_ℤ z) (Fits-neg z h)

-- a line with a negative coefficient, turned round
pub turned_nonzero : (z : ℤ) → int_lt z (pos 0) ≡ true → is_nonzero (neg_ℤ z) ≡ true
turned_nonzero (pos zero) e = absurd cc
turned_nonzero (pos (suc n)) e = refl
turned_nonzero (negsuc n) e = refl

positive_nonzero : (z : ℤ) → int_lt (pos 0) z ≡ true → is_nonzero z ≡ true
positive_nonzero (pos zero) e = absurd cc
positive_nonzero (pos (suc n)) e = refl
positive_nonzero (negsuc n) e = refl

negative_nonzero : (z : ℤ) → int_lt z (pos 0) ≡ true → is_nonzero z ≡ true
negative_nonzero (pos zero) e = absurd cc
negative_nonzero (pos (suc n)) e = refl
negative_nonzero (negsuc n) e = refl

-- ---- pairs

pub pairs_at-is : (c : ℕ) (lines : List Line) → pairs_at c lines ≡ pairs_of c lines (positives c lines)
unfolding pairs_at
pairs_at-is c lines = refl

pub positives_with_column : (c : ℕ) (lines : List Line) → positives c (with_column c lines) ≡ positives c lines
positives_with_column c lines =
    filter-filter (λ line. int_lt (pos 0) (coefficient_at c line)) (λ line. is_nonzero (coefficient_at c line)) lines (λ line t. positive_nonzero (coefficient_at c line) t)

pub negatives_with_column : (c : ℕ) (lines : List Line) → negatives c (with_column c lines) ≡ negatives c lines
negatives_with_column c lines =
    filter-filter (λ line. int_lt (coefficient_at c line) (pos 0)) (λ line. is_nonzero (coefficient_at c line)) lines (λ line t. negative_nonzero (coefficient_at c line) t)

-- lines without the column have no part in pairs
pub pairs_with_column : (c : ℕ) (lines : List Line) → pairs_at c (with_column c lines) ≡ pairs_at c lines
unfolding pairs_at
pairs_with_column c lines =
    ap₂ (λ some others. every (flat_map (λ positive. map (paired_line c positive) others) some)) (positives_with_column c lines) (negatives_with_column c lines)

-- ---- what follows

follows_same : (work other : Work) (kept : Kept) (made : ℕ) (o : Option (List Line)) → work.kept ≡ other.kept → follows work kept made o ≡ follows other kept made o
follows_same work other kept made None e = ap (λ ks. Ends (Leaves (suc (length ks)) Overflow)) e
follows_same work other kept made (Some lines) e = ap (λ ks. Goes (record { lines = lines; kept = kept ∷ ks; made = made })) e

pub equality_taken : (system : System) (work before : Work) (i c : ℕ) (equality : Line) (o : Option (List Line)) → before.kept ≡ work.kept
    → position (λ line. line.equal) work.lines ≡ Some i → equality ≡ get_or work.lines i equality → c ≡ lowest_column system.columns equality
    → o ≡ every (map (substituted_line c equality) (remove work.lines i))
    → follows before (Solved c equality) work.made o ≡ take_column_out system work
unfolding take_column_out equality_stage
equality_taken system work before i c equality o k e is l m =
    let first = first_at work.lines i equality e in
    let found = first.found ∙ ap Some (sym is) in
    let others = ap (λ ls. every (map (substituted_line (lowest_column system.columns equality) equality) ls)) (sym first.others) in
    let same = m ∙ ap (λ c. every (map (substituted_line c equality) (remove work.lines i))) l ∙ others in
    follows_same before work (Solved c equality) work.made o k
    ∙ ap₂ (λ c o. follows work (Solved c equality) work.made o) l same ∙ ap (take_column_out_by system work) (sym found)

pub pairs_taken : (system : System) (work : Work) → position (λ line. line.equal) work.lines ≡ None → pair_stage system work ≡ take_column_out system work
unfolding take_column_out
pairs_taken system work e = ap (take_column_out_by system work) (sym (none_at work.lines e))

pub pairs_followed : (work before : Work) (c made : ℕ) (with without : List Line) (o : Option (List Line)) → before.kept ≡ work.kept
    → with ≡ with_column c work.lines → without ≡ without_column c work.lines → o ≡ option_map (λ pairs. without ++ pairs) (pairs_at c with)
    → follows before (Bounded c with) made o
    ≡ follows work (Bounded c (with_column c work.lines)) made (option_map (λ pairs. without_column c work.lines ++ pairs) (pairs_at c work.lines))
pairs_followed work before c made with without o k e f m =
    let pairs = ap (pairs_at c) e ∙ pairs_with_column c work.lines in
    let same = m ∙ ap₂ (λ ls ps. option_map (λ pairs. ls ++ pairs) ps) f pairs in
    follows_same before work (Bounded c with) made o k ∙ ap₂ (λ ls o. follows work (Bounded c ls) made o) e same

-- ---- the limit

made_by : (b : Bool) (n made : ℕ) → cond b None (Some n) ≡ Some made → (b ≡ false) × (made ≡ n)
made_by true n made e = absurd cc
made_by false n made e = (refl, cc)

left_by : (b : Bool) (n : ℕ) → cond b None (Some n) ≡ None → b ≡ true
left_by true n e = refl
left_by false n e = absurd cc

pub pair_stage_goes : (system : System) (work : Work) (c p q made : ℕ) → c ≡ lowest_of system.columns work.lines → p ≡ length (positives c work.lines)
    → q ≡ length (negatives c work.lines) → made_with system work.made p q ≡ Some made
    → follows work (Bounded c (with_column c work.lines)) made (option_map (λ pairs. without_column c work.lines ++ pairs) (pairs_at c work.lines)) ≡ pair_stage system work
unfolding pair_stage
pair_stage_goes system work c p q made e f g h =
    let is = made_by (are_too_many system (work.made + p * q)) (work.made + p * q) made h in
    let limit = ap₂ (λ p q. are_too_many system (work.made + p * q)) (sym f) (sym g) ∙ is.0 in
    let count = is.1 ∙ ap₂ (λ p q. work.made + p * q) f g in
    rw (← e, limit, count) refl

pub pair_stage_leaves : (system : System) (work : Work) (c p q : ℕ) → c ≡ lowest_of system.columns work.lines → p ≡ length (positives c work.lines)
    → q ≡ length (negatives c work.lines) → made_with system work.made p q ≡ None → Ends (Leaves (stage_number work) Rows) ≡ pair_stage system work
unfolding pair_stage
pair_stage_leaves system work c p q e f g h =
    let is = left_by (are_too_many system (work.made + p * q)) (work.made + p * q) h in
    let limit = ap₂ (λ p q. are_too_many system (work.made + p * q)) (sym f) (sym g) ∙ is in
    rw (← e, limit) refl

-- ---- a stage

pub kept_count : (kept : List HeldKept) → length (reverse (map kept_of kept)) ≡ length kept
kept_count kept = length-reverse (map kept_of kept) ∙ length-map kept kept_of

pub stage_goes : (system : System) (work next : Work) (n : ℕ) → Goes next ≡ take_column_out system work → n ≡ length next.kept
    → constant_test system n next ≡ stage system work
unfolding stage
stage_goes system work next n e h = ap (λ n. constant_test system n next) h ∙ ap (then_constant_test system) e

pub stage_ends : (system : System) (work : Work) (outcome : Outcome) → Ends outcome ≡ take_column_out system work → Ends outcome ≡ stage system work
unfolding stage
stage_ends system work outcome e = ap (then_constant_test system) e

pub begun_is : (system : System) (lines : List Line) → lines ≡ given_lines (length system.rows) 0 system.rows
    → constant_test system 0 (record { lines = lines; kept = []; made = 0 }) ≡ beginning system
unfolding beginning
begun_is system lines e = ap (λ ls. constant_test system 0 (record { lines = ls; kept = []; made = 0 })) e
