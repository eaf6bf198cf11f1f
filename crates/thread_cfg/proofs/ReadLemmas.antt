-- Reads in turn.
use Rattle.std.proofs.Common.{◌≡◌, ℕ, suc, ◌+◌, ◌<◌, ◌≤◌, true, false, List, [], ◌∷◌, ◌++◌, drop, get_or, length, Option, refl, sym, ap, ap₂, subst, ◌∙◌, arith}
use Rattle.std.proofs.lemmas.List.{append-nil, append_assoc, drop_more, length-append}
use Rattle.lin_rows.proofs.Lists.{AllByRecursion-front, AllByRecursion-rest}
use Rattle.c_check.specs.declared.meaning.Variable.{Variable}
use Rattle.c_check.specs.declared.meaning.Variable.TheVariants as variable
use Rattle.c_check.specs.declared.operation.Mark.{Mark}
use Rattle.c_check.specs.declared.operation.Operation.{Operation}
use Rattle.c_check.specs.declared.operation.Operation.TheVariants as operation
use Rattle.c_check.specs.declared.test.Comparison.{Comparison}
use Rattle.c_check.specs.Plan.{Arithmetic, postfix}
use Rattle.c_check.specs.Items.{few, over_temporaries, reads, shared_in, written}
use Rattle.thread_cfg.specs.declared.thread.Found.{Found}
use Rattle.thread_cfg.specs.declared.reading.Reading.{Reading}
use Rattle.thread_cfg.specs.declared.running.Running.{Running}
use Rattle.thread_cfg.specs.Path.{Event}
use Rattle.thread_cfg.specs.Action.{Action, assign_accesses, assign_actions, compare_accesses, compare_action, compare_reads, read_actions, simple, test_action}
use Rattle.thread_cfg.specs.inside.Adds.{AddsActions, AddsReads, AreWithin}
use Rattle.thread_cfg.specs.inside.Meant.{frame_of}
use Rattle.thread_cfg.specs.inside.Sizes.{comparison_size, locations, shared_of, shared_operations, shared_variables}
use Rattle.thread_cfg.specs.inside.Within.{ActionWithin}
use Rattle.thread_cfg.proofs.AddLemmas.{AddsActions-then}
use Rattle.thread_cfg.proofs.SizeLemmas.{shared_operations-postfix}

-- ---- lists of reads

-- the reads of joined variables, the second ones into the temporaries behind the first
reads-append : (t : ℕ) (vs ws : List Variable) → reads t (vs ++ ws) ≡ reads t vs ++ reads (t + length vs) ws
reads-append t [] ws = ap (λ n. reads n ws) (omega arith)
reads-append t (v ∷ vs) ws = ap (λ l. (variable.Own t, v) ∷ l) (reads-append (t + 1) vs ws ∙ ap (λ n. reads (t + 1) vs ++ reads n ws) (omega arith))

-- there is one read for each variable
length-reads : (t : ℕ) (vs : List Variable) → length (reads t vs) ≡ length vs
length-reads t [] = refl
length-reads t (v ∷ vs) = omega (arith, length-reads (t + 1) vs)

-- there is one action for each read
pub length-read_actions : (from : ℕ) (rs : List (Variable × Variable)) (at : ℕ) → length (read_actions from rs at) ≡ length rs
length-read_actions from [] at = refl
length-read_actions from (r ∷ rs) at = omega (arith, length-read_actions from rs (at + 1))

-- the actions of joined reads, the second ones at the locations behind the first
read_actions-append : (from : ℕ) (rs ss : List (Variable × Variable)) (at : ℕ)
    → read_actions from (rs ++ ss) at ≡ read_actions from rs at ++ read_actions from ss (at + length rs)
read_actions-append from [] ss at = ap (λ n. read_actions from ss n) (omega arith)
read_actions-append from (r ∷ rs) ss at =
    ap (λ l. simple from (Event.Sets from r.0 (Arithmetic.Value r.1)) (at + 1) ∷ l)
    (read_actions-append from rs ss (at + 1) ∙ ap (λ n. read_actions from rs (at + 1) ++ read_actions from ss n) (omega arith))

-- the actions of the reads of more variables
pub variables-append : (from t at : ℕ) (vs ws : List Variable)
    → read_actions from (reads t (vs ++ ws)) at ≡ read_actions from (reads t vs) at ++ read_actions from (reads (t + length vs) ws) (at + length vs)
variables-append from t at vs ws =
    ap (λ l. read_actions from l at) (reads-append t vs ws)
    ∙ read_actions-append from (reads t vs) (reads (t + length vs) ws) at
    ∙ ap (λ n. read_actions from (reads t vs) at ++ read_actions from (reads (t + length vs) ws) (at + n)) (length-reads t vs)

-- there is one action for each variable that is read
pub length-variables : (from t at : ℕ) (vs : List Variable) → length (read_actions from (reads t vs) at) ≡ length vs
length-variables from t at vs = length-read_actions from (reads t vs) at ∙ length-reads t vs

-- ---- what is within

-- where joined actions are within the columns, the first ones are
pub within-front : (running : Running) (xs ys : List Action) → AreWithin running (xs ++ ys) → AreWithin running xs
within-front running xs ys all = AllByRecursion-front (ActionWithin running.columns (frame_of running.frame)) xs ys all

-- where joined actions are within the columns, the second ones are
pub within-rest : (running : Running) (xs ys : List Action) → AreWithin running (xs ++ ys) → AreWithin running ys
within-rest running xs ys all = AllByRecursion-rest (ActionWithin running.columns (frame_of running.frame)) xs ys all

-- ---- reads in turn

-- no reads leave the place where the next one is
pub AddsReads-none : (running : Running) (from : ℕ) (f : Found) (reading : Reading) → AddsActions running reading.at.0 f f [] → AddsReads running from f f reading reading []
AddsReads-none running from f reading none = record { added = none; at = omega arith; temporary = omega arith }

-- reads and then others are the reads of joined variables
pub AddsReads-then : (running : Running) (from : ℕ) (a b c : Found) (first middle last : Reading) (vs ws : List Variable)
    → AddsReads running from a b first middle vs → AddsReads running from b c middle last ws → AddsReads running from a c first last (vs ++ ws)
AddsReads-then running from a b c first middle last vs ws one other =
    let t = first.temporary in let at = first.at.0 in
    let behind : at + length (read_actions from (reads t vs) at) ≡ middle.at.0 = omega (arith, length-variables from t at vs, one.at) in
    let same : read_actions from (reads middle.temporary ws) middle.at.0 ≡ read_actions from (reads (t + length vs) ws) (at + length vs) =
    ap₂ (λ n k. read_actions from (reads n ws) k) one.temporary one.at in
    record {
      added = subst (λ l. AddsActions running at a c l) (ap (λ l. read_actions from (reads t vs) at ++ l) same ∙ sym (variables-append from t at vs ws))
          (AddsActions-then running at middle.at.0 a b c (read_actions from (reads t vs) at) (read_actions from (reads middle.temporary ws) middle.at.0) behind one.added other.added);
      at = omega (arith, one.at, other.at, length-append vs ws);
      temporary = omega (arith, one.temporary, other.temporary, length-append vs ws);
    }

-- one more operation
pub shared_variables-next : (os : List Operation) (i : ℕ) (d : Operation) → i < length os
    → shared_variables (drop i os) ≡ shared_of (get_or os i d) ++ shared_variables (drop (i + 1) os)
shared_variables-next os i d within = ap shared_variables (drop_more os i d within)

-- the shared variables of joined operations are those of both
flat_map-append : (os ps : List Operation) → shared_variables (os ++ ps) ≡ shared_variables os ++ shared_variables ps
flat_map-append [] ps = refl
flat_map-append (o ∷ os) ps = ap (λ l. shared_of o ++ l) (flat_map-append os ps) ∙ sym (append_assoc (shared_of o) (shared_variables os) (shared_variables ps))

-- What operations read is what the expression reads.
pub shared_variables-postfix : (a : Arithmetic) → shared_variables (postfix a) ≡ shared_in a
shared_variables-postfix (Arithmetic.Number k) = refl
shared_variables-postfix (Arithmetic.Value (variable.Shared n)) = refl
shared_variables-postfix (Arithmetic.Value (variable.Own n)) = refl
shared_variables-postfix (Arithmetic.Negated a) = flat_map-append (postfix a) (operation.Negate ∷ []) ∙ append-nil (shared_variables (postfix a)) ∙ shared_variables-postfix a
shared_variables-postfix (Arithmetic.Sum a b) =
    flat_map-append (postfix a ++ postfix b) (operation.Add ∷ []) ∙ append-nil (shared_variables (postfix a ++ postfix b)) ∙ flat_map-append (postfix a) (postfix b)
    ∙ ap₂ (λ x y. x ++ y) (shared_variables-postfix a) (shared_variables-postfix b)
shared_variables-postfix (Arithmetic.Difference a b) =
    flat_map-append (postfix a ++ postfix b) (operation.Subtract ∷ []) ∙ append-nil (shared_variables (postfix a ++ postfix b)) ∙ flat_map-append (postfix a) (postfix b)
    ∙ ap₂ (λ x y. x ++ y) (shared_variables-postfix a) (shared_variables-postfix b)
shared_variables-postfix (Arithmetic.Product a b) =
    flat_map-append (postfix a ++ postfix b) (operation.Multiply ∷ []) ∙ append-nil (shared_variables (postfix a ++ postfix b)) ∙ flat_map-append (postfix a) (postfix b)
    ∙ ap₂ (λ x y. x ++ y) (shared_variables-postfix a) (shared_variables-postfix b)

-- ---- assignments and comparisons, where the accesses are few and where they are more

-- less than two accesses are few
pub few-true : (n : ℕ) → n < 2 → few n ≡ true
few-true n h = grind arith

-- two accesses and more are not few
pub few-false : (n : ℕ) → 2 ≤ n → few n ≡ false
few-false n h = grind arith

-- an assignment with few accesses is one action
pub assign-few : (temporary at next from place : ℕ) (v : Variable) (e : Arithmetic) → few (assign_accesses v e) ≡ true
    → assign_actions temporary at next from place v e ≡ simple from (Event.Sets place v e) next ∷ []
assign-few temporary at next from place v e h = rw h refl

-- an assignment with more accesses is its reads, and then one over temporaries
pub assign-many : (temporary at next from place : ℕ) (v : Variable) (e : Arithmetic) → few (assign_accesses v e) ≡ false
    → assign_actions temporary at next from place v e
    ≡ read_actions from (reads temporary (shared_in e)) at ++ simple from (Event.Sets place v (over_temporaries temporary e)) next ∷ []
assign-many temporary at next from place v e h = rw h refl

-- a comparison with few accesses is one test
pub compare-few : (temporary at from : ℕ) (m : Mark) (a b : Arithmetic) (t f : Option ℕ) → few (compare_accesses a b) ≡ true
    → read_actions from (compare_reads temporary a b) at ++ compare_action temporary from m a b t f ∷ [] ≡ test_action from m a b t f ∷ []
compare-few temporary at from m a b t f h = rw h refl

-- a comparison with more accesses is its reads, and then a test over temporaries
pub compare-many : (temporary at from : ℕ) (m : Mark) (a b : Arithmetic) (t f : Option ℕ) → few (compare_accesses a b) ≡ false
    → read_actions from (compare_reads temporary a b) at ++ compare_action temporary from m a b t f ∷ []
    ≡ read_actions from (reads temporary (shared_in a ++ shared_in b)) at
    ++ test_action from m (over_temporaries temporary a) (over_temporaries (temporary + length (shared_in a)) b) t f ∷ []
compare-many temporary at from m a b t f h = rw h refl

-- ---- what is left to read

-- the reads that are left are within the columns, where all are
pub left-within : (running : Running) (from : ℕ) (before after : Reading) (vs rest : List Variable)
    → after.at.0 ≡ before.at.0 + length vs → after.temporary ≡ before.temporary + length vs
    → AreWithin running (read_actions from (reads before.temporary (vs ++ rest)) before.at.0) → AreWithin running (read_actions from (reads after.temporary rest) after.at.0)
left-within running from before after vs rest e f all =
    let t = before.temporary in let at = before.at.0 in
    let split = subst (AreWithin running) (variables-append from t at vs rest) all in
    subst (AreWithin running) (sym (ap₂ (λ n k. read_actions from (reads n rest) k) f e))
    (within-rest running (read_actions from (reads t vs) at) (read_actions from (reads (t + length vs) rest) (at + length vs)) split)

-- ---- accesses

-- so many shared variables are read as operations name one
pub length-shared : (os : List Operation) → length (shared_variables os) ≡ shared_operations os
length-shared [] = refl
length-shared (operation.Number k ∷ os) = length-shared os
length-shared (operation.Value (variable.Shared n) ∷ os) = ap (λ n. suc n) (length-shared os)
length-shared (operation.Value (variable.Own n) ∷ os) = length-shared os
length-shared (operation.Negate ∷ os) = length-shared os
length-shared (operation.Add ∷ os) = length-shared os
length-shared (operation.Subtract ∷ os) = length-shared os
length-shared (operation.Multiply ∷ os) = length-shared os

-- the accesses that the code counts of an assignment are those of the definition
pub assign_accesses-is : (v : Variable) (n accesses : ℕ) (os : List Operation) (e : Arithmetic) → os ≡ postfix e → n ≡ shared_operations os → accesses ≡ written v n
    → accesses ≡ assign_accesses v e
assign_accesses-is v n accesses os e is count h = h ∙ ap (written v) (count ∙ ap shared_operations is ∙ shared_operations-postfix e)

-- the accesses that the code counts of a comparison are those of the definition
pub compare_accesses-is : (n k : ℕ) (os ps : List Operation) (a b : Arithmetic) → os ≡ postfix a → ps ≡ postfix b → n ≡ shared_operations os → k ≡ shared_operations ps
    → n + k ≡ compare_accesses a b
compare_accesses-is n k os ps a b is also count other =
    ap₂ (λ x y. x + y) (count ∙ ap shared_operations is ∙ shared_operations-postfix a) (other ∙ ap shared_operations also ∙ shared_operations-postfix b)
    ∙ sym (length-append (shared_in a) (shared_in b))

-- where the accesses are more, there is a location for each read
pub locations-many : (accesses n : ℕ) → 2 ≤ accesses → locations accesses n ≡ n + 1
locations-many accesses n h = rw (few-false accesses h) refl

-- the shared variables of operations are those of the expression
pub variables-is : (os : List Operation) (a : Arithmetic) → os ≡ postfix a → shared_variables os ≡ shared_in a
variables-is os a is = ap shared_variables is ∙ shared_variables-postfix a

-- ---- comparisons that are read into temporaries

-- a comparison that is cut has a location for each read, and one behind them
pub comparison-room : (c : Comparison) (n k : ℕ) (ls rs : List Operation) → ls ≡ c.left → rs ≡ c.right → n ≡ shared_operations ls → k ≡ shared_operations rs
    → 2 ≤ n + k → length (shared_variables ls) + length (shared_variables rs) + 1 ≡ comparison_size c
comparison-room c n k ls rs is also count other more =
    let left = ap shared_operations is in let right = ap shared_operations also in
    let size = locations-many (shared_operations c.left + shared_operations c.right) (shared_operations c.left + shared_operations c.right) (omega (arith, left, right)) in
    omega (arith, size, left, right, length-shared ls, length-shared rs)

-- what both sides read
variables-both : (ls rs : List Operation) (a b : Arithmetic) → ls ≡ postfix a → rs ≡ postfix b → shared_variables ls ++ shared_variables rs ≡ shared_in a ++ shared_in b
variables-both ls rs a b is also = ap₂ (λ x y. x ++ y) (variables-is ls a is) (variables-is rs b also)

-- the reads of a comparison are within the columns, where all its actions are
pub compare-reads_within : (running : Running) (at from : ℕ) (m : Mark) (a b : Arithmetic) (t f : Option ℕ) (ls rs : List Operation)
    → ls ≡ postfix a → rs ≡ postfix b → few (compare_accesses a b) ≡ false
    → AreWithin running (read_actions from (compare_reads running.temporary a b) at ++ compare_action running.temporary from m a b t f ∷ [])
    → AreWithin running (read_actions from (reads running.temporary (shared_variables ls ++ shared_variables rs)) at)
compare-reads_within running at from m a b t f ls rs is also more all =
    let n = running.temporary in
    subst (λ vs. AreWithin running (read_actions from (reads n vs) at)) (sym (variables-both ls rs a b is also))
    (within-front running (read_actions from (reads n (shared_in a ++ shared_in b)) at)
    (test_action from m (over_temporaries n a) (over_temporaries (n + length (shared_in a)) b) t f ∷ [])
    (subst (AreWithin running) (compare-many n at from m a b t f more) all))

-- the test of a comparison is within the columns, where all its actions are
pub compare-test_within : (running : Running) (at from : ℕ) (m : Mark) (a b : Arithmetic) (t f : Option ℕ) → few (compare_accesses a b) ≡ false
    → AreWithin running (read_actions from (compare_reads running.temporary a b) at ++ compare_action running.temporary from m a b t f ∷ [])
    → AreWithin running (test_action from m (over_temporaries running.temporary a) (over_temporaries (running.temporary + length (shared_in a)) b) t f ∷ [])
compare-test_within running at from m a b t f more all =
    let n = running.temporary in
    within-rest running (read_actions from (reads n (shared_in a ++ shared_in b)) at)
    (test_action from m (over_temporaries n a) (over_temporaries (n + length (shared_in a)) b) t f ∷ [])
    (subst (AreWithin running) (compare-many n at from m a b t f more) all)

-- the reads of both sides, and then the test
pub compare-adds : (running : Running) (from : ℕ) (m : Mark) (a b : Arithmetic) (t f : Option ℕ) (ls rs : List Operation) (w x y z : Found) (first middle last : Reading)
    → ls ≡ postfix a → rs ≡ postfix b → few (compare_accesses a b) ≡ false → first.temporary ≡ running.temporary
    → AddsReads running from w x first middle (shared_variables ls) → AddsReads running from x y middle last (shared_variables rs)
    → AddsActions running last.at.0 y z (test_action from m (over_temporaries running.temporary a) (over_temporaries (running.temporary + length (shared_in a)) b) t f ∷ [])
    → AddsActions running first.at.0 w z (read_actions from (compare_reads running.temporary a b) first.at.0 ++ compare_action running.temporary from m a b t f ∷ [])
compare-adds running from m a b t f ls rs w x y z first middle last is also more same one other test =
    let n = running.temporary in let at = first.at.0 in
    let vs = shared_in a ++ shared_in b in
    let both = AddsReads-then running from w x y first middle last (shared_variables ls) (shared_variables rs) one other in
    let added = subst (λ k. AddsActions running at w y (read_actions from (reads k vs) at)) same
    (subst (λ l. AddsActions running at w y (read_actions from (reads first.temporary l) at)) (variables-both ls rs a b is also) both.added) in
    let behind : at + length (read_actions from (reads n vs) at) ≡ last.at.0 =
    omega (arith, length-variables from n at vs, ap length (variables-both ls rs a b is also), both.at) in
    subst (AddsActions running at w z) (sym (compare-many n at from m a b t f more))
    (AddsActions-then running at last.at.0 w y z (read_actions from (reads n vs) at)
    (test_action from m (over_temporaries n a) (over_temporaries (n + length (shared_in a)) b) t f ∷ []) behind added test)
