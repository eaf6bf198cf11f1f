-- The actions of reads, tests and conditions match what is left there.
use Rattle.std.proofs.Common.{◌≡◌, ℕ, ◌+◌, List, [], ◌∷◌, ◌++◌, length, Option, Some, refl, subst}
use Rattle.c_check.specs.declared.meaning.Variable.{Variable}
use Rattle.c_check.specs.Plan.{Test, Condition}
use Rattle.c_check.specs.Items.{Grain, Item, Items, Side, branch, joined, read_items, shared_in, test_guard}
use Rattle.thread_cfg.specs.Source.{Frame, Standing, gone, read_as}
use Rattle.thread_cfg.specs.Action.{Action, compare_accesses, compare_action, compare_reads, condition_actions, over_reads, read_actions, test_actions, test_size}
use Rattle.thread_cfg.specs.SameSteps.{Lefts}
use Rattle.thread_cfg.specs.inside.Left.{compared_over, condition_left, reads_left, test_left}
use Rattle.thread_cfg.proofs.Matching.{AllMatch, LeadsTo, Lands, Matches, StandsFrom, choice-matches, compare-matches, match-++, read-matches, stands-behind, stands-front}
use Rattle.thread_cfg.proofs.Entries.{test-length, test-stands}

-- reads, and the action behind them
pub reads-match : (frame : Frame) (left : Lefts) (from : ℕ) (rs : List (Variable × Variable)) (at : ℕ) (more : Items) (last : Action)
    → read_as more ≡ more → StandsFrom left at (reads_left rs more) → Matches frame left more last
    → AllMatch frame left (reads_left rs more) (read_actions from rs at ++ last ∷ [])
reads-match frame left from [] at more last e h m = (m, tt)
reads-match frame left from (r ∷ rs) at more last e h m =
    (read-matches frame left from from r.0 r.1 (at + 1) (read_items rs more) (next rs h.1), reads-match frame left from rs (at + 1) more last e h.1 m)
  where
    next : (rs : List (Variable × Variable)) → StandsFrom left (at + 1) (reads_left rs more) → Lands left (at + 1) (Standing.Doing (read_items rs more))
    next [] h = rw e h.0
    next (r ∷ rs) h = h.0

-- a test, whose sides lead to the locations where these are left
pub test-match : (frame : Frame) (left : Lefts) (temporary at : ℕ) (t f : Option ℕ) (test : Test) (ts fs : Side) (rest : Items)
    → LeadsTo left t (gone ts rest) → LeadsTo left f (gone fs rest) → StandsFrom left at (test_left temporary test ts fs rest)
    → AllMatch frame left (test_left temporary test ts fs rest) (test_actions temporary at t f test)
test-match frame left temporary at t f (Test.Compare from m a b) ts fs rest ht hf h =
    reads-match frame left from (compare_reads temporary a b) at (Items.Then (Item.Branch (Some (compared_over temporary m a b)) ts fs) rest)
    (compare_action temporary from m a b t f) refl h
    (compare-matches frame left from m (over_reads temporary (compare_accesses a b) a) (over_reads (temporary + length (shared_in a)) (compare_accesses a b) b) t f ts fs rest ht hf)
test-match frame left temporary at t f (Test.Not u) ts fs rest ht hf h = test-match frame left temporary at f t u fs ts rest hf ht h
test-match frame left temporary at t f (Test.And u v) ts fs rest ht hf h =
    let one = test_left temporary u (Side.Goes (branch (test_guard (Grain.Cut temporary) v) ts fs)) fs rest in
    let second = subst (λ n. StandsFrom left (at + n) (test_left temporary v ts fs rest)) (test-length temporary u (Side.Goes (branch (test_guard (Grain.Cut temporary) v) ts fs)) fs rest)
    (stands-behind left at one (test_left temporary v ts fs rest) h) in
    match-++ frame left one (test_left temporary v ts fs rest) (test_actions temporary at (Some (at + test_size u)) f u) (test_actions temporary (at + test_size u) t f v)
    (test-match frame left temporary at (Some (at + test_size u)) f u (Side.Goes (branch (test_guard (Grain.Cut temporary) v) ts fs)) fs rest
    (test-stands left temporary (at + test_size u) v ts fs rest second) hf (stands-front left at one (test_left temporary v ts fs rest) h))
    (test-match frame left temporary (at + test_size u) t f v ts fs rest ht hf second)
test-match frame left temporary at t f (Test.Or u v) ts fs rest ht hf h =
    let one = test_left temporary u ts (Side.Goes (branch (test_guard (Grain.Cut temporary) v) ts fs)) rest in
    let second = subst (λ n. StandsFrom left (at + n) (test_left temporary v ts fs rest)) (test-length temporary u ts (Side.Goes (branch (test_guard (Grain.Cut temporary) v) ts fs)) rest)
    (stands-behind left at one (test_left temporary v ts fs rest) h) in
    match-++ frame left one (test_left temporary v ts fs rest) (test_actions temporary at t (Some (at + test_size u)) u) (test_actions temporary (at + test_size u) t f v)
    (test-match frame left temporary at t (Some (at + test_size u)) u ts (Side.Goes (branch (test_guard (Grain.Cut temporary) v) ts fs)) rest
    ht (test-stands left temporary (at + test_size u) v ts fs rest second) (stands-front left at one (test_left temporary v ts fs rest) h))
    (test-match frame left temporary (at + test_size u) t f v ts fs rest ht hf second)

-- a condition with two lists of items behind it
pub condition-match : (frame : Frame) (left : Lefts) (temporary at t f : ℕ) (c : Condition) (ts fs rest : Items)
    → Lands left t (Standing.Doing (joined ts rest)) → Lands left f (Standing.Doing (joined fs rest))
    → StandsFrom left at (condition_left temporary c (Side.Goes ts) (Side.Goes fs) rest)
    → AllMatch frame left (condition_left temporary c (Side.Goes ts) (Side.Goes fs) rest) (condition_actions temporary at t f c)
condition-match frame left temporary at t f (Condition.Choice from) ts fs rest ht hf h = (choice-matches frame left from t f ts fs rest ht hf, tt)
condition-match frame left temporary at t f (Condition.Tested from test) ts fs rest ht hf h =
    test-match frame left temporary at (Some t) (Some f) test (Side.Goes ts) (Side.Goes fs) rest ht hf h
