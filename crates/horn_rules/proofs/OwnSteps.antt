-- The start of a thread and its own steps, with what they give.
use Rattle.std.proofs.Common.{◌≡◌, ℕ, zero, suc, ◌+◌, ℤ, pos, List, [], ◌∷◌, ◌++◌, length, Some, sym, ap, subst, ◌∙◌, arith, length-append, append_assoc}
use Rattle.std.specs.List.{AllByRecursion, slice_get}
use Rattle.lin_rows.specs.Row.{Row, Meets}
use Rattle.transition_formula.specs.Program.{Column, Program, Thread, IsThreadOf, IsProgram}
use Rattle.transition_formula.specs.Step.{MayStart, IsInitial}
use Rattle.transition_formula.proofs.Programs.{counter-within}
use Rattle.horn_rules.specs.Home.{Home, home_width}
use Rattle.horn_rules.specs.Fact.{IsAtomOf}
use Rattle.horn_rules.specs.Instance.{Init, Own, Guar}
use Rattle.horn_rules.specs.Case.{wider_row, init_case, own_case, guar_case, init, own, guar}
use Rattle.horn_rules.specs.Steps.{StartsAreDescribed, OwnStepsAreDescribed, OwnStepsAreTold}
use Rattle.horn_rules.proofs.GivenAtoms.{given-atoms-hold}
use Rattle.horn_rules.proofs.Described.{meets-back, product-widened, moved-meet, arrives, stands-at}
use Rattle.horn_rules.proofs.Points.{initial-point, length-after, own-point}
use Rattle.lin_rows.proofs.Lists.{slice_get-there}

-- ---- the start

initial-at : (columns : List Column) (state : List ℤ) (c : ℕ) (column : Column) (v : ℤ) → IsInitial columns state → slice_get columns c ≡ Some column → column.start ≡ Some v
    → slice_get state c ≡ Some v
initial-at [] [] zero column v all at starts = cc
initial-at [] [] (suc c) column v all at starts = cc
initial-at [] (x ∷ state) c column v all at starts = absurd all
initial-at (first ∷ columns) [] c column v all at starts = absurd all
initial-at (first ∷ columns) (x ∷ state) zero column v all at starts =
    let same : first ≡ column = cc in
    let start : first.start ≡ Some v = ap (λ (found : Column). found.start) same ∙ starts in
    let there : x ≡ v = subst (λ o. MayStart o x) start all.0 in
    ap Some there
initial-at (first ∷ columns) (x ∷ state) (suc c) column v all at starts = initial-at columns state c column v all.1 at starts

-- a counter starts at location 1
pub counter-starts : (program : Program) (i : ℕ) (thread : Thread) (state : List ℤ) → IsProgram program → IsThreadOf program i thread → IsInitial program.columns state
    → slice_get state thread.counter ≡ Some (pos 1)
counter-starts program i thread state is at initial =
    let (column, there) = slice_get-there program.columns thread.counter (counter-within program i thread is at).1 in
    initial-at program.columns state thread.counter column (pos 1) initial there ((is.threads_are i thread at).counts column there).starts

pub starts-described : StartsAreDescribed
starts-described program i thread given state is at are initial gives =
    record {
      l = 1;
      thread = thread;
      thread_is = at;
      stands = gives.at_target;
      there = counter-starts program i thread state is at initial;
      hold = given-atoms-hold program (Init i) (init_case program i) given state (init i thread at) are gives (initial-point program state initial);
    }

-- ---- the thread's own steps

pub own-steps-described : OwnStepsAreDescribed
own-steps-described program i e thread edge f given before inputs after is at are_f are one steps told gives =
    let n = length program.columns in
    let stands = stands-at program f before i edge.from thread told at.thread_is steps.at_source in
    let two : length after ≡ n = length-after thread edge before inputs after steps ∙ one in
    let far : length after ≡ home_width n given.home = two ∙ sym (ap (home_width n) gives.at_target) in
    let point = own-point program i e thread edge f before inputs after is are_f at stands one steps told in
    let held = given-atoms-hold program (Own f e) (own_case program i thread edge f) given (before ++ (after ++ inputs)) (own i e thread edge f at stands) are gives point in
    record {
      l = edge.to;
      thread = thread;
      thread_is = at.thread_is;
      stands = gives.at_target;
      there = arrives thread edge before inputs after (omega (arith, (counter-within program i thread is at.thread_is).1)) steps;
      hold = moved-meet program given.home n edge.inputs given.atoms before after inputs one far are.are_atoms held;
    }

-- atoms that hold where more columns stand behind
narrowed-meet : (program : Program) (home : Home) (k : ℕ) (atoms : List Row) (state rest : List ℤ) → length state ≡ home_width (length program.columns) home
    → AllByRecursion (IsAtomOf program home) atoms → AllByRecursion (λ atom. Meets (wider_row k atom) (state ++ rest)) atoms → AllByRecursion (λ atom. Meets atom state) atoms
narrowed-meet program home k [] state rest e are hold = tt
narrowed-meet program home k (atom ∷ atoms) state rest e are hold = (
  meets-back atom _ state (state ++ rest) (product-widened k atom.coefficients state rest (are.0.one_each ∙ sym e)) hold.0,
  narrowed-meet program home k atoms state rest e are.1 hold.1,
)

pub own-steps-told : OwnStepsAreTold
own-steps-told program i e thread edge f given before inputs after is at are_f are one steps told gives =
    let n = length program.columns in
    let stands = stands-at program f before i edge.from thread told at.thread_is steps.at_source in
    let two : length after ≡ n = length-after thread edge before inputs after steps ∙ one in
    let pair : length (before ++ after) ≡ n + n = omega (arith, length-append before after) in
    let far : length (before ++ after) ≡ home_width n given.home = pair ∙ sym (ap (home_width n) gives.at_target) in
    let point = own-point program i e thread edge f before inputs after is are_f at stands one steps told in
    let held = given-atoms-hold program (Guar f e) (guar_case program i e thread edge f) given (before ++ (after ++ inputs)) (guar i e thread edge f at stands) are gives point in
    let regrouped = subst (λ z. AllByRecursion (λ atom. Meets (wider_row edge.inputs atom) z) given.atoms) (sym (append_assoc before after inputs)) held in
    record {
      thread = thread;
      edge = edge;
      edge_is = at;
      stands = gives.at_target;
      steps = steps;
      hold = narrowed-meet program given.home edge.inputs given.atoms (before ++ after) inputs far are.are_atoms regrouped;
    }
