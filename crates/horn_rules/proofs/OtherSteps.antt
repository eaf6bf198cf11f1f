-- Steps of another thread, with what they give.
use Rattle.std.proofs.Common.{◌≡◌, ◌≢◌, ℕ, ℤ, pos, List, [], ◌++◌, length, Some, sym, ap, subst, ◌∙◌}
use Rattle.std.specs.List.{AllByRecursion}
use Rattle.lin_rows.specs.Row.{Meets}
use Rattle.transition_formula.specs.Program.{Program, Thread, Edge, IsThreadOf, IsEdgeOf, IsProgram, at_number}
use Rattle.transition_formula.specs.Step.{Steps}
use Rattle.horn_rules.specs.Home.{State, home_width}
use Rattle.horn_rules.specs.Fact.{Statement, IsStatementOf}
use Rattle.horn_rules.specs.Case.{moved_row, env_case, inter_case}
use Rattle.horn_rules.specs.Steps.{Describes, ToldStepsAreDescribed, InterferingStepsAreDescribed}
use Rattle.horn_rules.proofs.GivenAtoms.{placed-atoms-hold}
use Rattle.horn_rules.proofs.WiderAtoms.{IsAtom-moved}
use Rattle.horn_rules.proofs.Described.{moved-meet, described-at, stands-at, other-stays}
use Rattle.horn_rules.proofs.Points.{length-after, env-point, inter-point}

-- a thread stays where it is, and the atoms that are given hold of the state after
stays : (program : Program) (k l i e m : ℕ) (other thread : Thread) (edge : Edge) (f given : Statement) (before inputs after rest : List ℤ)
    → IsProgram program → k ≢ i → IsThreadOf program k other → IsEdgeOf program i e thread edge → f.home ≡ State k l → IsStatementOf program given
    → length before ≡ length program.columns → Steps thread edge before inputs after → Describes program k f before → given.home ≡ State k l
    → AllByRecursion (λ atom. Meets (moved_row (length program.columns) m atom) (before ++ (after ++ rest))) given.atoms → Describes program k given after
stays program k l i e m other thread edge f given before inputs after rest is apart there at stands are one steps told at_target held =
    let n = length program.columns in
    let two : length after ≡ n = length-after thread edge before inputs after steps ∙ one in
    let far : length after ≡ home_width n given.home = two ∙ sym (ap (home_width n) at_target) in
    record {
      l = l;
      thread = other;
      thread_is = there;
      stands = at_target;
      there = other-stays program k i e other thread edge before inputs after (pos l) is apart there at one steps (described-at program f before k l other told there stands);
      hold = moved-meet program given.home n m given.atoms before after rest one far are.are_atoms held;
    }

pub interfering-steps-described : InterferingStepsAreDescribed
interfering-steps-described program k l i e other thread edge f g given before inputs after is apart there at stands_f are_f are_g are one steps told_f told_g gives =
    let stands_g = stands-at program g before i edge.from thread told_g at.thread_is steps.at_source in
    let point = inter-point program k l i e other thread edge f g before inputs after is are_f are_g there at stands_f stands_g one steps told_f told_g in
    stays program k l i e edge.inputs other thread edge f given before inputs after inputs is apart there at stands_f are one steps told_f gives.at_target
    (placed-atoms-hold program (inter_case program k l other thread edge f g) given (before ++ (after ++ inputs))
    (λ atom is. IsAtom-moved (length program.columns) edge.inputs atom is) are gives point)

pub told-steps-described : ToldStepsAreDescribed
told-steps-described program k l i e other thread edge f t given before inputs after is apart there at stands_f are_f are_t are one told_f told_t gives =
    let threads : Some told_t.thread ≡ Some thread = sym told_t.edge_is.thread_is ∙ at.thread_is in
    let one_thread : told_t.thread ≡ thread = cc in
    let edges : Some told_t.edge ≡ Some edge = sym told_t.edge_is.edge_is ∙ ap (λ (found : Thread). at_number found.edges e) one_thread ∙ at.edge_is in
    let one_edge : told_t.edge ≡ edge = cc in
    let steps = subst (λ found. Steps found edge before inputs after) one_thread (subst (λ found. Steps told_t.thread found before inputs after) one_edge told_t.steps) in
    let point = env-point program k l i e other thread edge f t before inputs after is are_f there at stands_f one steps told_f told_t.hold in
    stays program k l i e 0 other thread edge f given before inputs after [] is apart there at stands_f are one steps told_f gives.at_target
    (placed-atoms-hold program (env_case program k l other thread edge f t) given (before ++ (after ++ []))
    (λ atom is. IsAtom-moved (length program.columns) 0 atom is) are gives point)
