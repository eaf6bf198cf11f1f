-- The jobs of the tests fit.
use Rattle.std.proofs.Common.{◌≡◌, ℕ, ◌+◌, ◌^◌, ◌<◌, List, length, Option, Some, None, refl, sym, ap, ap₂, subst, ◌∙◌, arith}
use Rattle.std.specs.Prelude.{IsSome, unwrap_or}
use Rattle.std.proofs.Math.Pow.{pow-lt}
use Rattle.thr_base.specs.declared.names.ThreadNo.{ThreadNo}
use Rattle.thr_base.specs.declared.names.EdgeNo.{EdgeNo}
use Rattle.thr_base.specs.declared.names.FactId.{FactId}
use Rattle.thr_base.specs.declared.names.Instance.TheVariants as stored
use Rattle.lin_rows.specs.Row.{Row}
use Rattle.lin_rows.specs.Atom.{IsAtom}
use Rattle.lin_rows.proofs.Lists.{AllByRecursion-weaken}
use Rattle.transition_formula.specs.Program.{Program, IsThreadOf, IsEdgeOf, at_number}
use Rattle.transition_formula.specs.inside.Worked.{worked_program, worked_thread, first_edge, second_edge}
use Rattle.horn_rules.specs.declared.job.Premise.{Premise}
use Rattle.horn_rules.specs.declared.job.Job.{Job}
use Rattle.horn_rules.specs.Home.{Home, State, Env, homes, home_width, IsLocationOf}
use Rattle.horn_rules.specs.Fact.{IsAtomOf, IsSetOf}
use Rattle.horn_rules.specs.Instance.{Init, Own, Guar, Env as Environment}
use Rattle.horn_rules.specs.Case.{init_case, own_case, guar_case, env_case, init, own, guar, env}
use Rattle.horn_rules.specs.Stored.{instance_of}
use Rattle.horn_rules.specs.Job.{premise_says, IsPremise, IsJob}
use Rattle.abstract_post.specs.inside.Worked.{IsAtomSetOver}

pub first_below : (n : ℕ) → 0 < n → 1 < 2 ^ n
first_below n some = let less : 2 ^ 0 < 2 ^ n = pow-lt some in omega arith

set-is : (program : Program) (home : Home) (atoms : List Row) (n : ℕ) → n ≡ home_width (length program.columns) home → IsAtomSetOver n atoms → IsSetOf program home atoms
set-is program home atoms n wide is = record {
  are_atoms = AllByRecursion-weaken (λ atom. IsAtom atom × (length atom.coefficients ≡ n)) (IsAtomOf program home) (λ atom h. record { is_atom = h.0; one_each = h.1 ∙ wide }) atoms is.are_atoms;
  none_twice = is.distinct;
}

-- what is known of a premise of the tests
pub record IsWorked (program : Program) (premise : Premise) (home : Home) : Type 0 where
  pub id_is : premise.id.0 ≡ 1
  pub home_is : at_number (homes program) premise.fact.home.0 ≡ Some home
  pub set_is : IsSetOf program home premise.set.value
  pub within : premise.fact.held < 2 ^ length premise.set.value

pub worked-premise : (program : Program) (premise : Premise) (home : Home) (k n : ℕ) → program ≡ worked_program → premise.id.0 ≡ 1 → premise.fact.home.0 ≡ k → at_number (homes worked_program) k ≡ Some home
    → n ≡ home_width (length program.columns) home → (set : List Row) → premise.set.value ≡ set → IsAtomSetOver n set → premise.fact.held < 2 ^ length premise.set.value → IsWorked program premise home
worked-premise program premise home k n worked id at there wide set same is within = record {
  id_is = id;
  home_is = rw (worked, at) there;
  set_is = subst (IsSetOf program home) (sym same) (set-is program home set n wide is);
  within = within;
}

is-there : (o : Option Home) (home : Home) → o ≡ Some home → IsSome o
is-there None home at = cc
is-there (Some found) home at = refl

found-there : (o : Option Home) (home : Home) → o ≡ Some home → unwrap_or o (State 0 0) ≡ home
found-there None home at = cc
found-there (Some found) home at = cc

stands : (program : Program) (premise : Premise) (home : Home) → IsWorked program premise home → (premise_says program premise).home ≡ home
stands program premise home is = found-there (at_number (homes program) premise.fact.home.0) home is.home_is

fits : (program : Program) (premise : Premise) (home : Home) → IsWorked program premise home → IsPremise program premise
fits program premise home is = record {
  has_home = is-there (at_number (homes program) premise.fact.home.0) home is.home_is;
  set_is = subst (λ h. IsSetOf program h premise.set.value) (sym (stands program premise home is)) is.set_is;
  held_within = is.within;
}

second-edge : (program : Program) (e : EdgeNo) → program ≡ worked_program → e.0 ≡ 1 → IsEdgeOf program 2 e.0 (worked_thread 3 second_edge) second_edge
second-edge program e worked one = rw (worked, one) (record { thread_is = refl; edge_is = refl })

pub start-job : (program : Program) (job : Job) (i : ThreadNo) → program ≡ worked_program → job.instance ≡ stored.Init i → i.0 ≡ 1 → job.first ≡ None → job.second ≡ None
    → job.home.0 ≡ 2 → IsAtomSetOver (length program.columns) job.target.value → IsJob program job
start-job program job i worked instance_is one first_is second_is home_is target_is =
    let there : IsThreadOf program i.0 (worked_thread 2 first_edge) = rw (worked, one) refl in
    let target : at_number (homes program) job.home.0 ≡ Some (State i.0 1) = rw (worked, home_is, one) refl in (
      init_case program i.0,
      record {
        instance = Init i.0;
        instance_is = record { ids_are = sym (ap instance_of instance_is); first_is = first_is; second_is = second_is };
        is_case = init i.0 (worked_thread 2 first_edge) there;
        premises_are = tt;
        home_is = target;
        target_is = set-is program (State i.0 1) job.target.value (length program.columns) refl target_is;
      },
    )

pub own-job : (program : Program) (job : Job) (id : FactId) (e : EdgeNo) (p : Premise) → program ≡ worked_program → job.instance ≡ stored.Own id e → id.0 ≡ 1 → e.0 ≡ 1 → job.first ≡ Some p → job.second ≡ None
    → IsWorked program p (State 2 1) → job.home.0 ≡ 6 → IsAtomSetOver (length program.columns) job.target.value → IsJob program job
own-job program job id e p worked instance_is first one first_is second_is is home_is target_is =
    let thread = worked_thread 3 second_edge in (
      own_case program 2 thread second_edge (premise_says program p),
      record {
        instance = Own p e.0;
        instance_is = record { ids_are = ap (λ n. Own n e.0) (is.id_is ∙ sym first) ∙ sym (ap instance_of instance_is); first_is = first_is; second_is = second_is };
        is_case = own 2 e.0 thread second_edge (premise_says program p) (second-edge program e worked one) (stands program p (State 2 1) is);
        premises_are = (fits program p (State 2 1) is, tt);
        home_is = rw (worked, home_is) refl;
        target_is = set-is program (State 2 2) job.target.value (length program.columns) refl target_is;
      },
    )

pub guar-job : (program : Program) (job : Job) (id : FactId) (e : EdgeNo) (p : Premise) → program ≡ worked_program → job.instance ≡ stored.Guar id e → id.0 ≡ 1 → e.0 ≡ 1 → job.first ≡ Some p → job.second ≡ None
    → IsWorked program p (State 2 1) → job.home.0 ≡ 8 → IsAtomSetOver (length program.columns + length program.columns) job.target.value → IsJob program job
guar-job program job id e p worked instance_is first one first_is second_is is home_is target_is =
    let thread = worked_thread 3 second_edge in
    let target : at_number (homes program) job.home.0 ≡ Some (Env 2 e.0) = rw (worked, home_is, one) refl in (
      guar_case program 2 e.0 thread second_edge (premise_says program p),
      record {
        instance = Guar p e.0;
        instance_is = record { ids_are = ap (λ n. Guar n e.0) (is.id_is ∙ sym first) ∙ sym (ap instance_of instance_is); first_is = first_is; second_is = second_is };
        is_case = guar 2 e.0 thread second_edge (premise_says program p) (second-edge program e worked one) (stands program p (State 2 1) is);
        premises_are = (fits program p (State 2 1) is, tt);
        home_is = target;
        target_is = set-is program (Env 2 e.0) job.target.value (length program.columns + length program.columns) refl target_is;
      },
    )

pub env-job : (program : Program) (job : Job) (id told : FactId) (p q : Premise) → program ≡ worked_program → job.instance ≡ stored.Env id told → id.0 ≡ 1 → told.0 ≡ 1 → job.first ≡ Some p → job.second ≡ Some q
    → IsWorked program p (State 1 1) → IsWorked program q (Env 2 1) → job.home.0 ≡ 2 → IsAtomSetOver (length program.columns) job.target.value → IsJob program job
env-job program job id told p q worked instance_is first second first_is second_is stays steps home_is target_is =
    let other = worked_thread 2 first_edge in
    let thread = worked_thread 3 second_edge in
    let f = premise_says program p in
    let t = premise_says program q in
    let there : IsLocationOf program 1 1 other = rw worked (record { thread_is = refl; within = omega arith }) in
    let edge_at : IsEdgeOf program 2 1 thread second_edge = rw worked (record { thread_is = refl; edge_is = refl }) in (
      env_case program 1 1 other thread second_edge f t,
      record {
        instance = Environment p q;
        instance_is = record {
          ids_are = ap₂ (λ a b. Environment a b) (stays.id_is ∙ sym first) (steps.id_is ∙ sym second) ∙ sym (ap instance_of instance_is);
          first_is = first_is;
          second_is = second_is;
        };
        is_case = env 1 1 2 1 other thread second_edge f t (λ e. omega arith) there edge_at (stands program p (State 1 1) stays) (stands program q (Env 2 1) steps);
        premises_are = (fits program p (State 1 1) stays, (fits program q (Env 2 1) steps, tt));
        home_is = rw (worked, home_is) refl;
        target_is = set-is program (State 1 1) job.target.value (length program.columns) refl target_is;
      },
    )
