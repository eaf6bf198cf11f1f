-- The instances of a run, kind by kind.
use Rattle.std.proofs.Common.{◌≡◌, ◌≢◌, ℕ, suc, ◌-◌, ◌^◌, ◌<◌, ◌==◌, Bool, true, false, not, List, [], ◌∷◌, length, map, get_or, unwrap_or, option_map, Option, Some, None, Result, Ok, Err, IsSome, IfOk, refl, sym, ap, subst, ◌∙◌, arith, inl, inr}
use Rattle.std.specs.List.{Contains}
use Rattle.std.proofs.lemmas.Bool.Decides.{eqb_tells}
use Rattle.std.proofs.lemmas.List.FromFn.{length-map-range_with_len}
use Rattle.thr_base.specs.declared.names.Instance.TheVariants.{Init, Own, Guar, Env as Environment}
use Rattle.thr_base.specs.declared.names.ThreadNo.{ThreadNo}
use Rattle.thr_base.specs.declared.names.EdgeNo.{EdgeNo}
use Rattle.thr_base.specs.declared.names.FactId.{FactId}
use Rattle.thr_base.specs.declared.names.Fact.{Fact as StoredFact}
use Rattle.thr_base.specs.declared.limits.Limits.{Limits}
use Rattle.lin_rows.specs.Row.{Row}
use Rattle.predicate_sets.specs.Sets.{HasHome, set_at}
use Rattle.transition_formula.specs.Program.{Program, Thread, Edge, at_number, IsProgram, IsEdge, IsEdgeOf}
use Rattle.transition_formula.specs.Stored.{edge_of}
use Rattle.transition_formula.specs.declared.graph.Edge.{Edge as StoredEdge}
use Rattle.transition_formula.proofs.Lookups.{numbered-mapped, AllByRecursion-numbered}
use Rattle.transition_formula.proofs.Lookups as lookups
use Rattle.horn_rules.specs.declared.job.Premise.{Premise}
use Rattle.horn_rules.specs.Home.{Home, State, Env, homes, IsHomeOf}
use Rattle.horn_rules.specs.Fact.{Fact, IsSetOf}
use Rattle.horn_rules.specs.Case.{init_case}
use Rattle.horn_rules.specs.Job.{IsPremise}
use Rattle.thr_base.specs.Held.{positions}
use Rattle.serial_fix.specs.inside.Cases.{own_case, guar_case, env_case}
use Rattle.serial_fix.specs.inside.Jobs.{Says, init, own, guar, env}
use Rattle.horn_rules.specs.Stored.{sets_of, fact_of, home_numbered, HasItsHome}
use Rattle.horn_rules.proofs.Numbers.{state_home-place, env_home-place, home-numbered}
use Rattle.horn_rules.proofs.HomesThere.{location-home, place-location}
use Rattle.std.proofs.lemmas.List.{length-map}
use Rattle.serial_fix.specs.inside.Found.{FoundFacts}
use Rattle.horn_rules.specs.Instances.{tells_another}
use Rattle.serial_fix.specs.inside.Run.{IsStored, IsRun, IsInstance, InstanceIsSettled, StartIsSettled, HasEdge, IsFrom, OwnIsSettled, GuarIsSettled, PairIsSettled, IsStep}
use Rattle.serial_fix.specs.declared.step.Step.{Step}
use Rattle.serial_fix.specs.declared.step.Step.TheVariants.{Done, Stopped}
use Rattle.horn_rules.proofs.Lists.{all-contained, Contains-map}
use Rattle.serial_fix.proofs.Jobs.{target-set}
use Rattle.lin_rows.proofs.Lists.{slice_get-there}

-- ---- homes that are there

pub some-is : {A : Type 0} (o : Option A) → IsSome o → (x : A) × (o ≡ Some x)
some-is None h = cc
some-is (Some x) h = (x, refl)

pub target-home : (program : Program) (i e : ℕ) (thread : Thread) (edge : Edge) → IsProgram program → IsEdgeOf program i e thread edge → IsHomeOf program (State i edge.to)
target-home program i e thread edge is at =
    let fits : IsEdge program thread edge = AllByRecursion-numbered (IsEdge program thread) thread.edges e edge (is.threads_are i thread at.thread_is).edges_are at.edge_is in
    location-home program i edge.to thread (record { thread_is = at.thread_is; within = fits.to_location })

pub start-home : (program : Program) (i : ℕ) → IsProgram program → IsSome (at_number program.threads i) → IsHomeOf program (State i 1)
start-home program i is some =
    let (thread, at) = some-is (at_number program.threads i) some in
    location-home program i 1 thread (record { thread_is = at; within = (is.threads_are i thread at).has_start })

-- ---- edges in the code

edges-are : (program : Program) (i e : ℕ) (edges : List StoredEdge) (thread : Thread) (edge : Edge) → option_map (λ (t : Thread). t.edges) (at_number program.threads i) ≡ Some (map edge_of edges)
    → IsEdgeOf program i e thread edge → at_number (map edge_of edges) e ≡ Some edge
edges-are program i e edges thread edge got is =
    let here : Some thread.edges ≡ Some (map edge_of edges) = sym (ap (option_map (λ (t : Thread). t.edges)) is.thread_is) ∙ got in
    let same : thread.edges ≡ map edge_of edges = cc in
    ap (λ l. at_number l e) (sym same) ∙ is.edge_is

pub edge-within : (program : Program) (i e : ℕ) (edges : List StoredEdge) → HasEdge program i e → option_map (λ (t : Thread). t.edges) (at_number program.threads i) ≡ Some (map edge_of edges) → e - 1 < length edges
edge-within program i e edges (thread, edge, is) got =
    let within = lookups.numbered-within (map edge_of edges) e edge (edges-are program i e edges thread edge got is) in
    omega (arith, within.0, within.1, length-map edges edge_of)

pub edge-is : (program : Program) (i e : ℕ) (edges : List StoredEdge) (x : StoredEdge) → option_map (λ (t : Thread). t.edges) (at_number program.threads i) ≡ Some (map edge_of edges)
    → x ≡ get_or edges (e - 1) x → (thread : Thread) (edge : Edge) → IsEdgeOf program i e thread edge → edge_of x ≡ edge
edge-is program i e edges x got at thread edge is =
    let one = edges-are program i e edges thread edge got is in
    let other = numbered-mapped edge_of edges e x (subst (λ o. IsSome o) (sym one) refl) at in
    let both : Some (edge_of x) ≡ Some edge = sym other ∙ one in
    cc

-- ---- a fact that was found, as a premise

known-home : (program : Program) (stored : StoredFact) → HasItsHome program stored → at_number (homes program) stored.home.0 ≡ Some (fact_of program stored).home
known-home program stored has = of-option (at_number (homes program) stored.home.0) has
  where
    of-option : (o : Option Home) → IsSome o → o ≡ Some (unwrap_or o (State 0 0))
    of-option None h = cc
    of-option (Some x) h = refl

pub found-stored : (program : Program) (lists : List (List Row)) (found : FoundFacts) (stored : StoredFact) → IsRun program lists found → Contains found.facts stored → IsStored program lists stored
found-stored program lists found stored run there = all-contained (IsStored program lists) found.facts stored run.facts_are there

pub found-number : (program : Program) (lists : List (List Row)) (found : FoundFacts) (stored : StoredFact) → IsRun program lists found → Contains found.facts stored
    → at_number (homes program) stored.home.0 ≡ Some (fact_of program stored).home
found-number program lists found stored run there = known-home program stored (found-stored program lists found stored run there).has_home

pub found-home : (program : Program) (lists : List (List Row)) (found : FoundFacts) (stored : StoredFact) → IsRun program lists found → Contains found.facts stored → HasHome lists stored.home.0
found-home program lists found stored run there =
    let within = lookups.numbered-within (homes program) stored.home.0 (fact_of program stored).home (found-number program lists found stored run there) in
    (within.0, omega (arith, within.1, run.lists_are.one_each))

-- the premise is made of the fact
pub record IsPremiseOf (lists : List (List Row)) (stored : StoredFact) (id : FactId) (premise : Premise) : Type 0 where
  pub id_is : premise.id ≡ id
  pub fact_is : premise.fact ≡ stored
  pub set_is : premise.set.value ≡ set_at lists stored.home.0

says : (program : Program) (lists : List (List Row)) (found : FoundFacts) (stored : StoredFact) (id : FactId) (premise : Premise) → IsRun program lists found → Contains found.facts stored
    → IsPremiseOf lists stored id premise → Says program (sets_of program lists) id premise (fact_of program stored)
says program lists found stored id premise run there is =
    let at = found-number program lists found stored run there in
    record {
      id_is = is.id_is;
      home_is = ap (λ (f : StoredFact). at_number (homes program) f.home.0) is.fact_is ∙ at;
      set_is = target-set program lists stored.home.0 (fact_of program stored).home run.lists_are at ∙ sym is.set_is;
      held_is = ap (λ (f : StoredFact). positions f.held) (sym is.fact_is);
    }

is-premise : (program : Program) (lists : List (List Row)) (found : FoundFacts) (stored : StoredFact) (id : FactId) (premise : Premise) → IsRun program lists found → Contains found.facts stored
    → IsPremiseOf lists stored id premise → IsPremise program premise
is-premise program lists found stored id premise run there is =
    let at = found-number program lists found stored run there in
    let kept = found-stored program lists found stored run there in
    record {
      has_home = subst (λ (f : StoredFact). HasItsHome program f) (sym is.fact_is) kept.has_home;
      set_is = subst (λ (f : StoredFact). IsSetOf program (home_numbered program f.home.0) premise.set.value) (sym is.fact_is)
          (subst (IsSetOf program (fact_of program stored).home) (sym is.set_is) (run.lists_are.sets_are stored.home.0 (fact_of program stored).home at));
      held_within = subst (λ (f : StoredFact). f.held < 2 ^ length premise.set.value) (sym is.fact_is)
          (subst (λ l. stored.held < 2 ^ length l) (sym is.set_is) kept.within);
    }

-- it is the fact of its number
premise-at : {lists : List (List Row)} (facts : List StoredFact) (stored : StoredFact) (id : FactId) (premise : Premise) → at_number facts id.0 ≡ Some stored → IsPremiseOf lists stored id premise
    → at_number facts premise.id.0 ≡ Some premise.fact
premise-at facts stored id premise number is = ap (λ (n : FactId). at_number facts n.0) is.id_is ∙ number ∙ ap Some (sym is.fact_is)

-- ---- the instances

pub start-instance : (program : Program) (lists : List (List Row)) (found : List StoredFact) (i : ThreadNo) (home : ℕ) → IsSome (at_number program.threads i.0)
    → at_number (homes program) home ≡ Some (State i.0 1) → IsInstance program lists found (Init i) None None home
start-instance program lists found i home some at =
    let (thread, is) = some-is (at_number program.threads i.0) some in
    record { premises = []; given = init_case program i.0; is_case = init i thread is; home_is = at; stand = tt; first_is = tt; second_is = tt; first_at = tt; second_at = tt }

pub own-instance : (program : Program) (lists : List (List Row)) (found : FoundFacts) (stored : StoredFact) (id : FactId) (i : ℕ) (e : EdgeNo) (premise : Premise) (home to : ℕ)
    → IsRun program lists found → Contains found.facts stored → at_number found.facts id.0 ≡ Some stored → IsPremiseOf lists stored id premise → IsFrom program i e.0 (fact_of program stored)
    → ((thread : Thread) (edge : Edge) → IsEdgeOf program i e.0 thread edge → to ≡ edge.to)
    → at_number (homes program) home ≡ Some (State i to) → IsInstance program lists found.facts (Own id e) (Some premise) None home
own-instance program lists found stored id i e premise home to run there number is from ends at = record {
  premises = fact_of program stored ∷ [];
  given = own_case program (sets_of program lists) i from.thread from.edge (fact_of program stored);
  is_case = own id e premise i from.thread from.edge (fact_of program stored) (says program lists found stored id premise run there is) from.edge_is from.at;
  home_is = at ∙ ap (λ l. Some (State i l)) (ends from.thread from.edge from.edge_is);
  stand = (Contains-map (fact_of program) found.facts stored there, tt);
  first_is = is-premise program lists found stored id premise run there is;
  second_is = tt;
  first_at = premise-at found.facts stored id premise number is;
  second_at = tt;
}

pub guar-instance : (program : Program) (lists : List (List Row)) (found : FoundFacts) (stored : StoredFact) (id : FactId) (i : ℕ) (e : EdgeNo) (premise : Premise) (home : ℕ)
    → IsRun program lists found → Contains found.facts stored → at_number found.facts id.0 ≡ Some stored → IsPremiseOf lists stored id premise → IsFrom program i e.0 (fact_of program stored)
    → at_number (homes program) home ≡ Some (Env i e.0) → IsInstance program lists found.facts (Guar id e) (Some premise) None home
guar-instance program lists found stored id i e premise home run there number is from at = record {
  premises = fact_of program stored ∷ [];
  given = guar_case program (sets_of program lists) i e.0 from.thread from.edge (fact_of program stored);
  is_case = guar id e premise i from.thread from.edge (fact_of program stored) (says program lists found stored id premise run there is) from.edge_is from.at;
  home_is = at;
  stand = (Contains-map (fact_of program) found.facts stored there, tt);
  first_is = is-premise program lists found stored id premise run there is;
  second_is = tt;
  first_at = premise-at found.facts stored id premise number is;
  second_at = tt;
}

-- ---- what is settled

pub if-step : {E : Type 0} (program : Program) (lists : List (List Row)) (limits : Limits) (old new : FoundFacts) (upto : ℕ) (P Q : List StoredFact → Type 0) (made : Result Step E)
    → IfOk made (IsStep program lists limits old new upto P) → (P new.facts → Q new.facts) → IfOk made (IsStep program lists limits old new upto Q)
if-step program lists limits old new upto P Q (Ok Done) is then = (is.0, is.1, then is.2, is.3)
if-step program lists limits old new upto P Q (Ok (Stopped ending)) is then = is
if-step program lists limits old new upto P Q (Err e) is then = tt

pub start-settled : (program : Program) (lists : List (List Row)) (found : List StoredFact) (i : ThreadNo) (home : ℕ) → IsSome (at_number program.threads i.0)
    → at_number (homes program) home ≡ Some (State i.0 1) → InstanceIsSettled program lists (Init i) None None home found → StartIsSettled program lists i.0 found
start-settled program lists found i home some at settled =
    let (thread, is) = some-is (at_number program.threads i.0) some in
    settled [] (init_case program i.0) (init i thread is) at

pub own-settled : (program : Program) (lists : List (List Row)) (old new : FoundFacts) (stored : StoredFact) (id : FactId) (i : ℕ) (e : EdgeNo) (premise : Premise) (home to : ℕ)
    → IsRun program lists old → Contains old.facts stored → IsPremiseOf lists stored id premise
    → ((thread : Thread) (edge : Edge) → IsEdgeOf program i e.0 thread edge → to ≡ edge.to)
    → at_number (homes program) home ≡ Some (State i to) → InstanceIsSettled program lists (Own id e) (Some premise) None home new.facts → OwnIsSettled program lists i e.0 (fact_of program stored) new.facts
own-settled program lists old new stored id i e premise home to run there is ends at settled thread edge edge_is from =
    settled (fact_of program stored ∷ []) (own_case program (sets_of program lists) i thread edge (fact_of program stored))
    (own id e premise i thread edge (fact_of program stored) (says program lists old stored id premise run there is) edge_is from)
    (at ∙ ap (λ l. Some (State i l)) (ends thread edge edge_is))

pub guar-settled : (program : Program) (lists : List (List Row)) (old new : FoundFacts) (stored : StoredFact) (id : FactId) (i : ℕ) (e : EdgeNo) (premise : Premise) (home : ℕ)
    → IsRun program lists old → Contains old.facts stored → IsPremiseOf lists stored id premise
    → at_number (homes program) home ≡ Some (Env i e.0) → InstanceIsSettled program lists (Guar id e) (Some premise) None home new.facts → GuarIsSettled program lists i e.0 (fact_of program stored) new.facts
guar-settled program lists old new stored id i e premise home run there is at settled thread edge edge_is from =
    settled (fact_of program stored ∷ []) (guar_case program (sets_of program lists) i e.0 thread edge (fact_of program stored))
    (guar id e premise i thread edge (fact_of program stored) (says program lists old stored id premise run there is) edge_is from) at

-- ---- pairs

-- what two homes are at, where the second tells of another thread
pub data AreApart : Home → Home → Type 0 where
  apart : (k l i e : ℕ) → k ≢ i → AreApart (State k l) (Env i e)

pub are-apart : (one told : Home) → tells_another one told ≡ true → AreApart one told
are-apart (State k l) (Env i e) test = elim (eqb_tells k i) [
  | inl (same, is) ↦ let no : not (k == i) ≡ false = ap not same in cc
  | inr (differ, are) ↦ apart k l i e are
]
are-apart (State k l) (State i m) test = cc
are-apart (Env k e) (State i l) test = cc
are-apart (Env k e) (Env i g) test = cc

pub pair-vacuous : (program : Program) (lists : List (List Row)) (found : List StoredFact) (f t : Fact) → tells_another f.home t.home ≡ false → PairIsSettled program lists f t found
pair-vacuous program lists found f t test k l i e other thread edge differ there at home_f home_t =
    let both : tells_another (State k l) (Env i e) ≡ false = sym (ap (λ h. tells_another h t.home) home_f ∙ ap (tells_another (State k l)) home_t) ∙ test in
    elim (eqb_tells k i) [
      | inl (same, is) ↦ absurd (differ is)
      | inr (apart_, are) ↦ let yes_ : not (k == i) ≡ true = ap not apart_ in cc
    ]

env-of : (program : Program) (lists : List (List Row)) (found : FoundFacts) (one told : StoredFact) (id other_id : FactId) (first second : Premise) (home_f home_t : Home)
    → IsRun program lists found → Contains found.facts one → Contains found.facts told → at_number found.facts id.0 ≡ Some one → at_number found.facts other_id.0 ≡ Some told
    → IsPremiseOf lists one id first → IsPremiseOf lists told other_id second → (fact_of program one).home ≡ home_f → (fact_of program told).home ≡ home_t → IsHomeOf program home_f → IsHomeOf program home_t → AreApart home_f home_t
    → IsInstance program lists found.facts (Environment id other_id) (Some first) (Some second) one.home.0
env-of program lists found one told id other_id first second home_f home_t run there_f there_t number_f number_t is_f is_t at_f at_t has_f has_t (apart k l i e differ) =
    let place = state_home-place program k l has_f in
    let (from_1, edge_place) = env_home-place program i e has_t in
    let inside : e - 1 < length edge_place.thread.edges = omega (arith, edge_place.within, length-map-range_with_len (Env i) 1 (length edge_place.thread.edges)) in
    let (edge, here) = slice_get-there edge_place.thread.edges (e - 1) inside in
    let number : e ≡ suc (e - 1) = omega arith in
    let edge_is : IsEdgeOf program i e edge_place.thread edge = record { thread_is = edge_place.thread_is; edge_is = ap (at_number edge_place.thread.edges) number ∙ here } in
    record {
      premises = fact_of program one ∷ fact_of program told ∷ [];
      given = env_case program (sets_of program lists) k l place.thread edge_place.thread edge (fact_of program one) (fact_of program told);
      is_case = env id other_id first second k l i e place.thread edge_place.thread edge (fact_of program one) (fact_of program told)
          (says program lists found one id first run there_f is_f) (says program lists found told other_id second run there_t is_t) differ (place-location program k l place) edge_is at_f at_t;
      home_is = found-number program lists found one run there_f ∙ ap Some at_f;
      stand = (Contains-map (fact_of program) found.facts one there_f, (Contains-map (fact_of program) found.facts told there_t, tt));
      first_is = is-premise program lists found one id first run there_f is_f;
      second_is = is-premise program lists found told other_id second run there_t is_t;
      first_at = premise-at found.facts one id first number_f is_f;
      second_at = premise-at found.facts told other_id second number_t is_t;
    }

pub env-instance : (program : Program) (lists : List (List Row)) (found : FoundFacts) (one told : StoredFact) (id other_id : FactId) (first second : Premise)
    → IsRun program lists found → Contains found.facts one → Contains found.facts told → at_number found.facts id.0 ≡ Some one → at_number found.facts other_id.0 ≡ Some told
    → IsPremiseOf lists one id first → IsPremiseOf lists told other_id second → tells_another (fact_of program one).home (fact_of program told).home ≡ true
    → IsInstance program lists found.facts (Environment id other_id) (Some first) (Some second) one.home.0
env-instance program lists found one told id other_id first second run there_f there_t number_f number_t is_f is_t test =
    env-of program lists found one told id other_id first second (fact_of program one).home (fact_of program told).home run there_f there_t number_f number_t is_f is_t refl refl
    (home-numbered program one.home.0 (fact_of program one).home (found-number program lists found one run there_f))
    (home-numbered program told.home.0 (fact_of program told).home (found-number program lists found told run there_t))
    (are-apart (fact_of program one).home (fact_of program told).home test)

pub pair-settled : (program : Program) (lists : List (List Row)) (old new : FoundFacts) (one told : StoredFact) (id other_id : FactId) (first second : Premise)
    → IsRun program lists old → Contains old.facts one → Contains old.facts told → IsPremiseOf lists one id first → IsPremiseOf lists told other_id second
    → InstanceIsSettled program lists (Environment id other_id) (Some first) (Some second) one.home.0 new.facts → PairIsSettled program lists (fact_of program one) (fact_of program told) new.facts
pair-settled program lists old new one told id other_id first second run there_f there_t is_f is_t settled k l i e other thread edge differ there at home_f home_t =
    settled (fact_of program one ∷ fact_of program told ∷ []) (env_case program (sets_of program lists) k l other thread edge (fact_of program one) (fact_of program told))
    (env id other_id first second k l i e other thread edge (fact_of program one) (fact_of program told)
    (says program lists old one id first run there_f is_f) (says program lists old told other_id second run there_t is_t) differ there at home_f home_t)
    (found-number program lists old one run there_f ∙ ap Some home_f)

-- the homes that the code names are those of the facts
pub same-test : (program : Program) (lists : List (List Row)) (found : FoundFacts) (one told : StoredFact) (home_one home_told : Home) (r : Bool)
    → IsRun program lists found → Contains found.facts one → Contains found.facts told
    → at_number (homes program) one.home.0 ≡ Some home_one → at_number (homes program) told.home.0 ≡ Some home_told
    → r ≡ tells_another home_one home_told → r ≡ tells_another (fact_of program one).home (fact_of program told).home
same-test program lists found one told home_one home_told r run there_one there_told at_one at_told is =
    let first : Some home_one ≡ Some (fact_of program one).home = sym at_one ∙ found-number program lists found one run there_one in
    let second : Some home_told ≡ Some (fact_of program told).home = sym at_told ∙ found-number program lists found told run there_told in
    let same : home_one ≡ (fact_of program one).home = cc in
    let alike : home_told ≡ (fact_of program told).home = cc in
    is ∙ ap (λ h. tells_another h home_told) same ∙ ap (tells_another (fact_of program one).home) alike
