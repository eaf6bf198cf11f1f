-- The numbers of a program's homes are ones that the code holds.
use Rattle.std.proofs.Common.{ℕ, zero, suc, ◌<◌, ◌^◌, length, arith}
use Rattle.std.proofs.lemmas.Option.{slice_get_within}
use Rattle.std.proofs.lemmas.List.FromFn.{length-map-range_with_len}
use Rattle.transition_formula.specs.Program.{Program, Thread, IsThreadOf, IsProgram}
use Rattle.horn_rules.specs.Home.{Home, State, Env, IsHomeOf}
use Rattle.horn_rules.proofs.Numbers.{state_home-place, env_home-place}
use Rattle.annotation_form.specs.inside.Reading.{IsSmall}

small-thread : (program : Program) (i : ℕ) (thread : Thread) → IsProgram program → IsThreadOf program i thread → i < 2 ^ 32
small-thread program zero thread is at = omega arith
small-thread program (suc k) thread is at = omega (arith, is.few_threads, slice_get_within program.threads k thread at)

pub home-small : (program : Program) (home : Home) → IsProgram program → IsHomeOf program home → IsSmall home
home-small program (State i l) is has =
    let place = state_home-place program i l has in
    (small-thread program i place.thread is place.thread_is, omega (arith, place.within, length-map-range_with_len (State i) 0 place.thread.locations, (is.threads_are i place.thread place.thread_is).few_locations))
home-small program (Env i e) is has =
    let there = env_home-place program i e has in
    let place = there.1 in
    (small-thread program i place.thread is place.thread_is, omega (arith, there.0, place.within, length-map-range_with_len (Env i) 1 (length place.thread.edges), (is.threads_are i place.thread place.thread_is).few_edges))
