-- The starts of a program, one after another by thread.
use Rattle.std.proofs.Common.{◌≡◌, ℕ, zero, suc, ◌+◌, ◌<◌, ◌≤◌, ◌⊎◌, inl, inr, List, [], ◌∷◌, ◌++◌, length, refl, sym, ◌∙◌, subst, arith}
use Rattle.std.specs.List.{Contains, slice_get}
use Rattle.std.specs.Option.{IsSome}
use Rattle.std.proofs.lemmas.List.Elements.{Contains-append_left, Contains-append_right, Contains-append_cases}
use Rattle.instance_cursors.specs.declared.start.Start.{Start as StartOf}
use Rattle.transition_formula.specs.Program.{Program, Thread, IsProgram, at_number}
use Rattle.horn_rules.specs.Home.{State, IsHomeOf}
use Rattle.horn_rules.specs.Laws.{LocationsAreHomes}
use Rattle.horn_rules.proofs.Lists.{first-or-later, contains-nothing}
use Rattle.pending_instances.specs.Layout.{AreStartsSeen, NoneIsTaken}
use Rattle.pending_instances.specs.inside.Making.{IsStartOf}
use Rattle.pending_instances.proofs.Edges.{end_home, some_numbered}
use Rattle.pending_instances.proofs.Seen.{some_of}

-- Exactly the starts of threads up to a number stand in the list.
pub record AreStartsUpTo (program : Program) (last : ℕ) (starts : List StartOf) : Type 0 where
  pub are : (start : StartOf) → Contains starts start → IsStartOf program start.thread.0 start × IsSome (at_number program.threads start.thread.0)
  pub all : (i : ℕ) → 0 < i → i ≤ last → (start : StartOf) × Contains starts start × (start.thread.0 ≡ i)

pub no_starts : (program : Program) → AreStartsUpTo program 0 []
no_starts program = record { are = λ start has. absurd (contains-nothing start has); all = λ i above low. absurd (omega arith) }

at_most : (n last : ℕ) → n ≤ last + 1 → (n ≤ last) ⊎ (n ≡ last + 1)
at_most n last low = grind arith

pub one_more_start : (program : Program) (last : ℕ) (start : StartOf) (starts later : List StartOf) → AreStartsUpTo program last starts → last < length program.threads → IsStartOf program (last + 1) start
    → later ≡ starts ++ start ∷ [] → AreStartsUpTo program (last + 1) later
one_more_start program last start starts later are below is more =
    let Known : StartOf → Type 0 = λ s. IsStartOf program s.thread.0 s × IsSome (at_number program.threads s.thread.0) in
    let Start_at : ℕ → Type 0 = λ n. IsStartOf program n start × IsSome (at_number program.threads n) in
    let own : Known start = subst Start_at (sym is.thread_is) (is, some_numbered program.threads last below) in
    let Up_to : List StartOf → Type 0 = λ list. AreStartsUpTo program (last + 1) list in
    subst Up_to (sym more) (record {
      are = λ s has. elim (Contains-append_cases starts (start ∷ []) s has) [
        | inl before ↦ are.are s before
        | inr behind ↦ elim (first-or-later start s [] behind) [
          | inl same ↦ subst Known same own
          | inr none ↦ absurd (contains-nothing s none)
        ]
      ];
      all = λ i above low. elim (at_most i last low) [
        | inl before ↦ let found = are.all i above before in (found.0, Contains-append_left starts (start ∷ []) found.0 found.1, found.2)
        | inr same ↦ (start, Contains-append_right starts (start ∷ []) start (0, omega arith, refl), is.thread_is ∙ sym same)
      ];
    })

within : (threads : List Thread) (i : ℕ) → IsSome (at_number threads i) → (0 < i) × (i ≤ length threads)
within threads zero is = cc
within threads (suc k) is = (omega arith, below threads k is)
  where
    below : (xs : List Thread) (k : ℕ) → IsSome (slice_get xs k) → suc k ≤ length xs
    below [] k is = cc
    below (x ∷ xs) zero is = omega arith
    below (x ∷ xs) (suc k) is = let more = below xs k is in omega (arith, more)

pub starts_seen : (program : Program) (starts : List StartOf) → AreStartsUpTo program (length program.threads) starts → AreStartsSeen program starts
starts_seen program starts are = record {
  are = λ start has. (are.are start has).1;
  homes_are = λ start has. (are.are start has).0.home_is;
  all = λ i there. let number = within program.threads i there in are.all i number.0 number.1;
}

pub none_taken : (program : Program) (last : ℕ) (starts : List StartOf) → AreStartsUpTo program last starts → NoneIsTaken starts
none_taken program last starts are start has = (are.are start has).0.not_taken

-- a thread's first location is a home
pub start_home : LocationsAreHomes → (program : Program) (i : ℕ) → IsProgram program → IsSome (at_number program.threads i) → IsHomeOf program (State i 1)
start_home are_homes program i is there =
    let thread = some_of (at_number program.threads i) there in
    let many = (is.threads_are i thread.0 thread.1).has_start in
    end_home are_homes program i 1 thread.0 thread.1 (omega (arith, many))
