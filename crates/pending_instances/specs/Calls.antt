-- What the calls of a value that tells which instances are pending answer, said of the program.
use Rattle.std.specs.Prelude.{◌≡◌, ◌≢◌, ◌↔◌, ◌⊎◌, ℕ, ◌+◌, Bool, List, [], ◌∷◌, ◌++◌, filter, Some}
use Rattle.std.specs.List.{Contains}
use Rattle.thr_base.specs.declared.names.RuleName.{RuleName}
use Rattle.thr_base.specs.declared.names.HomeNo.{HomeNo}
use Rattle.thr_base.specs.declared.names.Instance.{Instance}
use Rattle.transition_formula.specs.Program.{Program}
use Rattle.horn_rules.specs.Home.{Home}
use Rattle.horn_rules.specs.Stored.{home_numbered}
use Rattle.fact_table.specs.declared.live_fact.LiveFact.{LiveFact}
use Rattle.fact_table.specs.Live.{premises_of}
use Rattle.fact_table.specs.Table.{FactTable}
use Rattle.instance_cursors.specs.declared.choosing.Next.{Next}
pub use Rattle.instance_cursors.specs.Waiting.{Waiting, IsOpen, NoneIsOpen}
use Rattle.pending_instances.specs.Open.{IsTarget, Leads, target_in}
pub use Rattle.pending_instances.specs.Pending.{IsFor, IsTargetAmong, thread_of_home}

-- It is open, with the number of its target; and it leads to a home of the thread, unless nothing that does is open.
pub record IsNext (thread : ℕ) (waiting : Waiting) (next : Next) : Type 0 where
  pub is_open : IsOpen waiting next.instance
  pub target_is : (program : Program) → IsFor program waiting → IsTarget program waiting.live next.instance next.home
  pub prefers : (program : Program) → IsFor program waiting
      → (thread_of_home (home_numbered program next.home.0) ≡ thread)
      ⊎ ((j : Instance) (target : Home) → IsOpen waiting j → target_in program waiting.live j ≡ Some target → thread_of_home target ≢ thread)

-- The home is that to which the open instance leads.
pub record IsOpenTo (waiting : Waiting) (instance : Instance) (home : HomeNo) : Type 0 where
  pub is_open : IsOpen waiting instance
  pub target_is : (program : Program) → IsFor program waiting → IsTarget program waiting.live instance home

-- At the beginning what leads is open.
pub record Begins (program : Program) (rule : RuleName) (facts : ℕ) (made : Waiting) : Type 0 where
  pub is_for : IsFor program made
  pub rule_is : made.layout.rule ≡ rule
  pub room_is : made.room ≡ facts
  pub given_is : made.given ≡ 0
  pub live_is : made.live ≡ []
  pub opens : (j : Instance) → IsOpen made j ↔ Leads program rule [] j

-- All but what is open stays.
pub record StaysFor (program : Program) (old new : Waiting) : Type 0 where
  pub is_for : IsFor program new
  pub rule_is : new.layout.rule ≡ old.layout.rule
  pub room_is : new.room ≡ old.room
  pub given_is : new.given ≡ old.given
  pub live_is : new.live ≡ old.live

-- An instance is taken.
pub record Closes (program : Program) (old : Waiting) (instance : Instance) (new : Waiting) : Type 0 where
  pub stays : StaysFor program old new
  pub opens : (j : Instance) → IsOpen new j ↔ (IsOpen old j × (j ≢ instance))

-- The table has one more fact, by the next id.
pub record HasCome (waiting : Waiting) (table : FactTable) : Type 0 where
  pub fact : LiveFact
  pub live_is : table.live ≡ waiting.live ++ fact ∷ []
  pub given_is : table.given ≡ waiting.given + 1
  pub id_is : fact.id.0 ≡ table.given

-- What names the new fact opens.
pub record Opens (program : Program) (old : Waiting) (table : FactTable) (new : Waiting) : Type 0 where
  pub is_for : IsFor program new
  pub rule_is : new.layout.rule ≡ old.layout.rule
  pub room_is : new.room ≡ old.room
  pub given_is : new.given ≡ table.given
  pub live_is : new.live ≡ table.live
  pub opens : (j : Instance) → IsOpen new j ↔ (IsOpen old j ⊎ (Leads program new.layout.rule new.live j × Contains (premises_of j) (record { 0 = table.given })))

-- Some facts of the table went.
pub record IsLeft (waiting : Waiting) (table : FactTable) : Type 0 where
  pub given_is : table.given ≡ waiting.given
  pub keep : LiveFact → Bool
  pub live_is : table.live ≡ filter keep waiting.live

-- Of what leads that is open which was, or whose target is one of these.
pub record Reopens (program : Program) (old : Waiting) (homes : List HomeNo) (table : FactTable) (new : Waiting) : Type 0 where
  pub is_for : IsFor program new
  pub rule_is : new.layout.rule ≡ old.layout.rule
  pub room_is : new.room ≡ old.room
  pub given_is : new.given ≡ table.given
  pub live_is : new.live ≡ table.live
  pub opens : (j : Instance) → IsOpen new j ↔ (Leads program new.layout.rule new.live j × (IsOpen old j ⊎ IsTargetAmong program new.live homes j))
