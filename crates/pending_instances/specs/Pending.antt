-- What is pending.
use Rattle.std.specs.Prelude.{◌≡◌, ℕ, true, List}
use Rattle.std.specs.List.{Contains}
use Rattle.std.specs.Option.{IsSome}
use Rattle.thr_base.specs.declared.names.HomeNo.{HomeNo}
use Rattle.thr_base.specs.declared.names.Instance.{Instance}
use Rattle.fact_table.specs.declared.live_fact.LiveFact.{LiveFact}
pub use Rattle.instance_cursors.specs.Cursors.{is_among}
use Rattle.instance_cursors.specs.Waiting.{Waiting}
use Rattle.transition_formula.specs.Program.{Program, at_number}
use Rattle.horn_rules.specs.Home.{Home, State, Env, homes}
use Rattle.pending_instances.specs.Layout.{AreStartsSeen, IsLayoutOf}
use Rattle.pending_instances.specs.Open.{IsTarget}

-- Facts stand at homes of the program.
abbrev pub AreAtHomes : Program → List LiveFact → Type 0
AreAtHomes program live = (f : LiveFact) → Contains live f → IsSome (at_number (homes program) f.fact.home.0)

-- It was made for this program, and facts stand at homes of it.
pub record IsFor (program : Program) (waiting : Waiting) : Type 0 where
  pub layout : IsLayoutOf program waiting.layout
  pub starts : AreStartsSeen program waiting.starts
  pub at_homes : AreAtHomes program waiting.live

-- the thread of a home
abbrev pub thread_of_home : Home → ℕ
thread_of_home (State i l) = i
thread_of_home (Env i e) = i

-- The target's number is among these.
abbrev pub IsTargetAmong : Program → List LiveFact → List HomeNo → Instance → Type 0
IsTargetAmong program live homes instance = (home : HomeNo) × IsTarget program live instance home × (is_among homes home ≡ true)
