-- What is open among the cursors is what leads in the program.
use Rattle.std.specs.Prelude.{◌↔◌, ◌⊎◌, ℕ, List, [], map}
use Rattle.std.specs.List.{Contains}
use Rattle.thr_base.specs.Held.{Rise}
use Rattle.thr_base.specs.declared.names.HomeNo.{HomeNo}
use Rattle.thr_base.specs.declared.names.Instance.{Instance}
use Rattle.fact_table.specs.declared.live_fact.LiveFact.{LiveFact}
use Rattle.fact_table.specs.Live.{premises_of}
use Rattle.instance_cursors.specs.declared.start.Start.{Start as StartOf}
use Rattle.instance_cursors.specs.Waiting as waiting
use Rattle.instance_cursors.specs.Waiting.{Begins, IsOpen, Opens, Reopens, Stays, Waiting}
use Rattle.instance_cursors.specs.Ways.{Layout}
use Rattle.transition_formula.specs.Program.{Program}
use Rattle.pending_instances.specs.Layout.{AreStartsSeen, IsLayoutOf}
use Rattle.pending_instances.specs.Open.{Leads, LeadsTo}
use Rattle.pending_instances.specs.Pending.{AreAtHomes, IsFor, IsTargetAmong}

-- The turns and starts of a program's layout are exactly its instances that lead, each to the number of its target.
abbrev pub TurnsLead : Type 0
TurnsLead = (program : Program) (layout : Layout) (starts : List StartOf) (live : List LiveFact) → IsLayoutOf program layout → AreStartsSeen program starts → AreAtHomes program live
    → Rise 0 (map (λ f. f.id.0) live) → (instance : Instance) (home : HomeNo) → waiting.LeadsTo layout starts live instance home ↔ LeadsTo program layout.rule live instance home

-- What is made for a program stays so where facts at homes of it come and go.
abbrev pub StaysForPrograms : Type 0
StaysForPrograms = (program : Program) (old new : Waiting) → IsFor program old → Stays old new → AreAtHomes program new.live → IsFor program new

-- At the beginning exactly what leads is open.
abbrev pub BegunLead : Type 0
BegunLead = (program : Program) (layout : Layout) (starts : List StartOf) (facts : ℕ) (made : Waiting) → IsLayoutOf program layout → AreStartsSeen program starts → Begins layout starts facts made
    → (instance : Instance) → IsOpen made instance ↔ Leads program layout.rule [] instance

-- Where a fact comes, exactly what leads and names it opens.
abbrev pub ComersOpen : Type 0
ComersOpen = (program : Program) (old new : Waiting) (fact : LiveFact) → IsFor program new → Rise 0 (map (λ f. f.id.0) new.live) → Opens old fact new
    → (instance : Instance) → IsOpen new instance ↔ (IsOpen old instance ⊎ (Leads program new.layout.rule new.live instance × Contains (premises_of instance) fact.id))

-- Where facts go and homes change, of what leads exactly that is open which was, or whose target changed.
abbrev pub ChangesReopen : Type 0
ChangesReopen = (program : Program) (old new : Waiting) (homes : List HomeNo) → IsFor program new → Rise 0 (map (λ f. f.id.0) new.live) → waiting.OpenLead old → IsFor program old → Rise 0 (map (λ f. f.id.0) old.live)
    → ((f : LiveFact) → Contains new.live f → Contains old.live f) → Reopens old new.live homes new
    → (instance : Instance) → IsOpen new instance ↔ (Leads program new.layout.rule new.live instance × (IsOpen old instance ⊎ IsTargetAmong program new.live homes instance))
