-- Whether a fact goes, where the facts before it that go are marked.
use Rattle.std.specs.Prelude.{nat_eq, Bool, ◌||◌, cond, List, map}
use Rattle.std.specs.List.{list_any}
use Rattle.thr_base.specs.declared.names.HomeNo.{HomeNo}
use Rattle.thr_base.specs.declared.names.Instance.{Instance}
use Rattle.fact_table.specs.declared.live_fact.LiveFact.{LiveFact}
use Rattle.fact_table.specs.Live.{is_marked, premises_of, with_mark}
use Rattle.fact_table.specs.Table.{FactTable}

abbrev pub has_home : List HomeNo → HomeNo → Bool
has_home homes home = list_any (λ h. nat_eq h.0 home.0) homes

-- some premise is marked
abbrev pub marked_among : List LiveFact → Instance → Bool
marked_among live kept = list_any (is_marked live) (premises_of kept)

abbrev pub goes : List HomeNo → List LiveFact → LiveFact → Bool
goes homes live f = has_home homes f.fact.home || marked_among live f.kept

-- the table after the fact was looked at: it is marked where it goes
abbrev pub looked_at : List HomeNo → FactTable → LiveFact → FactTable
looked_at homes table f = cond (goes homes table.live f) (record table { live = map (with_mark f.id.0) table.live }) table
