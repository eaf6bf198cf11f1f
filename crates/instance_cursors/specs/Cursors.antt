-- The starts and cursors of all series.
use Rattle.std.specs.Prelude.{◌≡◌, ℕ, zero, suc, ◌≤◌, nat_eq, Bool, true, false, not, cond, List, [], ◌∷◌, ◌++◌, length, map, slice_get, Option, Some}
use Rattle.std.specs.List.{list_any, AllByRecursion, Contains}
use Rattle.std.specs.Option.{MatchOption}
use Rattle.thr_base.specs.Held.{Rise}
use Rattle.thr_base.specs.declared.names.FactId.{FactId}
use Rattle.thr_base.specs.declared.names.HomeNo.{HomeNo}
use Rattle.thr_base.specs.declared.names.ThreadNo.{ThreadNo}
use Rattle.fact_table.specs.declared.live_fact.LiveFact.{LiveFact}
use Rattle.instance_cursors.specs.declared.early.Early.{Early}
use Rattle.instance_cursors.specs.declared.key.Head.{Head}
use Rattle.instance_cursors.specs.declared.start.Start.{Start}
use Rattle.instance_cursors.specs.declared.turns.Cursor.{Cursor}
use Rattle.instance_cursors.specs.declared.turns.Series.{Series}
use Rattle.instance_cursors.specs.declared.turns.Series.TheVariants.{Own, Told, Beside}
use Rattle.instance_cursors.specs.declared.turns.Turn.{Turn}
use Rattle.instance_cursors.specs.Layout.{target_of}
use Rattle.instance_cursors.specs.Turns.{AllArePassed, IsHead, beginning}
use Rattle.instance_cursors.specs.Waiting.{IsSeries, Waiting}
use Rattle.instance_cursors.specs.Ways.{AreApart, Layout}

abbrev pub at_beginning : Series → Cursor
at_beginning series = record { series = series; passed = beginning }

abbrev pub beside : HomeNo → FactId → Series
beside home id = Beside home id

-- two cursors for each of so many edges, at their beginnings
abbrev pub edge_cursors : ℕ → List Cursor
edge_cursors zero = []
edge_cursors (suc edge) = edge_cursors edge ++ (at_beginning (Own edge) ∷ at_beginning (Told edge) ∷ [])

-- The fact with this id is live.
abbrev pub is_live : List LiveFact → FactId → Bool
is_live live id = list_any (λ f. nat_eq f.id.0 id.0) live

-- the series is of an edge, or of a live fact
abbrev pub series_is_of_live : List LiveFact → Series → Bool
series_is_of_live live (Own edge) = true
series_is_of_live live (Told edge) = true
series_is_of_live live (Beside home id) = is_live live id

abbrev pub is_of_live : List LiveFact → Cursor → Bool
is_of_live live cursor = series_is_of_live live cursor.series

-- a start, taken where it is the thread's
abbrev pub start_taken : ThreadNo → Start → Start
start_taken thread start = cond (nat_eq start.thread.0 thread.0) (record start { taken = true }) start

-- the cursors, of which the one at a place has passed a turn
abbrev pub passed_at : List Cursor → ℕ → Turn → List Cursor
passed_at [] place turn = []
passed_at (cursor ∷ cursors) zero turn = record cursor { passed = turn } ∷ cursors
passed_at (cursor ∷ cursors) (suc place) turn = cursor ∷ passed_at cursors place turn

-- ---- setting back

abbrev pub is_among : List HomeNo → HomeNo → Bool
is_among homes home = list_any (λ other. nat_eq other.0 home.0) homes

-- the instances of the series lead to one of these homes
abbrev pub leads_to : Layout → List HomeNo → Series → Bool
leads_to layout homes series = is_among homes (target_of layout series)

-- a cursor, at its beginning where it leads to one of these homes
abbrev pub cursor_back : Layout → List HomeNo → Cursor → Cursor
cursor_back layout homes cursor = cond (leads_to layout homes cursor.series) (at_beginning cursor.series) cursor

-- a start, open where it leads to one of these homes
abbrev pub start_back : List HomeNo → Start → Start
start_back homes start = cond (is_among homes start.home) (record start { taken = false }) start

-- a turn that was taken early leads to none of these homes
abbrev pub stays_early : Layout → List HomeNo → Early → Bool
stays_early layout homes early = not (leads_to layout homes early.series)

-- ---- what is kept

-- Each series has a cursor.
abbrev pub HasCursor : List Cursor → Series → Type 0
HasCursor cursors series = (place : ℕ) × (cursor : Cursor) × (slice_get cursors place ≡ Some cursor) × (cursor.series ≡ series)

-- No series has two.
abbrev pub AreDistinct : List Cursor → Type 0
AreDistinct [] = Unit {0}
AreDistinct (cursor ∷ cursors) = AllByRecursion (λ other. other.series ≡ cursor.series → ⊥) cursors × AreDistinct cursors

-- a series and a turn of it are of ids that were given
abbrev pub AreGiven : ℕ → Series → Turn → Type 0
AreGiven given (Own edge) turn = turn.id.0 ≤ given
AreGiven given (Told edge) turn = turn.id.0 ≤ given
AreGiven given (Beside home id) turn = (id.0 ≤ given) × (turn.id.0 ≤ given)

-- The head of a cursor, or that it has none.
abbrev pub IsHeadOf : Layout → List Early → List LiveFact → Cursor → Option Head → Type 0
IsHeadOf layout early live cursor head = MatchOption head (AllArePassed layout early cursor live) (λ found. IsHead layout early cursor live found.turn)

-- Each cursor has its head beside it.
pub record AreHeads (layout : Layout) (early : List Early) (live : List LiveFact) (cursors : List Cursor) (heads : List (Option Head)) : Type 0 where
  pub count : length heads ≡ length cursors
  pub are : (place : ℕ) (cursor : Cursor) (head : Option Head) → slice_get cursors place ≡ Some cursor → slice_get heads place ≡ Some head → IsHeadOf layout early live cursor head

-- the series of a fact
abbrev pub fact_series : LiveFact → Series
fact_series f = Beside f.fact.home f.id

-- the series of so many edges, and those of facts
abbrev pub all_series : ℕ → List LiveFact → List Series
all_series edges live = map (λ cursor. cursor.series) (edge_cursors edges) ++ map fact_series live

-- What is known of the facts, cursors and early turns.
pub record AreKept (waiting : Waiting) : Type 0 where
  pub apart : AreApart waiting.layout.edges
  pub ids_rise : Rise 0 (map (λ f. f.id.0) waiting.live)
  pub ids_given : (f : LiveFact) → Contains waiting.live f → f.id.0 ≤ waiting.given
  pub complete : (series : Series) → IsSeries waiting.layout waiting.live series → HasCursor waiting.cursors series
  pub sound : (place : ℕ) (cursor : Cursor) → slice_get waiting.cursors place ≡ Some cursor → IsSeries waiting.layout waiting.live cursor.series
  pub distinct : AreDistinct waiting.cursors
  pub shape : map (λ cursor. cursor.series) waiting.cursors ≡ all_series (length waiting.layout.edges) waiting.live
  pub passed : (place : ℕ) (cursor : Cursor) → slice_get waiting.cursors place ≡ Some cursor → cursor.passed.id.0 ≤ waiting.given
  pub early : (each : Early) → Contains waiting.early each → AreGiven waiting.given each.series each.turn
