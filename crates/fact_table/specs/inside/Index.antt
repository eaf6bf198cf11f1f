-- How facts are found: by what they say, by id and by home.
use Rattle.std.specs.Prelude.{◌≡◌, ℕ, ◌+◌, ◌-◌, ◌<◌, ◌≤◌, cond, List, [], ◌∷◌, ◌++◌, length, map, Option, Some, None}
use Rattle.std.specs.List.{range_with_len}
use Rattle.std.specs.Vec.{vec_capacity}
use Rattle.thr_base.specs.declared.names.Fact.{Fact}
use Rattle.thr_base.specs.declared.names.FactId.{FactId}
use Rattle.fact_table.specs.declared.index.Index.{Index}
use Rattle.fact_table.specs.declared.live_fact.LiveFact.{LiveFact}
use Rattle.fact_table.specs.Live.{ids_at}
use Rattle.fact_table.specs.inside.FactIds.{key_of, is_key, id_in, Puts}
use Rattle.fact_table.specs.inside.HomeIds.{with_id}

-- the first, where there is one, and else the second
abbrev pub later : Option FactId → Option FactId → Option FactId
later (Some id) other = Some id
later None other = other

-- the id of the last fact of a list that says so
abbrev pub id_of : List LiveFact → ℕ × ℕ → Option FactId
id_of [] key = None
id_of (f ∷ live) key = later (id_of live key) (cond (is_key (key_of f.fact) key) (Some f.id) None)

-- the ids at each home
abbrev pub ids_by_home : ℕ → List LiveFact → List (List FactId)
ids_by_home homes live = map (λ home. ids_at home live) (range_with_len 1 homes)

-- There is room for one more fact.
pub record HasRoom (index : Index) : Type 0 where
  pub ids : length index.ids.items < vec_capacity index.ids
  pub by_fact : length index.by_fact.entries < index.by_fact.room
  pub by_home : index.by_home.count < index.by_home.room

-- The index with one more fact.
pub record Adds (old : Index) (id : FactId) (fact : Fact) (new : Index) : Type 0 where
  pub ids : new.ids.items ≡ old.ids.items ++ id ∷ []
  pub ids_room : vec_capacity old.ids ≤ vec_capacity new.ids
  pub by_fact : Puts old.by_fact (key_of fact) id new.by_fact
  pub by_home : new.by_home ≡ record old.by_home { count = old.by_home.count + 1; lists = with_id old.by_home.lists (fact.home.0 - 1) id }

-- Whatever fits by what it says fits by id and by home.
pub record AreRooms (index : Index) : Type 0 where
  pub ids : index.by_fact.room ≤ vec_capacity index.ids
  pub by_home : index.by_fact.room ≤ index.by_home.room

-- The index finds these facts.
pub record IsIndexOf (live : List LiveFact) (index : Index) : Type 0 where
  pub rooms : AreRooms index
  pub ids : index.ids.items ≡ map (λ f. f.id) live
  pub fact_count : length index.by_fact.entries ≡ length live
  pub fact_ids : (key : ℕ × ℕ) → id_in index.by_fact key ≡ id_of live key
  pub home_count : index.by_home.count ≡ length live
  pub home_ids : index.by_home.lists ≡ ids_by_home (length index.by_home.lists) live

-- An index has room for as many facts as another, and as many homes.
pub record IsAsLarge (index other : Index) : Type 0 where
  pub room : index.by_fact.room ≡ other.by_fact.room
  pub homes : length index.by_home.lists ≡ length other.by_home.lists
