-- The live facts of a table, in the order in which they came.
use Rattle.std.specs.Prelude.{◌≡◌, ◌≢◌, ℕ, ◌+◌, ◌-◌, ◌^◌, ◌==◌, min, Bool, true, false, not, if◌then◌else◌, List, map, filter, Option, option_map, unwrap_or}
use Rattle.std.specs.List.{AllByRecursion, Contains, find}
use Rattle.thr_base.specs.declared.names.Fact.{Fact}
use Rattle.thr_base.specs.declared.names.FactId.{FactId}
use Rattle.thr_base.specs.declared.names.Instance.{Instance}
use Rattle.thr_base.specs.declared.names.Instance.TheVariants.{Init, Own, Guar, Env, Inter}
pub use Rattle.thr_base.specs.Instances.{premises_of}
use Rattle.fact_table.specs.declared.live_fact.LiveFact.{LiveFact}
use Rattle.fact_table.specs.declared.live_fact.Rank.{Rank}

-- the live fact with an id
abbrev pub live_at : List LiveFact → ℕ → Option LiveFact
live_at live id = find (λ f. f.id.0 == id) live

-- A fact with this id is live.
abbrev pub IsLive : List LiveFact → FactId → Type 0
IsLive live id = (f : LiveFact) × Contains live f × (f.id.0 ≡ id.0)

-- Each premise of an instance is live.
abbrev pub ArePremisesLive : List LiveFact → Instance → Type 0
ArePremisesLive live instance = AllByRecursion (IsLive live) (premises_of instance)

-- The fact is not live.
abbrev pub Lacks : List LiveFact → Fact → Type 0
Lacks live fact = AllByRecursion (λ f. f.fact ≢ fact) live

-- The fact is live, with this id.
abbrev pub HasFact : List LiveFact → FactId → Fact → Type 0
HasFact live id fact = (f : LiveFact) × Contains live f × (f.id ≡ id) × (f.fact ≡ fact)

-- the ids of the live facts at a home, in rising order
abbrev pub ids_at : ℕ → List LiveFact → List FactId
ids_at home live = map (λ f. f.id) (filter (λ f. f.fact.home.0 == home) live)

-- ---- marks

abbrev pub NoneIsMarked : List LiveFact → Type 0
NoneIsMarked live = AllByRecursion (λ f. f.marked ≡ false) live

-- a fact, marked where it has this id
abbrev pub with_mark : ℕ → LiveFact → LiveFact
with_mark id f = if f.id.0 == id then record f { marked = true } else f

-- the facts without those that are marked
abbrev pub unmarked_facts : List LiveFact → List LiveFact
unmarked_facts live = filter (λ f. not f.marked) live

-- ---- the rank of a fact: what the order in which instances are taken looks at

abbrev pub capped_number : ℕ → ℕ
capped_number n = min n (2 ^ 32 - 1)

abbrev pub no_rank : Rank
no_rank = record { size = 0; chain = 0 }

-- the rank of the live fact with an id
abbrev pub rank_at : List LiveFact → FactId → Rank
rank_at live id = unwrap_or (option_map (λ f. f.rank) (live_at live id.0)) no_rank

-- the rank of a fact by that of its premise, or of its two premises: its size is 1 more than theirs together
abbrev pub rank_after : Rank → Rank
rank_after first = record { size = capped_number (first.size + 1); chain = capped_number (first.chain + 1) }

abbrev pub rank_told : Rank → Rank
rank_told first = record { size = capped_number (first.size + 1); chain = first.chain }

abbrev pub rank_after_both : Rank → Rank → Rank
rank_after_both first second = record { size = capped_number (capped_number (first.size + second.size) + 1); chain = capped_number (first.chain + 1) }

-- the rank of what an instance gives: how many facts its derivation has, and how many steps lead to it on the side of first premises
abbrev pub rank_of : List LiveFact → Instance → Rank
rank_of live (Init i) = record { size = 1; chain = 0 }
rank_of live (Own f e) = rank_after (rank_at live f)
rank_of live (Guar f e) = rank_told (rank_at live f)
rank_of live (Env f t) = rank_after_both (rank_at live f) (rank_at live t)
rank_of live (Inter f g e) = rank_after_both (rank_at live f) (rank_at live g)

-- whether the fact with an id is live and marked
abbrev pub is_marked : List LiveFact → FactId → Bool
is_marked live id = unwrap_or (option_map (λ f. f.marked) (live_at live id.0)) false
