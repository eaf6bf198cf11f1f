-- The ids of facts, by what they say.
use Rattle.std.specs.Prelude.{◌≡◌, ℕ, ◌+◌, nat_eq, Bool, cond, ◌&&◌, List, length, Option, Some}
use Rattle.std.specs.Map.{lookup}
use Rattle.thr_base.specs.declared.names.Fact.{Fact}
use Rattle.thr_base.specs.declared.names.FactId.{FactId}

-- what a fact says, as a key: its home and the positions that it holds
abbrev pub key_of : Fact → ℕ × ℕ
key_of fact = (fact.home.0, fact.held)

abbrev pub is_key : ℕ × ℕ → ℕ × ℕ → Bool
is_key one other = nat_eq one.0 other.0 && nat_eq one.1 other.1

-- the ids of facts, with how many may be there
pub record FactIds : Type 0 where
  pub room : ℕ
  pub entries : List ((ℕ × ℕ) × FactId)

-- the id that stands for a key
abbrev pub id_in : FactIds → ℕ × ℕ → Option FactId
id_in ids key = lookup (is_key key) ids.entries

-- The ids with one more entry.
pub record Puts (old : FactIds) (key : ℕ × ℕ) (id : FactId) (new : FactIds) : Type 0 where
  pub room : new.room ≡ old.room
  pub count : length new.entries ≡ length old.entries + 1
  pub found : (q : ℕ × ℕ) → id_in new q ≡ cond (is_key key q) (Some id) (id_in old q)
