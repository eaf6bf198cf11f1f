-- What is withdrawn where homes get predicates: the facts at these homes, and all that rest on them.
use Rattle.std.specs.Prelude.{◌≡◌, ℕ, ◌==◌, ◌&&◌, not, Bool, true, if◌then◌else◌, List, [], ◌∷◌}
use Rattle.std.specs.List.{Contains, list_any, list_all}
use Rattle.horn_rules.specs.Home.{Home}
use Rattle.horn_rules.specs.Stored.{same_home}
use Rattle.horn_rules.specs.Instance.{premises_of}
use Rattle.derivation_tree.specs.Facts.{KeptFact}

-- A fact is withdrawn where its home is one of these, or a premise of its kept instance is withdrawn.
pub data IsWithdrawn (live : List KeptFact) (changed : Home → Bool) : ℕ → Type 0 where
  at_home : (f : KeptFact) → Contains live f → changed f.fact.home ≡ true → IsWithdrawn live changed f.id
  rests : (f : KeptFact) (premise : ℕ) → Contains live f → Contains (premises_of f.kept) premise → IsWithdrawn live changed premise → IsWithdrawn live changed f.id

-- a fact of this id is among them
abbrev pub has_id : List KeptFact → ℕ → Bool
has_id live id = list_any (λ f. f.id == id) live

-- the fact stays, where these stay of those before it: its home is none of these, and its premises stay
abbrev pub stays : (Home → Bool) → List KeptFact → KeptFact → Bool
stays changed kept f = not (changed f.fact.home) && list_all (has_id kept) (premises_of f.kept)

-- the facts that stay
abbrev pub remaining : (Home → Bool) → List KeptFact → List KeptFact
remaining changed [] = []
remaining changed (f ∷ earlier) =
    let kept = remaining changed earlier in
    if stays changed kept f then f ∷ kept else kept

-- a fact at the home does not stay
abbrev pub loses : List KeptFact → List KeptFact → Home → Bool
loses live kept home = list_any (λ f. same_home f.fact.home home && not (has_id kept f.id)) live
