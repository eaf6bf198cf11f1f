-- How certificates stand in one buffer. No public clause cites this file.
use Rattle.std.specs.Prelude.{◌≤◌, ◌<◌, ◌-◌, ◌^◌, ℕ, List, [], ◌∷◌, length, map, slice_range}
use Rattle.std.specs.List.{AllByRecursion}
use Rattle.farkas_cert.specs.Cert.{Pairs}
use Rattle.annotation_form.specs.Certificates.{AreListed, NoneTwice}
use Rattle.annotation_form.specs.declared.certificates.Place.{Place}

-- what stands at a place of the buffer
abbrev pub at_place : Pairs → Place → Pairs
at_place pairs place = slice_range pairs place.from place.to

-- the certificates at these places
abbrev pub kept_at : Pairs → List Place → List Pairs
kept_at pairs places = map (at_place pairs) places

-- The place is one of the buffer.
pub record IsPlace (pairs : Pairs) (place : Place) : Type 0 where
  pub in_order : place.from ≤ place.to
  pub within : place.to ≤ length pairs

-- Each place is one of the buffer, no two certificates are alike, and all are in order.
pub record AreKept (pairs : Pairs) (places : List Place) : Type 0 where
  pub places_are : AllByRecursion (IsPlace pairs) places
  pub none_twice : NoneTwice (kept_at pairs places)
  pub listed : AllByRecursion (AreListed 0) (kept_at pairs places)

-- The facts and groups of an annotation can be numbered by the code.
pub record IsFew (facts groups : ℕ) : Type 0 where
  pub facts_few : facts < 2 ^ 32 - 1
  pub groups_few : groups < 2 ^ 32 - 1
