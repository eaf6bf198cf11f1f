-- When events happen: from which values, with which inputs, and what they leave.
use Rattle.std.specs.Prelude.{◌≡◌, ℤ, pos, ◌+ℤ◌, ◌-ℤ◌, ◌≤ℤ◌, Bool, true, false, List, [], ◌∷◌}
use Rattle.thread_cfg.specs.declared.relation.Relation.{Relation}
use Rattle.thread_cfg.specs.declared.relation.Relation.TheVariants as related
use Rattle.thread_cfg.specs.Source.{Frame, value, with_value, WayEnd}
use Rattle.thread_cfg.specs.Path.{Event, Path}

-- Two numbers are related so.
abbrev pub Holds : Relation → ℤ → ℤ → Type 0
Holds related.Equal x y = x ≡ y
Holds related.Less x y = x ≤ℤ (y -ℤ pos 1)
Holds related.Greater x y = (y +ℤ pos 1) ≤ℤ x
Holds related.AtMost x y = x ≤ℤ y
Holds related.AtLeast x y = y ≤ℤ x

-- The events happen one after another, and lead from the values to the values after; each `SetsAny` takes the next input.
abbrev pub Happen : Frame → List ℤ → List Event → List ℤ → List ℤ → Type 0
Happen frame values [] inputs after = (inputs ≡ []) × (after ≡ values)
Happen frame values (Event.Requires from r a b ∷ events) inputs after =
    Holds r (value frame values a) (value frame values b) × Happen frame values events inputs after
Happen frame values (Event.Sets at v e ∷ events) inputs after = Happen frame (with_value frame values v (value frame values e)) events inputs after
Happen frame values (Event.SetsAny v ∷ events) [] after = ⊥
Happen frame values (Event.SetsAny v ∷ events) (k ∷ inputs) after = Happen frame (with_value frame values v k) events inputs after

-- how a path ends
abbrev pub end_of : Path → WayEnd
end_of path = ends path.fails
  where
    ends : Bool → WayEnd
    ends true = WayEnd.Fails
    ends false = WayEnd.Through
