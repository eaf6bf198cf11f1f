-- What the code holds while it counts.
use Rattle.std.specs.Prelude.{◌≡◌, ℕ, ◌<◌, ◌≤◌, Bool, true, false, map, reverse, Option, Some, None}
use Rattle.thr_base.specs.Limits.{most_locations}
use Rattle.thread_cfg.specs.declared.counter.Counter.{Counter}
use Rattle.thread_cfg.specs.inside.Sizes.{Counted}

-- The number is that of a location, unless it is too large.
abbrev pub IsGrown : Option ℕ → ℕ → Type 0
IsGrown None n = most_locations ≤ n
IsGrown (Some at) n = (at ≡ n) × (n < most_locations)

-- what the counter knows
abbrev pub counted_of : Counter → Counted
counted_of counter = record {
  at = counter.at;
  around = reverse (map (λ l. l.0) counter.around.items);
  loops = reverse (map (λ l. l.0) counter.loops.items);
  depth = counter.depth;
}

-- It was counted, or the locations are too many.
abbrev pub IsCounted : Bool → Counted → Counted → Type 0
IsCounted false now whole = most_locations ≤ whole.at
IsCounted true now whole = (now ≡ whole) × (whole.at < most_locations)

-- All is counted, or the locations are too many.
abbrev pub IsCountOf : Option Counter → Counted → Type 0
IsCountOf None whole = most_locations ≤ whole.at
IsCountOf (Some counter) whole = (counted_of counter ≡ whole) × (whole.at < most_locations)
