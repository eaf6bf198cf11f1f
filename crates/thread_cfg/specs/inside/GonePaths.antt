-- When a path of an atomic body is gone.
use Rattle.std.specs.Prelude.{◌≡◌, ◌⊎◌, ℤ, List, [], ◌∷◌}
use Rattle.thread_cfg.specs.Source.{Frame, WayEnd}
use Rattle.thread_cfg.specs.Path.{Path}
use Rattle.thread_cfg.specs.Happen.{Happen, end_of}

-- The path is gone with some inputs, to the values after, and ends so.
pub record IsGone (frame : Frame) (values : List ℤ) (path : Path) (after : List ℤ) (end : WayEnd) : Type 0 where
  pub inputs : List ℤ
  pub happen : Happen frame values path.events inputs after
  pub ends : end ≡ end_of path

-- One of the paths is gone.
abbrev pub SomeGone : Frame → List ℤ → List Path → List ℤ → WayEnd → Type 0
SomeGone frame values [] after end = ⊥
SomeGone frame values (path ∷ paths) after end = IsGone frame values path after end ⊎ SomeGone frame values paths after end
