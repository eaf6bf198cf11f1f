-- The paths of an atomic body that are gone, with what they pick.
use Rattle.std.proofs.Common.{◌≡◌, ◌∙◌, ◌⊎◌, ◌↔◌, ℕ, ℤ, Bool, List, [], ◌∷◌, ◌++◌, map, inl, inr, refl, sym, ap}
use Rattle.c_check.specs.declared.meaning.Variable.{Variable}
use Rattle.c_check.specs.Plan.{Arithmetic}
use Rattle.thread_cfg.specs.declared.relation.Relation.{Relation}
use Rattle.thread_cfg.specs.Source.{Frame, WayEnd, value, with_value}
use Rattle.thread_cfg.specs.Path.{Event}
use Rattle.thread_cfg.specs.Happen.{Happen, Holds, end_of}
use Rattle.thread_cfg.specs.Picks.{Pick, PickedPath, begun_picked, relations_picked, took, went}
use Rattle.thread_cfg.proofs.PicksDistinct.{IsIn}

-- The path picks this, and is gone with just these inputs.
pub record IsGone (frame : Frame) (values : List ℤ) (p : PickedPath) (picks : List Pick) (inputs after : List ℤ) (end : WayEnd) : Type 0 where
  pub picked : p.picks ≡ picks
  pub happen : Happen frame values p.path.events inputs after
  pub ends : end ≡ end_of p.path

-- One of the paths picks this, and is gone with just these inputs.
abbrev pub SomeGone : Frame → List ℤ → List PickedPath → List Pick → List ℤ → List ℤ → WayEnd → Type 0
SomeGone frame values [] picks inputs after end = ⊥
SomeGone frame values (p ∷ ps) picks inputs after end = IsGone frame values p picks inputs after end ⊎ SomeGone frame values ps picks inputs after end

-- of paths behind others one is gone where it is one of these or of those
pub gone-++ : (frame : Frame) (values : List ℤ) (ps qs : List PickedPath) (picks : List Pick) (inputs after : List ℤ) (end : WayEnd)
    → SomeGone frame values (ps ++ qs) picks inputs after end
    ↔ (SomeGone frame values ps picks inputs after end ⊎ SomeGone frame values qs picks inputs after end)
gone-++ frame values [] qs picks inputs after end = (λ h. inr h, λ h. elim h [ inl g ↦ absurd g | inr g ↦ g ])
gone-++ frame values (p ∷ ps) qs picks inputs after end =
    let more = gone-++ frame values ps qs picks inputs after end in (
      λ h. elim h [ inl g ↦ inl (inl g) | inr g ↦ elim (more.0 g) [ inl g ↦ inl (inr g) | inr g ↦ inr g ] ],
      λ h. elim h [ inl g ↦ elim g [ inl g ↦ inl g | inr g ↦ inr (more.1 (inl g)) ] | inr g ↦ inr (more.1 (inr g)) ],
    )

-- a variable is set, and then a path is gone
pub gone-sets : (frame : Frame) (values : List ℤ) (place : ℕ) (v : Variable) (e : Arithmetic) (ps : List PickedPath) (picks : List Pick) (inputs after : List ℤ) (end : WayEnd)
    → SomeGone frame values (map (begun_picked (Event.Sets place v e)) ps) picks inputs after end
    ↔ SomeGone frame (with_value frame values v (value frame values e)) ps picks inputs after end
gone-sets frame values place v e [] picks inputs after end = (λ h. h, λ h. h)
gone-sets frame values place v e (p ∷ ps) picks inputs after end =
    let more = gone-sets frame values place v e ps picks inputs after end in (
      λ h. elim h [ inl g ↦ inl (record { picked = g.picked; happen = g.happen; ends = g.ends }) | inr g ↦ inr (more.0 g) ],
      λ h. elim h [ inl g ↦ inl (record { picked = g.picked; happen = g.happen; ends = g.ends }) | inr g ↦ inr (more.1 g) ],
    )

-- with no input no variable is set to any integer
pub gone-no-input : (frame : Frame) (values : List ℤ) (v : Variable) (ps : List PickedPath) (picks : List Pick) (after : List ℤ) (end : WayEnd)
    → ¬ SomeGone frame values (map (begun_picked (Event.SetsAny v)) ps) picks [] after end
gone-no-input frame values v [] picks after end h = h
gone-no-input frame values v (p ∷ ps) picks after end h = elim h [ inl g ↦ g.happen | inr g ↦ gone-no-input frame values v ps picks after end g ]

-- a variable is set to the first input, and then a path is gone
pub gone-any : (frame : Frame) (values : List ℤ) (v : Variable) (ps : List PickedPath) (picks : List Pick) (k : ℤ) (inputs after : List ℤ) (end : WayEnd)
    → SomeGone frame values (map (begun_picked (Event.SetsAny v)) ps) picks (k ∷ inputs) after end
    ↔ SomeGone frame (with_value frame values v k) ps picks inputs after end
gone-any frame values v [] picks k inputs after end = (λ h. h, λ h. h)
gone-any frame values v (p ∷ ps) picks k inputs after end =
    let more = gone-any frame values v ps picks k inputs after end in (
      λ h. elim h [ inl g ↦ inl (record { picked = g.picked; happen = g.happen; ends = g.ends }) | inr g ↦ inr (more.0 g) ],
      λ h. elim h [ inl g ↦ inl (record { picked = g.picked; happen = g.happen; ends = g.ends }) | inr g ↦ inr (more.1 g) ],
    )

-- a side is picked, and then a path is gone
pub gone-went : (frame : Frame) (values : List ℤ) (side : Bool) (ps : List PickedPath) (picks : List Pick) (inputs after : List ℤ) (end : WayEnd)
    → SomeGone frame values (map (went side) ps) picks inputs after end
    ↔ ((left : List Pick) × (picks ≡ Pick.Went side ∷ left) × SomeGone frame values ps left inputs after end)
gone-went frame values side [] picks inputs after end = (λ h. absurd h, λ h. h.2)
gone-went frame values side (p ∷ ps) picks inputs after end =
    let more = gone-went frame values side ps picks inputs after end in (
      λ h. elim h [
        | inl g ↦ (p.picks, sym g.picked, inl (record { picked = refl; happen = g.happen; ends = g.ends }))
        | inr g ↦ let m = more.0 g in (m.0, m.1, inr m.2)
      ],
      λ h. elim h.2 [
        | inl g ↦ inl (record { picked = ap (λ l. Pick.Went side ∷ l) g.picked ∙ sym h.1; happen = g.happen; ends = g.ends })
        | inr g ↦ inr (more.1 (h.0, h.1, g))
      ],
    )

module _ (frame : Frame) (values : List ℤ) (from : ℕ) (a b : Arithmetic) where
  -- a relation is picked that holds, and then a path is gone
  gone-took : (r : Relation) (ps : List PickedPath) (picks : List Pick) (inputs after : List ℤ) (end : WayEnd)
      → SomeGone frame values (map (took from r a b) ps) picks inputs after end
      ↔ ((left : List Pick) × (picks ≡ Pick.Took r ∷ left) × Holds r (value frame values a) (value frame values b) × SomeGone frame values ps left inputs after end)
  gone-took r [] picks inputs after end = (λ h. absurd h, λ h. h.3)
  gone-took r (p ∷ ps) picks inputs after end =
      let more = gone-took r ps picks inputs after end in (
        λ h. elim h [
          | inl g ↦ (p.picks, sym g.picked, g.happen.0, inl (record { picked = refl; happen = g.happen.1; ends = g.ends }))
          | inr g ↦ let m = more.0 g in (m.0, m.1, m.2, inr m.3)
        ],
        λ h. elim h.3 [
          | inl g ↦ inl (record { picked = ap (λ l. Pick.Took r ∷ l) g.picked ∙ sym h.1; happen = (h.2, g.happen); ends = g.ends })
          | inr g ↦ inr (more.1 (h.0, h.1, h.2, g))
        ],
      )

  -- one of the relations is picked, which holds, and then a path is gone
  abbrev OneTook : List Relation → List PickedPath → List Pick → List ℤ → List ℤ → WayEnd → Type 0
  OneTook rs ps picks inputs after end =
      (r : Relation) × (left : List Pick) × (picks ≡ Pick.Took r ∷ left) × IsIn rs r × Holds r (value frame values a) (value frame values b)
      × SomeGone frame values ps left inputs after end

  -- of paths behind relations one is gone where it is one behind a relation that holds
  gone-relations : (rs : List Relation) (ps : List PickedPath) (picks : List Pick) (inputs after : List ℤ) (end : WayEnd)
      → SomeGone frame values (relations_picked from a b rs ps) picks inputs after end ↔ OneTook rs ps picks inputs after end
  gone-relations [] ps picks inputs after end = (λ h. absurd h, λ h. h.3)
  gone-relations (r ∷ rs) ps picks inputs after end =
      let parts = gone-++ frame values (map (took from r a b) ps) (relations_picked from a b rs ps) picks inputs after end in
      let here = gone-took r ps picks inputs after end in
      let more = gone-relations rs ps picks inputs after end in (
        λ h. elim (parts.0 h) [
          | inl g ↦ let m = here.0 g in (r, m.0, m.1, inl refl, m.2, m.3)
          | inr g ↦ let m = more.0 g in (m.0, m.1, m.2, inr m.3, m.4, m.5)
        ],
        λ h. parts.1 (elim h.3 [
          | inl e ↦ inl (here.1 (h.1, (rw e h.2), (rw e h.4), h.5))
          | inr m ↦ inr (more.1 (h.0, h.1, h.2, m, h.4, h.5))
        ]),
      )

  -- of no picks, and of a side, no relation is picked
  pub gone-nothing : (rs : List Relation) (ps : List PickedPath) (inputs after : List ℤ) (end : WayEnd)
      → ¬ SomeGone frame values (relations_picked from a b rs ps) [] inputs after end
  gone-nothing rs ps inputs after end h = let m = (gone-relations rs ps [] inputs after end).0 h in let e = m.2 in cc

  -- behind relations no path is gone that picks a side first
  pub gone-side : (rs : List Relation) (ps : List PickedPath) (side : Bool) (left : List Pick) (inputs after : List ℤ) (end : WayEnd)
      → ¬ SomeGone frame values (relations_picked from a b rs ps) (Pick.Went side ∷ left) inputs after end
  gone-side rs ps side left inputs after end h = let m = (gone-relations rs ps (Pick.Went side ∷ left) inputs after end).0 h in let e = m.2 in cc

  -- behind relations a path is gone that picks one of them first, where that holds and one of the paths goes on
  pub gone-relation : (rs : List Relation) (ps : List PickedPath) (r : Relation) (left : List Pick) (inputs after : List ℤ) (end : WayEnd)
      → SomeGone frame values (relations_picked from a b rs ps) (Pick.Took r ∷ left) inputs after end
      ↔ (IsIn rs r × Holds r (value frame values a) (value frame values b) × SomeGone frame values ps left inputs after end)
  gone-relation rs ps r left inputs after end =
      let all = gone-relations rs ps (Pick.Took r ∷ left) inputs after end in (
        λ h. let m = all.0 h in let e = m.2 in let same : m.0 ≡ r = cc in let rest : m.1 ≡ left = cc in
            (rw same at m.3, rw same at m.4, rw rest at m.5),
        λ h. all.1 (r, left, refl, h.0, h.1, h.2),
      )
