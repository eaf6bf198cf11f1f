-- A way takes what a path picks, with some inputs, exactly where the events of the path happen with them.
use Rattle.std.proofs.Common.{◌≡◌, ◌∙◌, ◌↔◌, ℤ, false, List, [], ◌∷◌, inl, inr, refl, sym, subst}
use Rattle.c_check.specs.Plan.{Stmts}
use Rattle.c_check.specs.Items.{Grain, items}
use Rattle.thread_cfg.specs.Source.{Frame, WayEnd}
use Rattle.thread_cfg.specs.Happen.{Happen, end_of}
use Rattle.thread_cfg.specs.Picks.{PathsTellWays, Pick, PickedPath, TakenArePicked, Takes, arrived, block_picked, ended_picked}
use Rattle.thread_cfg.proofs.PicksWays.{at}
use Rattle.thread_cfg.proofs.PicksDistinct.{AreApart, Contains-in, IsIn, IsPicked, block-apart, in-Contains}
use Rattle.thread_cfg.proofs.PicksGone.{IsGone, SomeGone}
use Rattle.thread_cfg.proofs.PicksFollow.{Follows, stmts-follow}

-- one of the paths that pick this is gone with these inputs where a way takes this with them
block-follow : (frame : Frame) (inner : Stmts) (values : List ℤ) (picks : List Pick) (inputs after : List ℤ) (end : WayEnd)
    → SomeGone frame values (block_picked inner) picks inputs after end ↔ Takes frame values (items Grain.Whole inner) picks inputs (arrived after) end
block-follow frame inner values picks inputs after end = (
  λ h. elim ((stmts-follow frame inner (ended_picked false ∷ []) values picks inputs after end).0 h) [
    | inl w ↦ elim w.2 [ inl g ↦ meet w.0.values w.0.picks w.0.inputs g w.1 | inr g ↦ absurd g ]
    | inr w ↦ subst (λ e. Takes frame values (items Grain.Whole inner) picks inputs (arrived after) e) (sym w.1) w.0
  ],
  λ h. (stmts-follow frame inner (ended_picked false ∷ []) values picks inputs after end).1 (split end h),
)
  where
    meet : (vs : List ℤ) (ps : List Pick) (ins : List ℤ) → IsGone frame vs (ended_picked false) ps ins after end
        → Takes frame values (items Grain.Whole inner) picks inputs (at vs ps ins) WayEnd.Through → Takes frame values (items Grain.Whole inner) picks inputs (arrived after) end
    meet vs ps ins g h = let a = g.picked in let b = g.happen.0 in rw (g.happen.1, g.ends, a, sym b) h

    split : (end : WayEnd) → Takes frame values (items Grain.Whole inner) picks inputs (arrived after) end
        → Follows frame values (items Grain.Whole inner) (ended_picked false ∷ []) picks inputs after end
    split WayEnd.Through h = inl (arrived after, h, inl (record { picked = refl; happen = (refl, refl); ends = refl }))
    split WayEnd.Fails h = inr (h, refl)

-- a path that is in the list and is gone
some-gone : (frame : Frame) (values : List ℤ) (ps : List PickedPath) (p : PickedPath) (inputs after : List ℤ) (end : WayEnd) → IsIn ps p
    → Happen frame values p.path.events inputs after → end ≡ end_of p.path → SomeGone frame values ps p.picks inputs after end
some-gone frame values [] p inputs after end h happen ends = absurd h
some-gone frame values (q ∷ ps) p inputs after end h happen ends = elim h [
  | inl e ↦ inl (rw e (record { picked = refl; happen = happen; ends = ends }))
  | inr more ↦ inr (some-gone frame values ps p inputs after end more happen ends)
]

-- what is gone is picked by a path in the list
gone-in : (frame : Frame) (values : List ℤ) (ps : List PickedPath) (picks : List Pick) (inputs after : List ℤ) (end : WayEnd)
    → SomeGone frame values ps picks inputs after end → (p : PickedPath) × IsIn ps p × IsGone frame values p picks inputs after end
gone-in frame values [] picks inputs after end h = absurd h
gone-in frame values (p ∷ ps) picks inputs after end h = elim h [
  | inl g ↦ (p, inl refl, g)
  | inr g ↦ let m = gone-in frame values ps picks inputs after end g in (m.0, inr m.1, m.2)
]

-- a path in the list picks what it picks
picked-in : (ps : List PickedPath) (p : PickedPath) (picks : List Pick) → IsIn ps p → p.picks ≡ picks → IsPicked ps picks
picked-in [] p picks h e = h
picked-in (q ∷ ps) p picks h e = elim h [ inl same ↦ inl (rw same e) | inr more ↦ inr (picked-in ps p picks more e) ]

-- of paths that pick differently those that pick the same are one
apart-same : (ps : List PickedPath) (p q : PickedPath) → AreApart ps → IsIn ps p → IsIn ps q → p.picks ≡ q.picks → p ≡ q
apart-same [] p q apart hp hq e = absurd hp
apart-same (x ∷ ps) p q apart hp hq e = elim hp [
  | inl a ↦ elim hq [ inl b ↦ sym a ∙ b | inr b ↦ absurd (apart.0 (picked-in ps q x.picks b (rw a (sym e)))) ]
  | inr a ↦ elim hq [ inl b ↦ absurd (apart.0 (picked-in ps p x.picks a (rw b e))) | inr b ↦ apart-same ps p q apart.1 a b e ]
]

-- a way takes what a path picks exactly where its events happen
pub paths-tell-ways : PathsTellWays
paths-tell-ways frame inner p values inputs after end h =
    let here = in-Contains (block_picked inner) p h in (
      λ w.
          let g = gone-in frame values (block_picked inner) p.picks inputs after end ((block-follow frame inner values p.picks inputs after end).1 w) in
          let same = apart-same (block_picked inner) g.0 p (block-apart inner) g.1 here g.2.picked in
          rw same at (let both : Happen frame values g.0.path.events inputs after × (end ≡ end_of g.0.path) = (g.2.happen, g.2.ends) in both),
      λ g. (block-follow frame inner values p.picks inputs after end).0 (some-gone frame values (block_picked inner) p inputs after end here g.0 g.1),
    )

-- what a way takes is what one of the paths picks
pub taken-are-picked : TakenArePicked
taken-are-picked frame inner values inputs after picks end w =
    let g = gone-in frame values (block_picked inner) picks inputs after end ((block-follow frame inner values picks inputs after end).1 w) in
    (g.0, Contains-in (block_picked inner) g.0 g.1, g.2.picked)
