-- Parts in turn, from the first one on.
use Rattle.std.proofs.Common.{◌≡◌, ℕ, ◌+◌, ◌<◌, ◌^◌, List, [], ◌∷◌, ◌++◌, get_or, length, map, reverse, take, refl, sym, ap, subst, ◌∙◌, arith}
use Rattle.std.proofs.lemmas.List.{append-nil, append_assoc, length-append, map-append, reverse-append, take_more}
use Rattle.c_check.specs.Items.{shared_in}
use Rattle.thread_cfg.specs.declared.part.Part.{Part as StoredPart}
use Rattle.thread_cfg.specs.declared.running.Running.{Running}
use Rattle.thread_cfg.specs.declared.thread.Found.{Found}
use Rattle.thread_cfg.specs.Source.{Frame}
use Rattle.thread_cfg.specs.Action.{assign_accesses, assign_reads, compare_accesses, compare_reads, read_actions}
use Rattle.thread_cfg.specs.inside.Adds.{AddsActions, AreDone, AreLeft, AreWithin, actions_of_part, actions_of_parts}
use Rattle.thread_cfg.specs.inside.Meant.{frame_of}
use Rattle.thread_cfg.specs.inside.Parts.{Part, Written, part_actions, part_size, parts_size, written}
use Rattle.thread_cfg.specs.inside.Passing.{parts_held, written_of}
use Rattle.thread_cfg.specs.inside.Sizes.{written_size}
use Rattle.thread_cfg.proofs.AddLemmas.{Adds-none, AddsActions-then}
use Rattle.thread_cfg.proofs.ReadLemmas.{length-read_actions, within-front, within-rest}
use Rattle.thread_cfg.proofs.SizeLemmas.{assignment_size-postfix, comparison_size-postfix, locations-reads}

-- ---- sizes

-- a part as it is written has the size of the part
written_size-part : (p : Part) → written_size (written p) ≡ part_size p
written_size-part (Part.Assign from at v e next) = assignment_size-postfix from at v e
written_size-part (Part.AssignAny from v next) = refl
written_size-part (Part.Choice from t f) = refl
written_size-part (Part.Compare from m a b t f) = comparison_size-postfix from m a b
written_size-part (Part.Jump from to) = refl
written_size-part (Part.Lock from lock next) = refl
written_size-part (Part.Unlock from lock next) = refl
written_size-part (Part.Block from inner next) = refl

-- a part has an action a location
length-part_actions : (frame : Frame) (t at : ℕ) (p : Part) → length (part_actions frame t at p) ≡ part_size p
length-part_actions frame t at (Part.Assign from place v e next) =
    length-append (read_actions from (assign_reads t v e) at) _
    ∙ omega (arith, length-read_actions from (assign_reads t v e) at, locations-reads t (assign_accesses v e) (shared_in e), locations-reads 0 (assign_accesses v e) (shared_in e))
length-part_actions frame t at (Part.AssignAny from v next) = refl
length-part_actions frame t at (Part.Choice from x y) = refl
length-part_actions frame t at (Part.Compare from m a b x y) =
    let vs = shared_in a ++ shared_in b in
    length-append (read_actions from (compare_reads t a b) at) _
    ∙ omega (arith, length-read_actions from (compare_reads t a b) at, locations-reads t (compare_accesses a b) vs, locations-reads 0 (compare_accesses a b) vs)
length-part_actions frame t at (Part.Jump from to) = refl
length-part_actions frame t at (Part.Lock from lock next) = refl
length-part_actions frame t at (Part.Unlock from lock next) = refl
length-part_actions frame t at (Part.Block from inner next) = refl

-- ---- the next part

-- one part more of those that are stored is, last one first, the first of those that are held
pub parts_held-next : (parts : List StoredPart) (k : ℕ) (d : StoredPart) → k < length parts
    → parts_held (take (k + 1) parts) ≡ written_of (get_or parts k d) ∷ parts_held (take k parts)
parts_held-next parts k d within =
    ap (λ l. reverse (map written_of l)) (take_more parts k d within)
    ∙ ap reverse (map-append written_of (take k parts) (get_or parts k d ∷ []))
    ∙ reverse-append (map written_of (take k parts)) (written_of (get_or parts k d) ∷ [])

-- What is known of the next part, and of those behind it.
pub record IsNext (running : Running) (at : ℕ) (w : Written) (rest : List Written) : Type 0 where
  pub part : Part
  pub written_so : w ≡ written part
  pub room : at + written_size w < 2 ^ 32
  pub within : AreWithin running (actions_of_part running at part)
  pub left : AreLeft running (at + written_size w) rest

-- the first of the parts that are left, and those behind it
pub left-next : (running : Running) (at : ℕ) (w : Written) (rest : List Written) → AreLeft running at (w ∷ rest) → IsNext running at w rest
left-next running at w rest all = by all.parts all.written_so all.room all.within
  where
    by : (ps : List Part) → w ∷ rest ≡ map written ps → at + parts_size ps < 2 ^ 32 → AreWithin running (actions_of_parts running at ps) → IsNext running at w rest
    by [] e room within = absurd cc
    by (p ∷ ps) e room within =
        let first : w ≡ written p = cc in
        let then : rest ≡ map written ps = cc in
        let size : part_size p ≡ written_size w = sym (ap written_size first ∙ written_size-part p) in
        let here = actions_of_part running at p in
        record {
          part = p;
          written_so = first;
          room = omega (arith, size, room);
          within = within-front running here (actions_of_parts running (at + part_size p) ps) within;
          left = record {
            parts = ps;
            written_so = then;
            room = omega (arith, size, room);
            within = subst (λ n. AreWithin running (actions_of_parts running (at + n) ps)) size
                (within-rest running here (actions_of_parts running (at + part_size p) ps) within);
          };
        }

-- one more part is done once its actions are added
pub done-next : (running : Running) (old mid new : Found) (at : ℕ) (w : Written) (remaining : List Written) (whole : List Part)
    → AreDone running old mid at (w ∷ remaining) whole → ((p : Part) → w ≡ written p → AddsActions running at mid new (actions_of_part running at p))
    → AreDone running old new (at + written_size w) remaining whole
done-next running old mid new at w remaining whole so adds = by so.rest so.rest_is so.all
  where
    by : (ps : List Part) → w ∷ remaining ≡ map written ps → so.done ++ actions_of_parts running at ps ≡ actions_of_parts running 1 whole
        → AreDone running old new (at + written_size w) remaining whole
    by [] e all = absurd cc
    by (p ∷ ps) e all =
        let first : w ≡ written p = cc in
        let then : remaining ≡ map written ps = cc in
        let size : part_size p ≡ written_size w = sym (ap written_size first ∙ written_size-part p) in
        let here = actions_of_part running at p in
        let rest = actions_of_parts running (at + part_size p) ps in
        record {
          rest = ps;
          rest_is = then;
          done = so.done ++ here;
          added = AddsActions-then running 1 at old mid new so.done here so.far so.added (adds p first);
          far = omega (arith, length-append so.done here, length-part_actions (frame_of running.frame) running.temporary at p, so.far, size);
          all = ap (λ n. (so.done ++ here) ++ actions_of_parts running (at + n) ps) (sym size) ∙ append_assoc so.done here rest ∙ all;
        }

-- in front of all
pub done-none : (running : Running) (f : Found) (remaining : List Written) (whole : List Part) → remaining ≡ map written whole → AreDone running f f 1 remaining whole
done-none running f remaining whole e = record {
  rest = whole;
  rest_is = e;
  done = [];
  added = Adds-none f;
  far = refl;
  all = refl;
}

-- behind all
pub done-all : (running : Running) (old new : Found) (at : ℕ) (whole : List Part) → AreDone running old new at [] whole
    → AddsActions running 1 old new (actions_of_parts running 1 whole)
done-all running old new at whole so = by so.rest so.rest_is so.all
  where
    by : (ps : List Part) → [] ≡ map written ps → so.done ++ actions_of_parts running at ps ≡ actions_of_parts running 1 whole
        → AddsActions running 1 old new (actions_of_parts running 1 whole)
    by [] e all = subst (AddsActions running 1 old new) (sym (append-nil so.done) ∙ all) so.added
    by (p ∷ ps) e all = absurd cc

-- the part at the end of those that are left
pub parts_held-at : (parts : List StoredPart) (index k : ℕ) (item : StoredPart) → index ≡ k + 1 → k < length parts → item ≡ get_or parts k item
    → parts_held (take index parts) ≡ written_of item ∷ parts_held (take k parts)
parts_held-at parts index k item e within is =
    ap (λ n. parts_held (take n parts)) e ∙ parts_held-next parts k item within ∙ ap (λ x. written_of x ∷ parts_held (take k parts)) (sym is)
