use Rattle.std.proofs.Common.{rules, ◌≡◌, ◌∙◌, ◌++◌, ◌∷◌, [], sym, ap, subst}
use Rattle.std.specs.List.{Contains}
use Rattle.annotation_form.specs.inside.Places.{AreKept, kept_at}
use Rattle.annotation_form.proofs.Places.{buffer-longer, place-more}
use Rattle.annotation_form.proofs.certificates.Certificates.append.Goals as goal

pub invariant_of-self-in_err-push : goal.invariant_of-self-in_err-push
invariant_of-self-in_err-push c =
    subst (λ places. AreKept c.extend_from_slice.new.self.items places) (sym c.in_err-push.ensures.items)
    (buffer-longer _ _ _ c.self.inside.places.items c.in_ok-extend_from_slice.ensures.items c.self.invariant).0

pub returns-in_err-push-clause-err : goal.returns-in_err-push-clause-err
returns-in_err-push-clause-err c =
    let before : c.args.self.now ≡ kept_at c.self.inside.pairs.items c.self.inside.places.items = search rules in
    let same : kept_at c.extend_from_slice.new.self.items c.push.new.self.items ≡ c.args.self.now =
    ap (kept_at c.extend_from_slice.new.self.items) c.in_err-push.ensures.items
    ∙ (buffer-longer _ _ _ c.self.inside.places.items c.in_ok-extend_from_slice.ensures.items c.self.invariant).1 ∙ sym before in
    search rules

pub invariant_of-self-2 : goal.invariant_of-self-2
invariant_of-self-2 c =
    let before : c.args.self.now ≡ kept_at c.self.inside.pairs.items c.self.inside.places.items = search rules in
    (place-more _ _ _ _ _ _ c.in_ok-extend_from_slice.ensures.items c.in_ok-push.ensures.items (search rules) (search rules) c.self.invariant (subst (λ kept. ¬ Contains kept c.args.pairs.now) before c.requires.new) c.requires.listed).0

pub returns-clause-ok : goal.returns-clause-ok
returns-clause-ok c =
    let before : c.args.self.now ≡ kept_at c.self.inside.pairs.items c.self.inside.places.items = search rules in
    let all : kept_at c.extend_from_slice.new.self.items c.push.new.self.items ≡ c.args.self.now ++ c.args.pairs.now ∷ [] =
    (place-more _ _ _ _ _ _ c.in_ok-extend_from_slice.ensures.items c.in_ok-push.ensures.items (search rules) (search rules) c.self.invariant (subst (λ kept. ¬ Contains kept c.args.pairs.now) before c.requires.new) c.requires.listed).1
    ∙ ap (λ kept. kept ++ c.args.pairs.now ∷ []) (sym before) in
    search rules
