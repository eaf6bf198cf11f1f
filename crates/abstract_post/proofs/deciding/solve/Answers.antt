use Rattle.abstract_post.proofs.deciding.solve.Goals as goal

pub decide_atoms-requires-clause-has_point : goal.decide_atoms-requires-clause-has_point
decide_atoms-requires-clause-has_point c refuted =
    let point = rw c.in-Point.is at c.in_ok-decided.ensures.evidence in
    c.refuted_has_no_point.ensures.rational _ _ _ refuted point
