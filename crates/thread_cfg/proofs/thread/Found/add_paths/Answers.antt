use Rattle.std.proofs.Common.{◌≡◌, ◌+◌, ◌∷◌, [], drop, map, ap, sym, subst, ◌∙◌, arith}
use Rattle.std.proofs.lemmas.List.{drop_all}
use Rattle.thread_cfg.specs.inside.Adds.{WaysDone}
use Rattle.thread_cfg.specs.inside.Gone.{path_of}
use Rattle.thread_cfg.proofs.BlockLemmas.{next-path, paths-next, ways-all, ways-next}
use Rattle.thread_cfg.proofs.thread.Found.add_paths.Goals as goal

pub add_path-requires-clause-within : goal.add_path-requires-clause-within
add_path-requires-clause-within c =
    let ss = c.args.paths.now in
    let i = c.paths.path-index in
    let item = c.path-item.result in
    let rest = map path_of (drop (i + 1) ss) in
    let split = paths-next ss i item c.paths-test.true ∙ ap (λ x. path_of x ∷ rest) (sym c.path-item.is) in
    let left = c.paths.invariant.left in
    let next = next-path c.args.running.now c.args.next.0 (path_of item) rest left.0 (sym split ∙ left.1) left.2 in
    (next.path, next.written_so, next.within)

pub paths-preserved : goal.paths-preserved
paths-preserved c =
    let ss = c.args.paths.now in
    let i = c.paths.path-index in
    let item = c.path-item.result in
    let running = c.args.running.now in
    let at = c.args.at.0 in
    let to = c.args.next.0 in
    let rest = map path_of (drop (i + 1) ss) in
    let split = paths-next ss i item c.paths-test.true ∙ ap (λ x. path_of x ∷ rest) (sym c.path-item.is) in
    let left = c.paths.invariant.left in
    let next = next-path running to (path_of item) rest left.0 (sym split ∙ left.1) left.2 in
    record {
      left = (next.rest, next.rest_is, next.rest_within);
      far = λ whole e. ways-next running at to c.args.self.now c.paths.self c.add_path.new.self (path_of item) rest whole
          (subst (λ l. WaysDone running at to c.args.self.now c.paths.self l whole) split (c.paths.invariant.far whole e))
          (λ p is. c.in_ok-add_path.ensures p is);
    }

pub returns : goal.returns
returns c ps e =
    let ss = c.args.paths.now in
    let running = c.args.running.now in
    let none : drop c.paths.path-index ss ≡ [] = drop_all c.paths.path-index ss (omega arith) in
    ways-all running c.args.at.0 c.args.next.0 c.args.self.now c.paths.self ps
    (subst (λ l. WaysDone running c.args.at.0 c.args.next.0 c.args.self.now c.paths.self (map path_of l) ps) none (c.paths.invariant.far ps e))
