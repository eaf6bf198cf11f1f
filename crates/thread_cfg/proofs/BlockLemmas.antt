-- The edges of a block's paths.
use Rattle.std.proofs.Common.{◌≡◌, ℕ, zero, suc, ◌+◌, ◌<◌, nat_lt, Bool, true, false, ◌||◌, List, [], ◌∷◌, ◌++◌, drop, get_or, length, map, reverse, Option, Some, None, refl, sym, ap, ap₂, subst, ◌∙◌, arith}
use Rattle.std.specs.List.{list_any}
use Rattle.std.proofs.lemmas.List.{append-nil, append_assoc, drop_more, length-map, length-reverse, map-append, reverse-append}
use Rattle.thr_base.specs.Limits.{most_paths, most_tests}
use Rattle.thr_base.specs.Refusals.{too_many}
use Rattle.thr_base.specs.declared.stops.Refusal.{Refusal}
use Rattle.c_check.specs.First.{earlier}
use Rattle.c_check.specs.Plan.{Arithmetic, Stmts, postfix}
use Rattle.thread_cfg.specs.declared.event.Expression.{Expression}
use Rattle.thread_cfg.specs.declared.event.Expression.TheVariants as expression
use Rattle.thread_cfg.specs.declared.event.Event.{Event as StoredEvent}
use Rattle.thread_cfg.specs.declared.event.Event.TheVariants as stored
use Rattle.thread_cfg.specs.declared.paths.Path.{Path as StoredPath}
use Rattle.thread_cfg.specs.declared.running.Running.{Running}
use Rattle.thread_cfg.specs.declared.thread.Found.{Found}
use Rattle.thread_cfg.specs.Path.{Event, Path, block_paths}
use Rattle.thread_cfg.specs.Action.{Action, block_action, path_alternative}
use Rattle.thread_cfg.specs.Graph.{edges_from, is_long, is_too_large}
use Rattle.thread_cfg.specs.inside.Adds.{AddsActions, AddsWays, WaysDone, WaysWithin}
use Rattle.thread_cfg.specs.inside.Few.{WrittenPath, event_written, few, path_written}
use Rattle.thread_cfg.specs.inside.Gone.{event_of, is_long_path, path_of, whole}
use Rattle.thread_cfg.specs.inside.Meant.{Means, StandFor, StandsFor, frame_of}
use Rattle.thread_cfg.proofs.AddLemmas.{Adds-none, Adds-same, AddsWays-then, first_of-append}

-- ---- what stands for events that are written so

-- an expression that is stored whole means the one whose postfix form it is
means-whole : (x : Expression) (a : Arithmetic) → whole x ≡ Some (postfix a) → Means x a
means-whole (expression.Number k) a e = absurd cc
means-whole (expression.Value v) a e = absurd cc
means-whole (expression.Whole os) a e = cc
means-whole (expression.Cut os n) a e = absurd cc

-- a stored event that is written as an event stands for it
stands-for : (s : StoredEvent) (e : Event) → event_of s ≡ event_written e → StandsFor s e
stands-for (stored.Requires from r left right) (Event.Requires place q a b) e = (cc, cc, means-whole left a cc, means-whole right b cc)
stands-for (stored.Sets at v value) (Event.Sets place w x) e = (cc, cc, means-whole value x cc)
stands-for (stored.SetsAny v) (Event.SetsAny w) e = cc
stands-for (stored.Requires from r left right) (Event.Sets place w x) e = absurd cc
stands-for (stored.Requires from r left right) (Event.SetsAny w) e = absurd cc
stands-for (stored.Sets at v value) (Event.Requires place q a b) e = absurd cc
stands-for (stored.Sets at v value) (Event.SetsAny w) e = absurd cc
stands-for (stored.SetsAny v) (Event.Requires place q a b) e = absurd cc
stands-for (stored.SetsAny v) (Event.Sets place w x) e = absurd cc

-- stored events that are written as events stand for these, one by one
pub stand-for : (ss : List StoredEvent) (es : List Event) → map event_of ss ≡ map event_written es → StandFor ss es
stand-for [] [] e = tt
stand-for [] (x ∷ es) e = absurd cc
stand-for (s ∷ ss) [] e = absurd cc
stand-for (s ∷ ss) (x ∷ es) e =
    let first : event_of s ≡ event_written x = cc in
    let then : map event_of ss ≡ map event_written es = cc in
    (stands-for s x first, stand-for ss es then)

-- ---- which blocks are too large

-- paths that are written so have as many events
long-path : (s : StoredPath) (p : Path) (next : ℕ) → path_of s ≡ path_written p → is_long_path s ≡ is_long (path_alternative next p)
long-path s p next e = ap (λ n. nat_lt most_tests n) (length-written s p e)
  where
    length-written : (s : StoredPath) (p : Path) → path_of s ≡ path_written p → length s.events.items ≡ length p.events
    length-written s p e =
        sym (length-map s.events.items event_of) ∙ sym (length-reverse (map event_of s.events.items)) ∙ ap (λ w. length w.events) e ∙ length-map p.events event_written

-- of stored paths one is too long exactly where one of the paths that they are written as is
pub long-any : (ss : List StoredPath) (ps : List Path) (next : ℕ) → map path_of ss ≡ map path_written ps
    → list_any is_long_path ss ≡ list_any is_long (map (path_alternative next) ps)
long-any [] [] next e = refl
long-any [] (p ∷ ps) next e = absurd cc
long-any (s ∷ ss) [] next e = absurd cc
long-any (s ∷ ss) (p ∷ ps) next e =
    let first : path_of s ≡ path_written p = cc in
    let then : map path_of ss ≡ map path_written ps = cc in
    ap₂ (λ x y. x || y) (long-path s p next first) (long-any ss ps next then)

-- paths that are told to be too many are; those that are given are all of them, and not too many
few-cases : (ps : List WrittenPath) (x : Bool) → nat_lt most_paths (length ps) ≡ x → (qs : Option (List WrittenPath)) → qs ≡ few ps
    → (qs ≡ None → x ≡ true) × ((rs : List WrittenPath) → qs ≡ Some rs → (x ≡ false) × (rs ≡ ps))
few-cases ps true h qs e = let none : qs ≡ None = e ∙ rw h refl in (λ n. refl, λ rs some. absurd cc)
few-cases ps false h qs e = let some : qs ≡ Some ps = e ∙ rw h refl in (λ n. absurd cc, λ rs is. (refl, cc))

-- a block has as many ways on as its body has paths
length-block : (from : ℕ) (inner : Stmts) (next : ℕ) → length (block_action from inner next).alternatives ≡ length (map path_written (block_paths inner))
length-block from inner next = length-map (block_paths inner) (path_alternative next) ∙ sym (length-map (block_paths inner) path_written)

-- too many paths
pub too_large-many : (from : ℕ) (inner : Stmts) (next : ℕ) (found : Option (List WrittenPath)) → found ≡ few (map path_written (block_paths inner)) → found ≡ None
    → is_too_large (block_action from inner next) ≡ true
too_large-many from inner next found e none =
    let written = map path_written (block_paths inner) in
    let many : nat_lt most_paths (length (block_action from inner next).alternatives) ≡ true =
    ap (λ n. nat_lt most_paths n) (length-block from inner next) ∙ (few-cases written (nat_lt most_paths (length written)) refl found e).0 none in
    rw many refl

-- few paths, as long as those that are found
pub too_large-few : (from : ℕ) (inner : Stmts) (next : ℕ) (ss : List StoredPath) → Some (map path_of ss) ≡ few (map path_written (block_paths inner))
    → (is_too_large (block_action from inner next) ≡ list_any is_long_path ss) × (map path_of ss ≡ map path_written (block_paths inner))
too_large-few from inner next ss e =
    let written = map path_written (block_paths inner) in
    let case = (few-cases written (nat_lt most_paths (length written)) refl (Some (map path_of ss)) e).1 (map path_of ss) refl in
    let small : nat_lt most_paths (length (block_action from inner next).alternatives) ≡ false =
    ap (λ n. nat_lt most_paths n) (length-block from inner next) ∙ case.0 in
    (rw small (sym (long-any ss (block_paths inner) next case.1)), case.1)

-- a block that is too large
pub AddsActions-too_large : (running : Running) (at : ℕ) (old new : Found) (action : Action) → is_too_large action ≡ true
    → new.refusal ≡ earlier old.refusal (Some (record { code = too_many; place = action.from })) → AddsActions running at old new (action ∷ [])
AddsActions-too_large running at old new action large e =
    let d : Refusal = record { code = too_many; place = action.from } in
    let added = Adds-same old new (d ∷ []) _ (edges_from running.columns (frame_of running.frame) at (action ∷ [])) _ (rw large refl) refl (record {
      refusal_is = λ done was. e ∙ ap (λ r. earlier r (Some d)) was ∙ sym (first_of-append done (d ∷ []));
      edges_are = λ absent. absurd cc;
    }) in
    added

-- ---- paths in turn

-- where none of the stored paths is too long, the one at a place is not
pub long-at : (ss : List StoredPath) (i : ℕ) (d : StoredPath) → list_any is_long_path ss ≡ false → i < length ss → is_long_path (get_or ss i d) ≡ false
long-at [] i d h within = absurd (omega arith)
long-at (s ∷ ss) zero d h within = by (is_long_path s) refl
  where
    by : (x : Bool) → is_long_path s ≡ x → is_long_path s ≡ false
    by true e = let long : true ≡ false = sym (rw e refl) ∙ h in absurd cc
    by false e = e
long-at (s ∷ ss) (suc i) d h within = long-at ss i d (by (is_long_path s) refl) (omega arith)
  where
    by : (x : Bool) → is_long_path s ≡ x → list_any is_long_path ss ≡ false
    by true e = let long : true ≡ false = sym (rw e refl) ∙ h in absurd cc
    by false e = rw e at h

-- What is known of the next path, and of those behind it.
pub record IsNextPath (running : Running) (next : ℕ) (w : WrittenPath) (remaining : List WrittenPath) : Type 0 where
  pub path : Path
  pub written_so : w ≡ path_written path
  pub within : WaysWithin running (path_alternative next path ∷ [])
  pub rest : List Path
  pub rest_is : remaining ≡ map path_written rest
  pub rest_within : WaysWithin running (map (path_alternative next) rest)

-- the first of the paths that remain, and those behind it
pub next-path : (running : Running) (next : ℕ) (w : WrittenPath) (remaining : List WrittenPath) (ps : List Path) → w ∷ remaining ≡ map path_written ps
    → WaysWithin running (map (path_alternative next) ps) → IsNextPath running next w remaining
next-path running next w remaining [] e within = absurd cc
next-path running next w remaining (p ∷ ps) e within = record {
  path = p;
  written_so = cc;
  within = (within.0, tt);
  rest = ps;
  rest_is = cc;
  rest_within = within.1;
}

-- one more path is done once its way is added
pub ways-next : (running : Running) (at next : ℕ) (old mid new : Found) (w : WrittenPath) (remaining : List WrittenPath) (whole : List Path)
    → WaysDone running at next old mid (w ∷ remaining) whole → ((p : Path) → w ≡ path_written p → AddsWays running at mid new (path_alternative next p ∷ []))
    → WaysDone running at next old new remaining whole
ways-next running at next old mid new w remaining whole so adds = by so.rest so.rest_is so.all
  where
    by : (ps : List Path) → w ∷ remaining ≡ map path_written ps → so.done ++ map (path_alternative next) ps ≡ map (path_alternative next) whole
        → WaysDone running at next old new remaining whole
    by [] e all = absurd cc
    by (p ∷ ps) e all =
        let first : w ≡ path_written p = cc in
        let then : remaining ≡ map path_written ps = cc in
        record {
          rest = ps;
          rest_is = then;
          done = so.done ++ path_alternative next p ∷ [];
          added = AddsWays-then running at old mid new so.done (path_alternative next p ∷ []) so.added (adds p first);
          all = append_assoc so.done (path_alternative next p ∷ []) (map (path_alternative next) ps) ∙ all;
        }

-- at first all paths remain
pub ways-none : (running : Running) (at next : ℕ) (f : Found) (remaining : List WrittenPath) (whole : List Path) → remaining ≡ map path_written whole
    → WaysDone running at next f f remaining whole
ways-none running at next f remaining whole e = record { rest = whole; rest_is = e; done = []; added = Adds-none f; all = refl }

-- where none remains, the ways of all paths are added
pub ways-all : (running : Running) (at next : ℕ) (old new : Found) (whole : List Path) → WaysDone running at next old new [] whole
    → AddsWays running at old new (map (path_alternative next) whole)
ways-all running at next old new whole so = by so.rest so.rest_is so.all
  where
    by : (ps : List Path) → [] ≡ map path_written ps → so.done ++ map (path_alternative next) ps ≡ map (path_alternative next) whole
        → AddsWays running at old new (map (path_alternative next) whole)
    by [] e all = subst (AddsWays running at old new) (sym (append-nil so.done) ∙ all) so.added
    by (p ∷ ps) e all = absurd cc

-- the first of the paths from a place on is the one at this place
pub paths-next : (ss : List StoredPath) (i : ℕ) (d : StoredPath) → i < length ss
    → map path_of (drop i ss) ≡ path_of (get_or ss i d) ∷ map path_of (drop (i + 1) ss)
paths-next ss i d within = ap (map path_of) (drop_more ss i d within)

-- a function of each element of a reversed list gives the reversed list of what it gives
pub map-reverse : {X Y : Type 0} (f : X → Y) → (xs : List X) → map f (reverse xs) ≡ reverse (map f xs)
map-reverse f [] = refl
map-reverse f (x ∷ xs) =
    ap (map f) (reverse-append (x ∷ []) xs) ∙ map-append f (reverse xs) (x ∷ []) ∙ ap (λ l. l ++ f x ∷ []) (map-reverse f xs)
    ∙ sym (reverse-append (f x ∷ []) (map f xs))
