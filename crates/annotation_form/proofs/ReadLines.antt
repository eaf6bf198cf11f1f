-- How a text is read, line by line.
use Rattle.std.proofs.Common.{◌≡◌, ◌≢◌, ℕ, ◌+◌, ◌<◌, ◌≤◌, List, [], ◌∷◌, ◌++◌, length, codes, replicate, refl, sym, ap, ap₂, subst, ◌∙◌, arith, append_assoc, append-nil, length-append, inl, inr, ◌⊎◌}
use Rattle.std.specs.List.{AllByRecursion}
use Rattle.std.proofs.lemmas.Bool.Decides.{leb_tells}
use Rattle.std.proofs.lemmas.List.{map-append, length-map, append_cancel_right}
use Rattle.lin_rows.specs.Row.{Row}
use Rattle.lin_rows.proofs.Lists.{AllByRecursion-append, AllByRecursion-front, AllByRecursion-rest}
use Rattle.transition_formula.specs.Program.{Program, IsProgram}
use Rattle.horn_rules.specs.Home.{homes}
use Rattle.annotation_form.specs.Lines.{IsLine, lines_text}
use Rattle.annotation_form.specs.Predicates.{Predicate, IsPredicateOf, AreAllowed, IsPredicatesText, IsTextOfPredicates, IsReadAs, predicate_text, predicate_texts, lists_of}
use Rattle.annotation_form.specs.BadLine.{Begin, IsRefused, Ended, NotEnded, IsBadLine}
use Rattle.annotation_form.specs.inside.Reading.{HasRoom, IsLineOf, IsTaken, IsReadSoFar}
use Rattle.annotation_form.proofs.Cuts.{lines_text-more, length-lines_text, Longer, cut-lines, cut-open}
use Rattle.annotation_form.proofs.Marks.{marked_or_not, Marked}
use Rattle.annotation_form.proofs.Sets.{allowed-none, allowed-more, allowed-room, allowed-last, lists_of-none}
use Rattle.annotation_form.proofs.LineTexts.{predicates-lines, predicate-no_end, predicates-no_end, end-line}

-- the lines of a text of predicates
abbrev pub all_lines : Program → List Predicate → List (List ℕ)
all_lines program ps = predicate_texts program ps ++ codes "end" ∷ []

pub all-lines : (program : Program) (ps : List Predicate) → IsProgram program → AllByRecursion (IsPredicateOf program) ps → AllByRecursion IsLine (all_lines program ps)
all-lines program ps is of = AllByRecursion-append IsLine (predicate_texts program ps) (codes "end" ∷ []) (predicates-lines program ps is of) (end-line, tt)

more-lines : (xs : List (List ℕ)) (x : List ℕ) → AllByRecursion IsLine xs → IsLine x → AllByRecursion IsLine (xs ++ x ∷ [])
more-lines xs x all one = AllByRecursion-append IsLine xs (x ∷ []) all (one, tt)

-- ---- lines with which a whole text begins

no_more : (more : List (List ℕ)) (r : List ℕ) → [] ≡ lines_text more ++ r → more ≡ []
no_more [] r e = refl
no_more (x ∷ more) r e = absurd (omega (arith, ap length e, length-append (x ++ (10 ∷ lines_text more)) r, length-append x (10 ∷ lines_text more)))

none-equal : {A : Type 0} (xs more : List A) → more ≡ [] → xs ++ more ≡ xs
none-equal xs more e = ap (λ m. xs ++ m) e ∙ append-nil xs

cut-whole : (xs ys : List (List ℕ)) (r : List ℕ) → AllByRecursion IsLine xs → AllByRecursion IsLine ys → lines_text xs ++ r ≡ lines_text ys → Longer xs ys r []
cut-whole xs ys r p q e =
    let whole : lines_text xs ++ r ≡ lines_text ys ++ [] = e ∙ sym (append-nil (lines_text ys)) in
    elim (leb_tells (length xs) (length ys)) [
      | inl few ↦ cut-lines xs ys r [] p q whole few.1
      | inr many ↦ (
          let back = cut-lines ys xs [] r q p (sym whole) (omega (arith, many.1)) in
          let none = no_more back.more r back.rest_is in
          absurd (omega (arith, many.1, ap length (back.lines_are ∙ none-equal ys back.more none)))
          )
    ]

-- texts of lines tell these
pub same-lines : (xs ys : List (List ℕ)) → AllByRecursion IsLine xs → AllByRecursion IsLine ys → lines_text xs ≡ lines_text ys → xs ≡ ys
same-lines xs ys p q e =
    let cut = cut-whole xs ys [] p q (append-nil (lines_text xs) ∙ e) in
    sym (cut.lines_are ∙ none-equal xs cut.more (no_more cut.more [] cut.rest_is))

-- ---- predicates whose lines go on with a line

-- Predicates go on with one that has this line.
record GoesOn (program : Program) (ps : List Predicate) (xs : List (List ℕ)) (line : List ℕ) : Type 0 where
  front : List Predicate
  next : Predicate
  back : List Predicate
  are : ps ≡ front ++ next ∷ back
  front_texts : predicate_texts program front ≡ xs
  next_text : predicate_text program next ≡ line

goes_on-more : (program : Program) (p : Predicate) (ps : List Predicate) (x : List ℕ) (xs : List (List ℕ)) (line : List ℕ) → predicate_text program p ≡ x → GoesOn program ps xs line
    → GoesOn program (p ∷ ps) (x ∷ xs) line
goes_on-more program p ps x xs line e on = record {
  front = p ∷ on.front;
  next = on.next;
  back = on.back;
  are = ap (λ qs. p ∷ qs) on.are;
  front_texts = ap₂ (λ h t. h ∷ t) e on.front_texts;
  next_text = on.next_text;
}

heads : {A : Type 0} (x y : A) (xs ys : List A) → x ∷ xs ≡ y ∷ ys → x ≡ y
heads x y xs ys e = cc

tails : {A : Type 0} (x y : A) (xs ys : List A) → x ∷ xs ≡ y ∷ ys → xs ≡ ys
tails x y xs ys e = cc

goes-on : (program : Program) (ps : List Predicate) (xs more : List (List ℕ)) (line : List ℕ) → all_lines program ps ≡ xs ++ (line ∷ more) → AllByRecursion (λ x. x ≢ codes "end") xs
    → line ≢ codes "end" → GoesOn program ps xs line
goes-on program [] [] more line e none other = absurd (other (sym (heads _ _ _ _ e)))
goes-on program (p ∷ ps) [] more line e none other = record { front = []; next = p; back = ps; are = refl; front_texts = refl; next_text = heads _ _ _ _ e }
goes-on program [] (x ∷ xs) more line e none other = absurd (none.0 (sym (heads _ _ _ _ e)))
goes-on program (p ∷ ps) (x ∷ xs) more line e none other = goes_on-more program p ps x xs line (heads _ _ _ _ e) (goes-on program ps xs more line (tails _ _ _ _ e) none.1 other)

-- nothing stands behind the last line
end-last : (program : Program) (ps : List Predicate) (xs more : List (List ℕ)) (line : List ℕ) → all_lines program ps ≡ xs ++ (codes "end" ∷ (line ∷ more)) → ⊥
end-last program [] [] more line e = let rest : [] ≡ line ∷ more = tails _ _ _ _ e in cc
end-last program [] (x ∷ []) more line e = let rest : [] ≡ codes "end" ∷ (line ∷ more) = tails _ _ _ _ e in cc
end-last program [] (x ∷ y ∷ xs) more line e = let rest : [] ≡ y ∷ (xs ++ (codes "end" ∷ (line ∷ more))) = tails _ _ _ _ e in cc
end-last program (p ∷ ps) [] more line e = predicate-no_end program p (heads _ _ _ _ e)
end-last program (p ∷ ps) (x ∷ xs) more line e = end-last program ps xs more line (tails _ _ _ _ e)

-- ---- where a text is read so far

pub so_far-start : (program : Program) (text : List ℕ) (sets : List (List Row)) (n : ℕ) → n ≡ length (homes program) → sets ≡ replicate n [] → IsReadSoFar program text sets 1 text
so_far-start program text sets n count made = record {
  before = [];
  allowed = allowed-none program;
  only = λ others of e. none others e;
  sets_are = made ∙ ap (λ k. replicate k []) count ∙ sym (lists_of-none program);
  number_is = omega arith;
  text_is = refl;
}
  where
    none : (others : List Predicate) → predicate_texts program others ≡ [] → others ≡ []
    none [] e = refl
    none (p ∷ others) e = cc

pub so_far-length : (program : Program) (text : List ℕ) (sets : List (List Row)) (number : ℕ) (left : List ℕ) → IsReadSoFar program text sets number left → length sets ≡ length (homes program)
so_far-length program text sets number left s = ap length s.sets_are ∙ length-map (homes program) _

pub so_far-number : (program : Program) (text : List ℕ) (sets : List (List Row)) (number : ℕ) (left : List ℕ) → IsReadSoFar program text sets number left → number + length left ≤ length text + 1
so_far-number program text sets number left s =
    let lines = predicate_texts program s.before in
    omega (arith, s.number_is, ap length s.text_is, length-append (lines_text lines) left, length-lines_text lines, length-map s.before (predicate_text program))

-- one line more

last-text : (program : Program) (others : List Predicate) (xs : List (List ℕ)) (line : List ℕ) → predicate_texts program others ≡ xs ++ line ∷ [] → GoesOn program others xs line
last-text program [] [] line e = cc
last-text program [] (x ∷ xs) line e = cc
last-text program (p ∷ others) [] line e = record { front = []; next = p; back = others; are = refl; front_texts = refl; next_text = heads _ _ _ _ e }
last-text program (p ∷ others) (x ∷ xs) line e = goes_on-more program p others x xs line (heads _ _ _ _ e) (last-text program others xs line (tails _ _ _ _ e))

texts-more : (program : Program) (before : List Predicate) (p : Predicate) (line : List ℕ) → predicate_text program p ≡ line → predicate_texts program (before ++ p ∷ []) ≡ predicate_texts program before ++ line ∷ []
texts-more program before p line e = map-append (predicate_text program) before (p ∷ []) ∙ ap (λ x. predicate_texts program before ++ x ∷ []) e

only-more : (program : Program) (before others : List Predicate) (p : Predicate) (line : List ℕ)
    → ((qs : List Predicate) → AllByRecursion (IsPredicateOf program) qs → predicate_texts program qs ≡ predicate_texts program before → qs ≡ before)
    → ((q : Predicate) → IsLineOf program q line → q ≡ p) → predicate_text program p ≡ line
    → AllByRecursion (IsPredicateOf program) others → predicate_texts program others ≡ predicate_texts program (before ++ p ∷ []) → others ≡ before ++ p ∷ []
only-more program before others p line only only_line p_text of e =
    let lines = e ∙ texts-more program before p line p_text in
    let on = last-text program others (predicate_texts program before) line lines in
    let all = subst (AllByRecursion (IsPredicateOf program)) on.are of in
    let front : on.front ≡ before = only on.front (AllByRecursion-front (IsPredicateOf program) on.front (on.next ∷ on.back) all) on.front_texts in
    let next : on.next ≡ p = only_line on.next (record { of_program = (AllByRecursion-rest (IsPredicateOf program) on.front (on.next ∷ on.back) all).0; line_is = sym on.next_text }) in
    let none : on.back ≡ [] = no-back on.back (
    omega (
      arith,
      ap length lines,
      length-append (predicate_texts program before) (line ∷ []),
      length-map others (predicate_text program),
      length-map before (predicate_text program),
      ap length on.are,
      length-append on.front (on.next ∷ on.back),
      ap length front,
    )) in
    on.are ∙ ap₂ (λ (f : List Predicate) (b : List Predicate). f ++ b) front (ap₂ (λ (q : Predicate) (b : List Predicate). q ∷ b) next none)
  where
    no-back : (b : List Predicate) → length b ≡ 0 → b ≡ []
    no-back [] e = refl
    no-back (q ∷ b) e = absurd (omega arith)

pub so_far-next : (program : Program) (text : List ℕ) (sets later : List (List Row)) (number : ℕ) (left line rest : List ℕ) (s : IsReadSoFar program text sets number left) → left ≡ line ++ (10 ∷ rest)
    → IsTaken program s.before line later → IsReadSoFar program text later (number + 1) rest
so_far-next program text sets later number left line rest s left_is taken =
    let p = taken.predicate in
    let p_text : predicate_text program p ≡ line = sym taken.is_line.line_is in
    let texts = texts-more program s.before p line p_text in
    record {
      before = s.before ++ p ∷ [];
      allowed = allowed-more program s.before p s.allowed taken.is_line.of_program taken.has_room;
      only = λ others of e. only-more program s.before others p line s.only taken.only p_text of e;
      sets_are = taken.later_is;
      number_is = omega (arith, s.number_is, length-append s.before (p ∷ []));
      text_is = s.text_is ∙ ap (λ (t : List ℕ). lines_text (predicate_texts program s.before) ++ t) left_is ∙ sym (lines_text-more (predicate_texts program s.before) line rest)
          ∙ ap (λ lines. lines_text lines ++ rest) (sym texts);
    }

-- ---- the text ends well

whole-text : (program : Program) (text : List ℕ) (sets : List (List Row)) (number : ℕ) (left rest : List ℕ) (s : IsReadSoFar program text sets number left) → left ≡ codes "end" ++ (10 ∷ rest) → length rest ≡ 0
    → text ≡ lines_text (all_lines program s.before)
whole-text program text sets number left [] s left_is none =
    s.text_is ∙ ap (λ (t : List ℕ). lines_text (predicate_texts program s.before) ++ t) left_is ∙ sym (lines_text-more (predicate_texts program s.before) (codes "end") [])
    ∙ append-nil (lines_text (all_lines program s.before))
whole-text program text sets number left (b ∷ rest) s left_is none = absurd (omega arith)

pub so_far-whole : (program : Program) (text : List ℕ) (sets : List (List Row)) (number : ℕ) (left rest : List ℕ) (s : IsReadSoFar program text sets number left) → left ≡ codes "end" ++ (10 ∷ rest) → length rest ≡ 0
    → IsReadAs program text sets
so_far-whole program text sets number left rest s left_is none = record {
  predicates = s.before;
  is_text = record { allowed = s.allowed; text_is = whole-text program text sets number left rest s left_is none };
  sets_are = s.sets_are;
}

pub so_far-only : (program : Program) (text : List ℕ) (sets : List (List Row)) (number : ℕ) (left rest : List ℕ) → IsProgram program → (s : IsReadSoFar program text sets number left)
    → left ≡ codes "end" ++ (10 ∷ rest) → length rest ≡ 0 → (predicates : List Predicate) → IsPredicatesText program predicates text → sets ≡ lists_of program predicates
so_far-only program text sets number left rest is s left_is none predicates is_text =
    let lines = same-lines (all_lines program predicates) (all_lines program s.before) (all-lines program predicates is is_text.allowed.of_program) (all-lines program s.before is s.allowed.of_program) (sym is_text.text_is ∙ whole-text program text sets number left rest s left_is none) in
    let texts = append_cancel_right (predicate_texts program predicates) (predicate_texts program s.before) (codes "end" ∷ []) lines in
    s.sets_are ∙ ap (lists_of program) (sym (s.only predicates is_text.allowed.of_program texts))

-- ---- a line is bad

begins : (program : Program) (before : List Predicate) → AreAllowed program before → Begin (IsTextOfPredicates program) (predicate_texts program before)
begins program before allowed = record {
  rest = codes "end" ++ (10 ∷ []);
  is_text = (
    before,
    record {
      allowed = allowed;
      text_is = sym (lines_text-more (predicate_texts program before) (codes "end") []) ∙ append-nil (lines_text (all_lines program before));
    },
  );
}

begins-whole : (program : Program) (before : List Predicate) → AreAllowed program before → Begin (IsTextOfPredicates program) (all_lines program before)
begins-whole program before allowed = record {
  rest = [];
  is_text = (before, record { allowed = allowed; text_is = append-nil (lines_text (all_lines program before)) });
}

-- A predicate with this line has room.
record HasNext (program : Program) (before : List Predicate) (line : List ℕ) : Type 0 where
  next : Predicate
  is_line : IsLineOf program next line
  has_room : HasRoom before next

has-next : (program : Program) (before ps : List Predicate) (line : List ℕ) → AreAllowed program ps
    → ((qs : List Predicate) → AllByRecursion (IsPredicateOf program) qs → predicate_texts program qs ≡ predicate_texts program before → qs ≡ before)
    → GoesOn program ps (predicate_texts program before) line → HasNext program before line
has-next program before ps line allowed only on =
    let all : AllByRecursion (IsPredicateOf program) (on.front ++ on.next ∷ on.back) = subst (AllByRecursion (IsPredicateOf program)) on.are allowed.of_program in
    let front : on.front ≡ before = only on.front (AllByRecursion-front (IsPredicateOf program) on.front (on.next ∷ on.back) all) on.front_texts in
    let here : AreAllowed program (before ++ on.next ∷ on.back) = subst (AreAllowed program) (on.are ∙ ap (λ (f : List Predicate). f ++ on.next ∷ on.back) front) allowed in
    record {
      next = on.next;
      is_line = record { of_program = allowed-last program before on.next on.back here; line_is = sym on.next_text };
      has_room = allowed-room program before on.next on.back here;
    }

not-begin : (program : Program) (before : List Predicate) (line : List ℕ) → IsProgram program → AllByRecursion (IsPredicateOf program) before
    → ((qs : List Predicate) → AllByRecursion (IsPredicateOf program) qs → predicate_texts program qs ≡ predicate_texts program before → qs ≡ before)
    → IsLine line → line ≢ codes "end" → ((p : Predicate) → IsLineOf program p line → ¬ HasRoom before p) → ¬ Begin (IsTextOfPredicates program) (predicate_texts program before ++ line ∷ [])
not-begin program before line is of only is_line other none b =
    let xs = predicate_texts program before in
    let (ps, is_text) = b.is_text in
    let cut = cut-whole (xs ++ line ∷ []) (all_lines program ps) b.rest (more-lines xs line (predicates-lines program before is of) is_line) (all-lines program ps is is_text.allowed.of_program) is_text.text_is in
    let on = goes-on program ps xs cut.more line (cut.lines_are ∙ append_assoc xs (line ∷ []) cut.more) (predicates-no_end program before) other in
    let found = has-next program before ps line is_text.allowed only on in
    none found.next found.is_line found.has_room

pub so_far-bad : (program : Program) (text : List ℕ) (sets : List (List Row)) (number : ℕ) (left line rest : List ℕ) → IsProgram program → (s : IsReadSoFar program text sets number left)
    → left ≡ line ++ (10 ∷ rest) → IsLine line → line ≢ codes "end" → ((p : Predicate) → IsLineOf program p line → ¬ HasRoom s.before p) → IsBadLine (IsTextOfPredicates program) text number
so_far-bad program text sets number left line rest is s left_is is_line other none = record {
  before = predicate_texts program s.before;
  rest = left;
  are_lines = predicates-lines program s.before is s.allowed.of_program;
  text_is = s.text_is;
  number = s.number_is ∙ ap (λ (k : ℕ). k + 1) (sym (length-map s.before (predicate_text program)));
  begin = begins program s.before s.allowed;
  refused = Ended line rest is_line left_is (not-begin program s.before line is s.allowed.of_program s.only is_line other none);
}

-- no line feed comes any more

no-whole : (program : Program) (before ps : List Predicate) (left : List ℕ) → IsProgram program → AllByRecursion (IsPredicateOf program) before → AllByRecursion (IsPredicateOf program) ps → IsLine left
    → lines_text (predicate_texts program before) ++ left ≡ lines_text (all_lines program ps) → ⊥
no-whole program before ps left is of of' is_line e =
    let xs = predicate_texts program before in
    let ys = all_lines program ps in
    let x_lines = predicates-lines program before is of in
    let y_lines = all-lines program ps is of' in
    let whole : lines_text xs ++ left ≡ lines_text ys ++ [] = e ∙ sym (append-nil (lines_text ys)) in
    let few = cut-open xs ys left [] x_lines y_lines is_line whole in
    let cut = cut-lines ys xs [] left y_lines x_lines (sym whole) few in
    let no_ends : AllByRecursion (λ x. x ≢ codes "end") (ys ++ cut.more) = subst (AllByRecursion (λ x. x ≢ codes "end")) cut.lines_are (predicates-no_end program before) in
    (AllByRecursion-rest (λ x. x ≢ codes "end") (predicate_texts program ps) (codes "end" ∷ []) (AllByRecursion-front (λ x. x ≢ codes "end") ys cut.more no_ends)).0 refl

pub so_far-open : (program : Program) (text : List ℕ) (sets : List (List Row)) (number : ℕ) (left : List ℕ) → IsProgram program → (s : IsReadSoFar program text sets number left) → IsLine left
    → IsBadLine (IsTextOfPredicates program) text number
so_far-open program text sets number left is s is_line = record {
  before = predicate_texts program s.before;
  rest = left;
  are_lines = predicates-lines program s.before is s.allowed.of_program;
  text_is = s.text_is;
  number = s.number_is ∙ ap (λ (k : ℕ). k + 1) (sym (length-map s.before (predicate_text program)));
  begin = begins program s.before s.allowed;
  refused = NotEnded is_line (λ found. no-whole program s.before found.0 left is s.allowed.of_program found.1.allowed.of_program is_line found.1.text_is);
}

-- something stands behind the last line

not-longer : (program : Program) (before : List Predicate) (line : List ℕ) → IsProgram program → AllByRecursion (IsPredicateOf program) before → IsLine line
    → ¬ Begin (IsTextOfPredicates program) (all_lines program before ++ line ∷ [])
not-longer program before line is of is_line b =
    let xs = all_lines program before in
    let (ps, is_text) = b.is_text in
    let cut = cut-whole (xs ++ line ∷ []) (all_lines program ps) b.rest (more-lines xs line (all-lines program before is of) is_line) (all-lines program ps is is_text.allowed.of_program) is_text.text_is in
    end-last program ps (predicate_texts program before) cut.more line (cut.lines_are ∙ append_assoc xs (line ∷ []) cut.more ∙ append_assoc (predicate_texts program before) (codes "end" ∷ []) (line ∷ cut.more))

no-longer : (program : Program) (before ps : List Predicate) (rest : List ℕ) → IsProgram program → AllByRecursion (IsPredicateOf program) before → AllByRecursion (IsPredicateOf program) ps → 0 < length rest → IsLine rest
    → lines_text (all_lines program before) ++ rest ≡ lines_text (all_lines program ps) → ⊥
no-longer program before ps rest is of of' some is_line e =
    let xs = all_lines program before in
    let ys = all_lines program ps in
    let x_lines = all-lines program before is of in
    let y_lines = all-lines program ps is of' in
    let whole : lines_text xs ++ rest ≡ lines_text ys ++ [] = e ∙ sym (append-nil (lines_text ys)) in
    let few = cut-open xs ys rest [] x_lines y_lines is_line whole in
    let cut = cut-lines ys xs [] rest y_lines x_lines (sym whole) few in
    omega (arith, ap length cut.rest_is, length-append (lines_text cut.more) rest)

refused-behind : (program : Program) (before : List Predicate) (rest : List ℕ) → IsProgram program → AllByRecursion (IsPredicateOf program) before → 0 < length rest → IsLine rest ⊎ Marked 10 rest
    → IsRefused (IsTextOfPredicates program) (all_lines program before) rest
refused-behind program before rest is of some (inl is_line) = NotEnded is_line (λ found. no-longer program before found.0 rest is of found.1.allowed.of_program some is_line found.1.text_is)
refused-behind program before rest is of some (inr marked) = Ended marked.front marked.behind marked.split.plain marked.split.text_is (not-longer program before marked.front is of marked.split.plain)

pub so_far-behind : (program : Program) (text : List ℕ) (sets : List (List Row)) (number : ℕ) (left rest : List ℕ) → IsProgram program → (s : IsReadSoFar program text sets number left)
    → left ≡ codes "end" ++ (10 ∷ rest) → 0 < length rest → IsBadLine (IsTextOfPredicates program) text (number + 1)
so_far-behind program text sets number left rest is s left_is some = record {
  before = all_lines program s.before;
  rest = rest;
  are_lines = all-lines program s.before is s.allowed.of_program;
  text_is = s.text_is ∙ ap (λ (t : List ℕ). lines_text (predicate_texts program s.before) ++ t) left_is ∙ sym (lines_text-more (predicate_texts program s.before) (codes "end") rest);
  number = omega (arith, s.number_is, length-append (predicate_texts program s.before) (codes "end" ∷ []), length-map s.before (predicate_text program));
  begin = begins-whole program s.before s.allowed;
  refused = refused-behind program s.before rest is s.allowed.of_program some (marked_or_not 10 rest);
}
