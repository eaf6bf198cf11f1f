-- The lines of an annotation, one after another.
use Rattle.std.proofs.Common.{◌≡◌, ℕ, zero, suc, ◌+◌, ◌-◌, ◌<◌, ◌≤◌, List, [], ◌∷◌, ◌++◌, map, length, drop, get_or, codes, Some, refl, sym, ap, ap₂, subst, ◌∙◌, arith, append_assoc}
use Rattle.std.specs.Prelude.{max}
use Rattle.std.specs.List.{slice_get, flat_map, AllByRecursion}
use Rattle.std.proofs.lemmas.Grind.{flat_map-append}
use Rattle.std.proofs.lemmas.Option.{slice_get-get_or}
use Rattle.lin_rows.specs.Row.{Row}
use Rattle.lin_rows.proofs.Lists.{AllByRecursion-front, AllByRecursion-rest, AllByRecursion-slice_get}
use Rattle.farkas_cert.specs.Cert.{Pairs}
use Rattle.transition_formula.specs.Program.{Program, at_number}
use Rattle.transition_formula.proofs.Lookups.{drop-slice_get}
use Rattle.horn_rules.specs.Home.{Home, homes}
use Rattle.predicate_sets.specs.Sets.{set_at}
use Rattle.annotation_form.specs.Lines.{lines_text}
use Rattle.annotation_form.specs.Certificates.{AreListed}
use Rattle.annotation_form.specs.Annotation.{Annotation, Group, group_of}
use Rattle.annotation_form.specs.declared.annotation.Group.{Group as StoredGroup}
use Rattle.annotation_form.specs.AnnotationText.{Line, Holds, line_text, predicate_lines}
use Rattle.annotation_form.specs.Whole.{IsWhole, AreByFirstUse, named_by}
use Rattle.annotation_form.specs.inside.Printing.{shown, AllFit, AreThere, IsThere}
use Rattle.annotation_form.proofs.WholeLaws.{known-below}

-- the text of lines, with one more behind them
pub lines_text-shown : (program : Program) (lines : List Line) (last : List ℕ) → lines_text (map (line_text program) lines ++ last ∷ []) ≡ shown program lines ++ (last ++ codes "\n")
lines_text-shown program [] last = refl
lines_text-shown program (line ∷ lines) last =
    ap (λ (t : List ℕ). line_text program line ++ (10 ∷ t)) (lines_text-shown program lines last)
    ∙ sym (append_assoc (line_text program line) (codes "\n") (shown program lines ++ (last ++ codes "\n")))
    ∙ sym (append_assoc (line_text program line ++ codes "\n") (shown program lines) (last ++ codes "\n"))

shown-append : (program : Program) (xs ys : List Line) → shown program (xs ++ ys) ≡ shown program xs ++ shown program ys
shown-append program xs ys = flat_map-append (λ line. line_text program line ++ codes "\n") xs ys

-- the parts of a text that are appended one after another
pub printed-whole : (program : Program) (head text t1 t2 t3 t4 whole : List ℕ) (a b c : List Line) → text ≡ [] → t1 ≡ text ++ (head ++ codes "\n") → t2 ≡ t1 ++ shown program a → t3 ≡ t2 ++ shown program b
    → t4 ≡ t3 ++ shown program c → whole ≡ t4 ++ codes "end\n" → whole ≡ lines_text (head ∷ (map (line_text program) (a ++ (b ++ c)) ++ codes "end" ∷ []))
printed-whole program head text t1 t2 t3 t4 whole a b c e e1 e2 e3 e4 e5 =
    e5 ∙ ap (λ (t : List ℕ). t ++ codes "end\n") (e4 ∙ ap (λ (t : List ℕ). t ++ shown program c) (e3 ∙ ap (λ (t : List ℕ). t ++ shown program b) (e2 ∙ ap (λ (t : List ℕ). t ++ shown program a) (e1 ∙ ap (λ (t : List ℕ). t ++ (head ++ codes "\n")) e))))
    ∙ regroup (shown program a) (shown program b) (shown program c)
    ∙ ap (λ (t : List ℕ). head ++ (10 ∷ (t ++ codes "end\n"))) (sym (shown-append program a (b ++ c) ∙ ap (λ (t : List ℕ). shown program a ++ t) (shown-append program b c)))
    ∙ ap (λ (t : List ℕ). head ++ (10 ∷ t)) (sym (lines_text-shown program (a ++ (b ++ c)) (codes "end")))
  where
    regroup : (x y z : List ℕ) → ((((head ++ codes "\n") ++ x) ++ y) ++ z) ++ codes "end\n" ≡ head ++ (10 ∷ ((x ++ (y ++ z)) ++ codes "end\n"))
    regroup x y z = simp append_assoc

-- ---- the lines of one home more

next-lines : (program : Program) (hs : List Home) (sets : List (List Row)) (k : ℕ) (home : Home) (atoms : List Row) → slice_get hs k ≡ Some home → slice_get sets k ≡ Some atoms
    → predicate_lines (drop k hs) (drop k sets) ≡ map (λ atom. Holds (record { home = home; atom = atom })) atoms ++ predicate_lines (drop (k + 1) hs) (drop (k + 1) sets)
next-lines program hs sets k home atoms at there =
    let one : suc k ≡ k + 1 = omega arith in
    ap₂ (λ (h : List Home) (s : List (List Row)). predicate_lines h s) (drop-slice_get hs k home at) (drop-slice_get sets k atoms there)
    ∙ ap (λ (j : ℕ). map (λ atom. Holds (record { home = home; atom = atom })) atoms ++ predicate_lines (drop j hs) (drop j sets)) one

-- what is printed so far, with what is left, stays the whole
pub printed-home : (program : Program) (hs : List Home) (sets : List (List Row)) (k : ℕ) (home : Home) (atoms : List Row) (text later start : List ℕ) → at_number hs (k + 1) ≡ Some home → atoms ≡ set_at sets (k + 1)
    → k < length sets → later ≡ text ++ shown program (map (λ atom. Holds (record { home = home; atom = atom })) atoms)
    → text ++ shown program (predicate_lines (drop k hs) (drop k sets)) ≡ start
    → later ++ shown program (predicate_lines (drop (k + 1) hs) (drop (k + 1) sets)) ≡ start
printed-home program hs sets k home atoms text later start at are within grown so_far =
    let here = map (λ atom. Holds (record { home = home; atom = atom })) atoms in
    let rest = predicate_lines (drop (k + 1) hs) (drop (k + 1) sets) in
    let one : k + 1 ≡ suc k = omega arith in
    let place : k + 1 - 1 ≡ k = omega arith in
    let found : slice_get sets k ≡ Some atoms = slice_get-get_or sets k [] within ∙ ap Some (sym (are ∙ ap (λ (j : ℕ). get_or sets j []) place)) in
    let home_at : slice_get hs k ≡ Some home = sym (ap (at_number hs) one) ∙ at in
    ap (λ (t : List ℕ). t ++ shown program rest) grown
    ∙ append_assoc text (shown program here) (shown program rest)
    ∙ ap (λ (t : List ℕ). text ++ t) (sym (shown-append program here rest))
    ∙ ap (λ (lines : List Line). text ++ shown program lines) (sym (next-lines program hs sets k home atoms home_at found))
    ∙ so_far

-- ---- certificates

all-fit : (last : ℕ) (pairs : Pairs) → AreListed last pairs → AllFit pairs
all-fit last [] listed = tt
all-fit last ((k, m) ∷ pairs) listed = (listed.2, all-fit k pairs listed.4)

pub cert-fits : (certificates : List Pairs) (n : ℕ) (pairs : Pairs) → AllByRecursion (AreListed 0) certificates → at_number certificates n ≡ Some pairs → AllFit pairs
cert-fits certificates zero pairs all at = cc
cert-fits certificates (suc k) pairs all at = all-fit 0 pairs (AllByRecursion-slice_get (AreListed 0) certificates k pairs all at)

-- those that are used in order are there
used-are_there : (known : ℕ) (numbers : List ℕ) (certificates : List Pairs) → AreByFirstUse known numbers (length certificates) → AreThere certificates numbers
used-are_there known [] certificates uses = tt
used-are_there known (n ∷ numbers) certificates uses =
    let below = known-below (max known n) numbers (length certificates) uses.2 in
    ((omega (arith, uses.0), omega (arith, below)), used-are_there (max known n) numbers certificates uses.2)

groups-there : (certificates : List Pairs) (groups : List StoredGroup) → AreThere certificates (flat_map named_by (map group_of groups)) → AllByRecursion (λ group. AreThere certificates (named_by (group_of group))) groups
groups-there certificates [] all = tt
groups-there certificates (group ∷ groups) all = (
  AllByRecursion-front (IsThere certificates) (named_by (group_of group)) (flat_map named_by (map group_of groups)) all,
  groups-there certificates groups (AllByRecursion-rest (IsThere certificates) (named_by (group_of group)) (flat_map named_by (map group_of groups)) all),
)

-- the groups of a whole annotation name certificates that are there
pub named-are_there : (program : Program) (annotation : Annotation) (groups : List StoredGroup) → IsWhole program annotation → map group_of groups ≡ annotation.groups
    → AllByRecursion (λ group. AreThere annotation.certificates (named_by (group_of group))) groups
named-are_there program annotation groups whole are =
    groups-there annotation.certificates groups (subst (λ (gs : List Group). AreThere annotation.certificates (flat_map named_by gs)) (sym are) (used-are_there 0 (flat_map named_by annotation.groups) annotation.certificates whole.by_first_use))
