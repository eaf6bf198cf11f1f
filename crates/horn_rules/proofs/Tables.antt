-- The text of a table.
use Rattle.std.proofs.Common.{◌≡◌, ℕ, suc, List, [], ◌∷◌, ◌++◌, codes, refl, sym, ap, ap₂, subst, inl, inr, ◌∙◌, arith}
use Rattle.std.specs.Prelude.{◌↔◌, AllPairs}
use Rattle.std.specs.List.{Contains, flat_map}
use Rattle.std.specs.declared.cmp.Ordering.TheVariants.{Equal}
use Rattle.std.proofs.lemmas.Cmp.{tied_itself}
use Rattle.thr_base.specs.declared.names.RuleName.{RuleName}
use Rattle.transition_formula.specs.Program.{Program}
use Rattle.horn_rules.specs.Fact.{Sets, Fact}
use Rattle.horn_rules.specs.Least.{Least}
use Rattle.horn_rules.specs.Table.{Precedes, fact_order, fact_line, IsTableOf, IsTable}
use Rattle.horn_rules.specs.Laws.{TablesAreUnique}
use Rattle.horn_rules.proofs.Order.{fact-total}
use Rattle.horn_rules.proofs.Lists.{Contains-first, Contains-later, first-or-later, contains-nothing}

-- lines in order, of what stands in another list
pub table-is : (stood lines ordered : List Fact) (text : List ℕ) → lines ≡ stood → AllPairs Precedes ordered → ((fact : Fact) → Contains ordered fact ↔ Contains lines fact)
    → text ≡ flat_map fact_line ordered ++ codes "end\n" → IsTableOf (Contains stood) text
table-is stood lines ordered text are rising same written = record {
  facts = ordered;
  rising = rising;
  exact = λ fact. (λ c. subst (λ l. Contains l fact) are ((same fact).0 c), λ c. (same fact).1 (subst (λ l. Contains l fact) (sym are) c));
  written = written;
}

-- the table of what is said of the same facts
pub table-of-least : (program : Program) (rule : RuleName) (sets : Sets) (stood : List Fact) (text : List ℕ) → ((fact : Fact) → Contains stood fact ↔ Least program rule sets fact)
    → IsTableOf (Contains stood) text → IsTable program rule sets text
table-of-least program rule sets stood text are table = record {
  facts = table.facts;
  rising = table.rising;
  exact = λ fact. (λ c. (are fact).0 ((table.exact fact).0 c), λ least. (table.exact fact).1 ((are fact).1 least));
  written = table.written;
}

-- ---- one text at most

-- two rising lists of the same facts are one
same-facts : (xs ys : List Fact) → AllPairs Precedes xs → AllPairs Precedes ys → ((fact : Fact) → Contains xs fact → Contains ys fact) → ((fact : Fact) → Contains ys fact → Contains xs fact) → xs ≡ ys
same-facts [] [] rise_x rise_y to back = refl
same-facts [] (y ∷ ys) rise_x rise_y to back = absurd (contains-nothing y (back y (Contains-first y ys)))
same-facts (x ∷ xs) [] rise_x rise_y to back = absurd (contains-nothing x (to x (Contains-first x xs)))
same-facts (x ∷ xs) (y ∷ ys) rise_x rise_y to back =
    let same : x ≡ y = heads x xs y ys rise_x rise_y (to x (Contains-first x xs)) (back y (Contains-first y ys)) in
    let tails : xs ≡ ys = same-facts xs ys (rest x xs rise_x) (rest y ys rise_y)
    (λ fact there. elim (first-or-later y fact ys (to fact (Contains-later x fact xs there))) [
      | inl is ↦ absurd (no-self fact (subst (λ f. Precedes f fact) (same ∙ is) (before x xs rise_x fact there)))
      | inr in_ys ↦ in_ys
    ])
    (λ fact there. elim (first-or-later x fact xs (back fact (Contains-later y fact ys there))) [
      | inl is ↦ absurd (no-self fact (subst (λ f. Precedes f fact) (sym same ∙ is) (before y ys rise_y fact there)))
      | inr in_xs ↦ in_xs
    ]) in
    ap₂ (λ v vs. v ∷ vs) same tails
  where
    before : (x : Fact) (xs : List Fact) → AllPairs Precedes (x ∷ xs) → (fact : Fact) → Contains xs fact → Precedes x fact
    before x xs rise fact (k, within, at) = subst (Precedes x) at (rise 0 (suc k) fact (omega arith) (omega arith))

    rest : (x : Fact) (xs : List Fact) → AllPairs Precedes (x ∷ xs) → AllPairs Precedes xs
    rest x xs rise i j d below within = rise (suc i) (suc j) d (omega arith) (omega arith)

    no-self : (fact : Fact) → Precedes fact fact → ⊥
    no-self fact less = let tie : fact_order fact fact ≡ Equal = tied_itself fact-total fact in cc

    heads : (x : Fact) (xs : List Fact) (y : Fact) (ys : List Fact) → AllPairs Precedes (x ∷ xs) → AllPairs Precedes (y ∷ ys) → Contains (y ∷ ys) x → Contains (x ∷ xs) y → x ≡ y
    heads x xs y ys rise_x rise_y there back = elim (first-or-later y x ys there) [
      | inl is ↦ sym is
      | inr in_ys ↦ elim (first-or-later x y xs back) [
        | inl is ↦ is
        | inr in_xs ↦ absurd (no-self x (fact-total.trans x y x (before x xs rise_x y in_xs) (before y ys rise_y x in_ys)))
      ]
    ]

pub tables-unique : TablesAreUnique
tables-unique program rule sets one other a b =
    let same = same-facts a.facts b.facts a.rising b.rising (λ fact c. (b.exact fact).1 ((a.exact fact).0 c)) (λ fact c. (a.exact fact).1 ((b.exact fact).0 c)) in
    a.written ∙ ap (λ facts. flat_map fact_line facts ++ codes "end\n") same ∙ sym b.written
