-- Each fact that is kept has a tree of the program, with the fact's home.
use Rattle.std.proofs.Common.{◌≡◌, ℕ, List, [], ◌∷◌, Bool, true, false, Option, Some, None, refl, ◌∙◌, ap, ap₂}
use Rattle.std.specs.Prelude.{◌==◌, if◌then◌else◌, option_map}
use Rattle.transition_formula.specs.Program.{Program}
use Rattle.horn_rules.specs.Home.{Home}
use Rattle.horn_rules.specs.Fact.{Fact}
use Rattle.horn_rules.specs.Instance as instance
use Rattle.horn_rules.specs.Instance.{Instance, map_instance}
use Rattle.horn_rules.specs.Target.{target_at}
use Rattle.derivation_tree.specs.Facts.{KeptFact, fact_at, home_at, target_among}
use Rattle.derivation_tree.specs.Tree.{Tree, Init, Own, Guar, Env, Inter, tree_over, tree_of, IsTreeOf}
use Rattle.derivation_tree.specs.Laws.{HasTreeOf, FactsHaveTrees}

-- the tree of a premise, and its home
abbrev Found : Program → List KeptFact → ℕ → Type 0
Found program earlier id = (home : Home) → home_at earlier id ≡ Some home → HasTreeOf program earlier id home

-- where an instance leads from facts that have trees
by_kind : (program : Program) (earlier : List KeptFact) (kept : Instance ℕ) (home : Home) → ((id : ℕ) → Found program earlier id) → target_among program earlier kept ≡ Some home
    → (tree : Tree) × (tree_over (map_instance (tree_of earlier) kept) ≡ Some tree) × IsTreeOf program tree home
by_kind program earlier (instance.Init i) home found leads = (Init i, refl, leads)
by_kind program earlier (instance.Own f e) home found leads = of (home_at earlier f) refl leads
  where
    of : (o : Option Home) → home_at earlier f ≡ o → target_at program (instance.Own f e) o None ≡ Some home
        → (tree : Tree) × (tree_over (instance.Own (tree_of earlier f) e) ≡ Some tree) × IsTreeOf program tree home
    of None at to = cc
    of (Some h) at to =
        let below = found f h at in
        (Own below.tree e, ap (λ t. tree_over (instance.Own t e)) below.tree_is, ap (λ k. target_at program (instance.Own below.tree e) k None) below.of_program ∙ to)
by_kind program earlier (instance.Guar f e) home found leads = of (home_at earlier f) refl leads
  where
    of : (o : Option Home) → home_at earlier f ≡ o → target_at program (instance.Guar f e) o None ≡ Some home
        → (tree : Tree) × (tree_over (instance.Guar (tree_of earlier f) e) ≡ Some tree) × IsTreeOf program tree home
    of None at to = cc
    of (Some h) at to =
        let below = found f h at in
        (Guar below.tree e, ap (λ t. tree_over (instance.Guar t e)) below.tree_is, ap (λ k. target_at program (instance.Guar below.tree e) k None) below.of_program ∙ to)
by_kind program earlier (instance.Env f t) home found leads = of (home_at earlier f) (home_at earlier t) refl refl leads
  where
    of : (o p : Option Home) → home_at earlier f ≡ o → home_at earlier t ≡ p → target_at program (instance.Env f t) o p ≡ Some home
        → (tree : Tree) × (tree_over (instance.Env (tree_of earlier f) (tree_of earlier t)) ≡ Some tree) × IsTreeOf program tree home
    of None p at told to = cc
    of (Some h) None at told to = cc
    of (Some h) (Some k) at told to =
        let below = found f h at in
        let beside = found t k told in
        (Env below.tree beside.tree, ap₂ (λ x y. tree_over (instance.Env x y)) below.tree_is beside.tree_is, ap₂ (λ x y. target_at program (instance.Env below.tree beside.tree) x y) below.of_program beside.of_program ∙ to)
by_kind program earlier (instance.Inter f g e) home found leads = of (home_at earlier f) (home_at earlier g) refl refl leads
  where
    of : (o p : Option Home) → home_at earlier f ≡ o → home_at earlier g ≡ p → target_at program (instance.Inter f g e) o p ≡ Some home
        → (tree : Tree) × (tree_over (instance.Inter (tree_of earlier f) (tree_of earlier g) e) ≡ Some tree) × IsTreeOf program tree home
    of None p at other to = cc
    of (Some h) None at other to = cc
    of (Some h) (Some k) at other to =
        let below = found f h at in
        let beside = found g k other in
        (Inter below.tree beside.tree e, ap₂ (λ x y. tree_over (instance.Inter x y e)) below.tree_is beside.tree_is, ap₂ (λ x y. target_at program (instance.Inter below.tree beside.tree e) x y) below.of_program beside.of_program ∙ to)

pub facts-have-trees : FactsHaveTrees
facts-have-trees program [] id home kept at = cc
facts-have-trees program (f ∷ earlier) id home kept at = of (λ i h there. facts-have-trees program earlier i h kept.2 there) (f.id == id) refl at
  where
    of : ((i : ℕ) → Found program earlier i) → (b : Bool) → (f.id == id) ≡ b → option_map (λ (fact : Fact). fact.home) (if b then Some f.fact else fact_at earlier id) ≡ Some home → HasTreeOf program (f ∷ earlier) id home
    of found true is there =
        let same : f.fact.home ≡ home = cc in
        let (tree, over, of_program) = by_kind program earlier f.kept home found (kept.0 ∙ ap Some same) in
        record { tree = tree; tree_is = ap (λ (b : Bool). if b then tree_over (map_instance (tree_of earlier) f.kept) else tree_of earlier id) is ∙ over; of_program = of_program }
    of found false is there =
        let below = found id home there in
        record { tree = below.tree; tree_is = ap (λ (b : Bool). if b then tree_over (map_instance (tree_of earlier) f.kept) else tree_of earlier id) is ∙ below.tree_is; of_program = below.of_program }
