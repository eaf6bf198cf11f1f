-- Instances of the rules: from which facts a fact may follow. What a fact is here is left open: a fact, what it says, or a number that
-- stands for it. Threads and edges are named by their numbers.
use Rattle.std.specs.Prelude.{ℕ, List, [], ◌∷◌, Option, Some, None}
use Rattle.thr_base.specs.declared.names.RuleName.{RuleName}
use Rattle.thr_base.specs.declared.names.RuleName.TheVariants.{Rg, Og}

pub data Instance (F : Type 0) : Type 0 where
  -- thread i is at its start
  Init : ℕ → Instance F
  -- a step of f's thread from there by its edge e
  Own : F → ℕ → Instance F
  -- that step, as the other threads see it
  Guar : F → ℕ → Instance F
  -- f's thread stays where it is in a step of another thread, of which t tells
  Env : F → F → Instance F
  -- f's thread stays where it is in a step of g's thread from there by its edge e
  Inter : F → F → ℕ → Instance F

-- The rule has instances of this kind. By rely-guarantee the steps of a thread are told to the others; by the rule of Owicki and Gries
-- they interfere with the others themselves.
abbrev pub HasKind : {F : Type 0} → RuleName → Instance F → Type 0
HasKind Rg (Inter f g e) = ⊥
HasKind Og (Guar f e) = ⊥
HasKind Og (Env f t) = ⊥
HasKind rule instance = Unit {0}

-- the first premise of an instance, and the second
abbrev pub first_of : {F : Type 0} → Instance F → Option F
first_of (Init i) = None
first_of (Own f e) = Some f
first_of (Guar f e) = Some f
first_of (Env f t) = Some f
first_of (Inter f g e) = Some f

abbrev pub second_of : {F : Type 0} → Instance F → Option F
second_of (Init i) = None
second_of (Own f e) = None
second_of (Guar f e) = None
second_of (Env f t) = Some t
second_of (Inter f g e) = Some g

-- the premises, in the order in which the instance names them
abbrev pub premises_of : {F : Type 0} → Instance F → List F
premises_of (Init i) = []
premises_of (Own f e) = f ∷ []
premises_of (Guar f e) = f ∷ []
premises_of (Env f t) = f ∷ t ∷ []
premises_of (Inter f g e) = f ∷ g ∷ []

-- the same instance over what stands for each premise
abbrev pub map_instance : {F G : Type 0} → (F → G) → Instance F → Instance G
map_instance change (Init i) = Init i
map_instance change (Own f e) = Own (change f) e
map_instance change (Guar f e) = Guar (change f) e
map_instance change (Env f t) = Env (change f) (change t)
map_instance change (Inter f g e) = Inter (change f) (change g) e
