-- What an instance of a rule rests on.
use Rattle.std.specs.Prelude.{List, [], ◌∷◌}
use Rattle.thr_base.specs.declared.names.FactId.{FactId}
use Rattle.thr_base.specs.declared.names.Instance.{Instance}
use Rattle.thr_base.specs.declared.names.Instance.TheVariants.{Init, Own, Guar, Env, Inter}

-- the ids of the premises of an instance, in the order in which it names them
abbrev pub premises_of : Instance → List FactId
premises_of (Init i) = []
premises_of (Own f e) = f ∷ []
premises_of (Guar f e) = f ∷ []
premises_of (Env f t) = f ∷ t ∷ []
premises_of (Inter f g e) = f ∷ g ∷ []
