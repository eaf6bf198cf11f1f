-- What stands for what is left.
use Rattle.derivation_tree.specs.declared.left.LeftCause.{LeftCause}
use Rattle.derivation_tree.specs.declared.left.LeftCause.TheVariants.{Job, Tree}
use Rattle.derivation_tree.specs.Kept.{Leaving, OfJob, OfTree}

abbrev pub leaving_of : LeftCause → Leaving
leaving_of (Job job kind) = OfJob job kind
leaving_of (Tree kept left) = OfTree kept left
