-- The words of instances and of reasons.
use Rattle.std.specs.Prelude.{ℕ, pos, List, ◌++◌, codes}
use Rattle.thr_base.specs.Number.{number_text}
use Rattle.farkas_cert.specs.declared.answers.LeaveKind.{LeaveKind}
use Rattle.farkas_cert.specs.declared.answers.LeaveKind.TheVariants as kind
use Rattle.horn_rules.specs.HomeText.{home_text}
use Rattle.horn_rules.specs.Instance.{Instance, Init, Own, Guar, Env, Inter}
use Rattle.derivation_tree.specs.declared.scope.System.{System}
use Rattle.derivation_tree.specs.declared.scope.System.TheVariants as system
use Rattle.derivation_tree.specs.declared.scope.TreeLeft.{TreeLeft}
use Rattle.derivation_tree.specs.declared.scope.TreeLeft.TheVariants as left
use Rattle.core_steps.specs.State.{Reason, Facts, Jobs, Refinements, Predicates, JobLeft, RootLeft, Unsafe, Memory}

-- a number
abbrev pub numeral : ℕ → List ℕ
numeral n = number_text (pos n)

-- a blank and a number
abbrev pub behind_blank : ℕ → List ℕ
behind_blank n = codes " " ++ numeral n

-- an instance over the ids of facts: `own 3 2` is that of fact 3 and edge 2
abbrev pub instance_text : Instance ℕ → List ℕ
instance_text (Init i) = codes "init" ++ behind_blank i
instance_text (Own f e) = codes "own" ++ (behind_blank f ++ behind_blank e)
instance_text (Guar f e) = codes "guar" ++ (behind_blank f ++ behind_blank e)
instance_text (Env f t) = codes "env" ++ (behind_blank f ++ behind_blank t)
instance_text (Inter f g e) = codes "inter" ++ (behind_blank f ++ (behind_blank g ++ behind_blank e))

-- how a solver leaves a system
abbrev pub kind_text : LeaveKind → List ℕ
kind_text kind.Overflow = codes "overflow"
kind_text kind.Rows = codes "rows"

-- a system of a tree
abbrev pub system_text : System → List ℕ
system_text system.Cut = codes "cut"
system_text system.Full = codes "full"
system_text system.Chain = codes "chain"

-- why the tree of this fact is left
abbrev pub left_text : ℕ → TreeLeft → List ℕ
left_text id (left.Tree n) = codes "tree" ++ (behind_blank n ++ behind_blank id)
left_text id (left.Wide system) = codes "wide" ++ (behind_blank id ++ (codes " " ++ system_text system))
left_text id (left.Leaves system kind) = kind_text kind ++ (codes " tree" ++ (behind_blank id ++ (codes " " ++ system_text system)))
left_text id (left.Interpolant system k cert) = codes "interpolant" ++ (behind_blank id ++ behind_blank k)
left_text id left.Unrefinable = codes "unrefinable" ++ behind_blank id

-- why a run stops
abbrev pub reason_text : Reason → List ℕ
reason_text (Facts n) = codes "facts" ++ behind_blank n
reason_text (Jobs n) = codes "jobs" ++ behind_blank n
reason_text (Refinements n) = codes "refinements" ++ behind_blank n
reason_text (Predicates home) = codes "predicates " ++ home_text home
reason_text (JobLeft instance kind) = kind_text kind ++ (codes " job " ++ instance_text instance)
reason_text (RootLeft id left) = left_text id left
reason_text (Unsafe run) = codes "unsafe"
reason_text Memory = codes "memory"
