-- What an answer on the rows with an atom's negation says of the atom.
use Rattle.lin_rows.specs.Row.{Row}
use Rattle.lin_rows.specs.System.{System}
use Rattle.farkas_cert.specs.Proof.{with_denial}
use Rattle.farkas_cert.proofs.Refutations.{refuted-has-no-point}
use Rattle.farkas_cert.specs.Decision.{IsEvidence}
use Rattle.rational_entail.specs.Entailment.{decided_in, Says}
use Rattle.rational_entail.specs.declared.denial.Entailed.{Entailed}
use Rattle.rational_entail.specs.declared.denial.Entailed.TheVariants as entailed

pub evidence-says : (system : System) (atom : Row) (answer : Entailed) → IsEvidence (with_denial system atom) (decided_in answer) → Says system atom answer
evidence-says system atom (entailed.Yes cert) evidence = (cert, evidence.proves.refutes)
evidence-says system atom (entailed.No x d) evidence = λ entails. refuted-has-no-point (with_denial system atom) x d entails evidence
evidence-says system atom (entailed.Leaves stage kind) evidence = tt
