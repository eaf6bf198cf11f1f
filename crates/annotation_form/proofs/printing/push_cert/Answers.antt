use Rattle.annotation_form.proofs.PrintedLines.{cert-fits}
use Rattle.annotation_form.proofs.printing.push_cert.Goals as goal

pub push_pairs-requires : goal.push_pairs-requires
push_pairs-requires c = cert-fits c.args.annotation.now.certificates c.args.n c.cert.result.now c.certificates.ensures.listed c.cert.ensures
