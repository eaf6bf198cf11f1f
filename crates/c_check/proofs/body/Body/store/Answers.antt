use Rattle.std.proofs.Common.{◌≡◌, [], ◌∷◌, ap, ap₂, ◌∙◌}
use Rattle.std.proofs.lemmas.Result.{on_ok_weaker}
use Rattle.c_check.specs.declared.instruction.Instruction.TheVariants as instruction
use Rattle.c_check.specs.Plan.{Stmt}
use Rattle.c_check.specs.Items as items
use Rattle.c_check.specs.Temporaries.{reads_of, stmt_need}
use Rattle.c_check.specs.inside.Found.{together, written}
use Rattle.c_check.proofs.Found.{wrote}
use Rattle.c_check.proofs.body.Body.store.Goals as goal

pub returns : goal.returns
returns c e is =
    let old = c.args.self.now in
    let it = c.args.assignment in
    let count = c.shared_count-count.ensures e (c.as_slice.ensures ∙ is) in
    let needs : c.reads.result ≡ stmt_need (Stmt.Assign it.from it.at it.variable e) = c.reads.ensures ∙ ap (λ n. reads_of (items.written it.variable n) n) count in
    on_ok_weaker c.push_needing.result (λ r. wrote c.args.self.now (Stmt.Assign it.from it.at it.variable e)
    (r ∙ ap₂ (λ n value. together old (written n (instruction.Assign (record it { value = value }) ∷ []))) needs is)) c.push_needing.ensures
