use Rattle.std.proofs.Common.{◌≡◌, ◌+◌, ◌<◌, ◌≤◌, OnOk, true, false, option_map, length, refl, sym, ap, subst, ◌∙◌, arith}
use Rattle.c_check.specs.Plan.{postfix}
use Rattle.c_check.specs.Items.{few, over_temporaries, reads, shared_in}
use Rattle.thread_cfg.specs.declared.reading.Reading.{Reading}
use Rattle.thread_cfg.specs.Action.{compare_accesses, read_actions}
use Rattle.thread_cfg.specs.inside.Adds.{AddsActions, AreWithin}
use Rattle.thread_cfg.specs.inside.Passing.{location_of}
use Rattle.thread_cfg.specs.inside.Sizes.{shared_variables}
use Rattle.thread_cfg.proofs.PassSteps.{on_ok-then}
use Rattle.thread_cfg.proofs.ReadLemmas.{compare-adds, compare-few, compare-reads_within, compare-test_within, compare_accesses-is, comparison-room, few-false, few-true, left-within, variables-append, variables-is, within-front}
use Rattle.thread_cfg.proofs.thread.Found.add_comparison.Goals as goal

pub add_test-requires : goal.add_test-requires
add_test-requires c =
    let a = c.requires.within.0 in
    let b = c.requires.within.1 in
    let q = c.args.comparison.now in
    let running = c.args.running.now in
    let t = option_map location_of c.args.on_true in
    let f = option_map location_of c.args.on_false in
    let ls = c.as_slice-left.result.now in
    let rs = c.as_slice-right.result.now in
    let is : ls ≡ postfix a = c.as_slice-left.ensures ∙ c.requires.within.2 in
    let also : rs ≡ postfix b = c.as_slice-right.ensures ∙ c.requires.within.3 in
    let n = compare_accesses-is c.shared_operations.result c.shared_operations-2.result ls rs a b is also c.shared_operations.ensures.value c.shared_operations-2.ensures.value in
    let one : few (compare_accesses a b) ≡ true = few-true (compare_accesses a b) (subst (λ k. k < 2) n c.if-shared_operations-lt2.true) in
    record {
      within = (
        a,
        b,
        (is, also),
        subst (AreWithin running) (compare-few running.temporary c.args.at.0 q.from q.mark a b t f one) c.requires.within.4,
      );
    }

pub returns-then-shared_operations-lt2 : goal.returns-then-shared_operations-lt2
returns-then-shared_operations-lt2 c a b left right =
    let q = c.args.comparison.now in
    let running = c.args.running.now in
    let t = option_map location_of c.args.on_true in
    let f = option_map location_of c.args.on_false in
    let ls = c.as_slice-left.result.now in
    let rs = c.as_slice-right.result.now in
    let is : ls ≡ postfix a = c.as_slice-left.ensures ∙ left in
    let also : rs ≡ postfix b = c.as_slice-right.ensures ∙ right in
    let n = compare_accesses-is c.shared_operations.result c.shared_operations-2.result ls rs a b is also c.shared_operations.ensures.value c.shared_operations-2.ensures.value in
    let one : few (compare_accesses a b) ≡ true = few-true (compare_accesses a b) (subst (λ k. k < 2) n c.if-shared_operations-lt2.true) in
    subst (λ l. OnOk c.add_test.result (AddsActions running c.args.at.0 c.args.self.now c.add_test.new.self l))
    (sym (compare-few running.temporary c.args.at.0 q.from q.mark a b t f one))
    (c.add_test.ensures a b (is, also))

pub add_reads-requires-clause-room : goal.add_reads-requires-clause-room
add_reads-requires-clause-room c =
    let q = c.args.comparison.now in
    let running = c.args.running.now in
    let t = option_map location_of c.args.on_true in
    let f = option_map location_of c.args.on_false in
    let ls = c.as_slice-left.result.now in
    let rs = c.as_slice-right.result.now in
    omega (
      arith,
      c.requires.room,
      comparison-room q c.shared_operations.result c.shared_operations-2.result ls rs c.as_slice-left.ensures c.as_slice-right.ensures
          c.shared_operations.ensures.value c.shared_operations-2.ensures.value c.if-shared_operations-lt2.false,
    )

pub add_reads-requires-clause-within : goal.add_reads-requires-clause-within
add_reads-requires-clause-within c =
    let a = c.requires.within.0 in
    let b = c.requires.within.1 in
    let q = c.args.comparison.now in
    let running = c.args.running.now in
    let t = option_map location_of c.args.on_true in
    let f = option_map location_of c.args.on_false in
    let ls = c.as_slice-left.result.now in
    let rs = c.as_slice-right.result.now in
    let is : ls ≡ postfix a = c.as_slice-left.ensures ∙ c.requires.within.2 in
    let also : rs ≡ postfix b = c.as_slice-right.ensures ∙ c.requires.within.3 in
    let n = compare_accesses-is c.shared_operations.result c.shared_operations-2.result ls rs a b is also c.shared_operations.ensures.value c.shared_operations-2.ensures.value in
    let more : few (compare_accesses a b) ≡ false = few-false (compare_accesses a b) (subst (λ k. 2 ≤ k) n c.if-shared_operations-lt2.false) in
    let vs = shared_variables ls in
    let ws = shared_variables rs in
    let all = compare-reads_within running c.args.at.0 q.from q.mark a b t f ls rs is also more c.requires.within.4 in
    within-front running (read_actions q.from (reads running.temporary vs) c.args.at.0) (read_actions q.from (reads (running.temporary + length vs) ws) (c.args.at.0 + length vs))
    (subst (AreWithin running) (variables-append q.from running.temporary c.args.at.0 vs ws) all)

pub add_reads-requires-else-shared_operations-lt2-clause-room :
    goal.add_reads-requires-else-shared_operations-lt2-clause-room
add_reads-requires-else-shared_operations-lt2-clause-room c =
    let q = c.args.comparison.now in
    let running = c.args.running.now in
    let t = option_map location_of c.args.on_true in
    let f = option_map location_of c.args.on_false in
    let ls = c.as_slice-left.result.now in
    let rs = c.as_slice-right.result.now in
    omega (
      arith,
      c.requires.room,
      c.in_ok-middle.ensures.at,
      comparison-room q c.shared_operations.result c.shared_operations-2.result ls rs c.as_slice-left.ensures c.as_slice-right.ensures
          c.shared_operations.ensures.value c.shared_operations-2.ensures.value c.if-shared_operations-lt2.false,
    )

pub add_reads-requires-else-shared_operations-lt2-clause-within :
    goal.add_reads-requires-else-shared_operations-lt2-clause-within
add_reads-requires-else-shared_operations-lt2-clause-within c =
    let a = c.requires.within.0 in
    let b = c.requires.within.1 in
    let q = c.args.comparison.now in
    let running = c.args.running.now in
    let t = option_map location_of c.args.on_true in
    let f = option_map location_of c.args.on_false in
    let ls = c.as_slice-left.result.now in
    let rs = c.as_slice-right.result.now in
    let is : ls ≡ postfix a = c.as_slice-left.ensures ∙ c.requires.within.2 in
    let also : rs ≡ postfix b = c.as_slice-right.ensures ∙ c.requires.within.3 in
    let n = compare_accesses-is c.shared_operations.result c.shared_operations-2.result ls rs a b is also c.shared_operations.ensures.value c.shared_operations-2.ensures.value in
    let more : few (compare_accesses a b) ≡ false = few-false (compare_accesses a b) (subst (λ k. 2 ≤ k) n c.if-shared_operations-lt2.false) in
    let first : Reading = record { at = c.args.at; temporary = running.temporary } in
    left-within running q.from first c.in_ok-middle.middle (shared_variables ls) (shared_variables rs) c.in_ok-middle.ensures.at c.in_ok-middle.ensures.temporary
    (compare-reads_within running c.args.at.0 q.from q.mark a b t f ls rs is also more c.requires.within.4)

pub add_test-requires-else-shared_operations-lt2 :
    goal.add_test-requires-else-shared_operations-lt2
add_test-requires-else-shared_operations-lt2 c =
    let a = c.requires.within.0 in
    let b = c.requires.within.1 in
    let q = c.args.comparison.now in
    let running = c.args.running.now in
    let t = option_map location_of c.args.on_true in
    let f = option_map location_of c.args.on_false in
    let ls = c.as_slice-left.result.now in
    let rs = c.as_slice-right.result.now in
    let is : ls ≡ postfix a = c.as_slice-left.ensures ∙ c.requires.within.2 in
    let also : rs ≡ postfix b = c.as_slice-right.ensures ∙ c.requires.within.3 in
    let n = compare_accesses-is c.shared_operations.result c.shared_operations-2.result ls rs a b is also c.shared_operations.ensures.value c.shared_operations-2.ensures.value in
    let more : few (compare_accesses a b) ≡ false = few-false (compare_accesses a b) (subst (λ k. 2 ≤ k) n c.if-shared_operations-lt2.false) in
    let next : running.temporary + length (shared_in a) ≡ c.in_ok-middle.middle.temporary =
    ap (λ l. running.temporary + length l) (sym (variables-is ls a is)) ∙ sym c.in_ok-middle.ensures.temporary in
    record {
      within = (
        over_temporaries running.temporary a,
        over_temporaries (running.temporary + length (shared_in a)) b,
        ((a, is, refl), (b, also, ap (λ k. over_temporaries k b) next)),
        compare-test_within running c.args.at.0 q.from q.mark a b t f more c.requires.within.4,
      );
    }

pub returns-in_ok-last : goal.returns-in_ok-last
returns-in_ok-last c a b left right =
    let q = c.args.comparison.now in
    let running = c.args.running.now in
    let t = option_map location_of c.args.on_true in
    let f = option_map location_of c.args.on_false in
    let ls = c.as_slice-left.result.now in
    let rs = c.as_slice-right.result.now in
    let is : ls ≡ postfix a = c.as_slice-left.ensures ∙ left in
    let also : rs ≡ postfix b = c.as_slice-right.ensures ∙ right in
    let n = compare_accesses-is c.shared_operations.result c.shared_operations-2.result ls rs a b is also c.shared_operations.ensures.value c.shared_operations-2.ensures.value in
    let more : few (compare_accesses a b) ≡ false = few-false (compare_accesses a b) (subst (λ k. 2 ≤ k) n c.if-shared_operations-lt2.false) in
    let first : Reading = record { at = c.args.at; temporary = running.temporary } in
    let next : running.temporary + length (shared_in a) ≡ c.in_ok-middle.middle.temporary =
    ap (λ l. running.temporary + length l) (sym (variables-is ls a is)) ∙ sym c.in_ok-middle.ensures.temporary in
    on_ok-then
    (compare-adds running q.from q.mark a b t f ls rs c.args.self.now c.add_reads.new.self c.add_reads-else-shared_operations-lt2.new.self
    c.add_test-else-shared_operations-lt2.new.self first c.in_ok-middle.middle c.in_ok-last.last is also more refl c.in_ok-middle.ensures c.in_ok-last.ensures)
    c.add_test-else-shared_operations-lt2.result
    (c.add_test-else-shared_operations-lt2.ensures (over_temporaries running.temporary a) (over_temporaries (running.temporary + length (shared_in a)) b)
    ((a, is, refl), (b, also, ap (λ k. over_temporaries k b) next)))
