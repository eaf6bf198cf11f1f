-- What is known in front of an instruction of an atomic block.
use Rattle.std.proofs.Common.{◌≡◌, ℕ, zero, suc, ◌+◌, ◌-◌, ◌<◌, List, [], ◌∷◌, take, drop, get_or, length, Result, Ok, Err, OnOk, refl, sym, ap, ap₂, ◌∙◌, arith}
use Rattle.std.proofs.lemmas.List.{drop_more}
use Rattle.c_check.specs.declared.instruction.Instruction.{Instruction}
use Rattle.c_check.specs.declared.instruction.Instruction.TheVariants as instruction
use Rattle.thread_cfg.specs.declared.pass.Pass.{Pass}
use Rattle.thread_cfg.specs.inside.Pass.{Passed, passed, passed_all, passed_atomic, passed_inside}
use Rattle.thread_cfg.specs.inside.Passing.{block_by, block_from, passed_at, passed_of}

-- what holds where a result is `Ok`, from something else that does
pub on_ok-then : {X E P Q : Type 0} → (P → Q) → (r : Result X E) → OnOk r P → OnOk r Q
on_ok-then f (Ok x) h = f h
on_ok-then f (Err e) h = tt

-- one more instruction of a block
pub block_from-next : (code : List Instruction) (index end : ℕ) (d : Instruction) → index < end → index < length code
    → block_from code index end ≡ get_or code index d ∷ block_from code (index + 1) end
block_from-next code index end d before within =
    let one : end - index ≡ suc (end - (index + 1)) = omega arith in
    ap₂ (λ n l. take n l) one (drop_more code index d within)

-- outside atomic blocks nothing is put together
pub block_by-nil : (depth : ℕ) → block_by depth [] ≡ []
block_by-nil zero = refl
block_by-nil (suc more) = refl

-- behind a block's first word
pub inside-atomic : (new old : Pass) (code : List Instruction) (index : ℕ) (d : Instruction) (from more : ℕ) → index < old.end → index < length code
    → get_or code index d ≡ instruction.Atomic from → old.depth ≡ suc more → new.depth ≡ more → new.end ≡ old.end
    → passed_of new (block_by more (instruction.Atomic from ∷ block_from code (index + 1) old.end)) ≡ passed_atomic from more (passed_of old (block_from code (index + 1) old.end))
    → passed_at new code index ≡ passed_inside more (get_or code index d) (passed_at old code (index + 1))
inside-atomic new old code index d from more before within is deep depth end e =
    let block = block_from code (index + 1) old.end in
    ap₂ (λ n k. passed_of new (block_by n (block_from code index k))) depth end
    ∙ ap (λ l. passed_of new (block_by more l)) (block_from-next code index old.end d before within ∙ ap (λ i. i ∷ block) is)
    ∙ e
    ∙ ap₂ (λ i n. passed_inside more i (passed_of old (block_by n block))) (sym is) (sym deep)

-- behind the end of a block
pub inside-end_atomic : (old : Pass) (code : List Instruction) (index : ℕ) (d : Instruction) (more : ℕ) → index < old.end → index < length code
    → get_or code index d ≡ instruction.EndAtomic → old.depth ≡ suc more
    → passed_at (record old { depth = old.depth + 1 }) code index ≡ passed_inside more (get_or code index d) (passed_at old code (index + 1))
inside-end_atomic old code index d more before within is deep =
    let block = block_from code (index + 1) old.end in
    let with_depth = λ (n : ℕ) (l : List Instruction). passed_of (record old { depth = n }) l in
    let deeper : old.depth + 1 ≡ suc (suc more) = omega arith in
    ap (λ n. with_depth n (block_by n (block_from code index old.end))) deeper
    ∙ ap (with_depth (suc (suc more))) (block_from-next code index old.end d before within ∙ ap (λ i. i ∷ block) is)
    ∙ ap₂ (λ i n. passed_inside more i (passed_of old (block_by n block))) (sym is) (sym deep)

-- any other instruction of a block
passed_inside-other : (more : ℕ) (i : Instruction) (s : Passed) → ((from : ℕ) → i ≡ instruction.Atomic from → ⊥) → (i ≡ instruction.EndAtomic → ⊥)
    → passed_inside more i s ≡ record s { block = i ∷ s.block }
passed_inside-other more (instruction.Atomic from) s first last = absurd (first from refl)
passed_inside-other more instruction.EndAtomic s first last = absurd (last refl)
passed_inside-other more _ s first last = refl

-- inside a block, an instruction that neither begins nor ends one is passed
pub inside-other : (old : Pass) (code : List Instruction) (index : ℕ) (d : Instruction) (more : ℕ) → index < old.end → index < length code
    → ((from : ℕ) → get_or code index d ≡ instruction.Atomic from → ⊥) → (get_or code index d ≡ instruction.EndAtomic → ⊥) → old.depth ≡ suc more
    → passed_at old code index ≡ passed_inside more (get_or code index d) (passed_at old code (index + 1))
inside-other old code index d more before within first last deep =
    let i = get_or code index d in
    let block = block_from code (index + 1) old.end in
    ap (λ n. passed_of old (block_by n (block_from code index old.end))) deep
    ∙ ap (passed_of old) (block_from-next code index old.end d before within)
    ∙ sym (passed_inside-other more i (passed_of old block) first last)
    ∙ ap (λ n. passed_inside more i (passed_of old (block_by n block))) (sym deep)

-- one more instruction
pub passed_all-next : (exit : ℕ) (code : List Instruction) (index k : ℕ) (d : Instruction) (s : Passed) → index ≡ k + 1 → k < length code
    → passed_all exit (drop k code) s ≡ passed exit (get_or code k d) (passed_all exit (drop index code) s)
passed_all-next exit code index k d s e within =
    ap (λ l. passed_all exit l s) (drop_more code k d within ∙ ap (λ n. get_or code k d ∷ drop n code) (sym e))
