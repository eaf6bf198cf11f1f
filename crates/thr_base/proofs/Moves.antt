-- How reads and writes that follow each other add up.
use Rattle.std.proofs.Common.{◌≡◌, ℕ, ◌+◌, ◌<◌, ◌≤◌, min, List, ◌++◌, take, drop, length, length-drop, ◌-◌, Option, Some, None, option_map, refl, sym, ◌∙◌, ap, subst, arith, append_assoc}
use Rattle.std.proofs.Math.Seq.{take-add, take-length}
use Rattle.thr_base.specs.Outside.{StoreMeaning, SinkMeaning, OpenFile, Untold, Left, Files, file_named, Appends, Writes, count_end}

-- what was read, followed by what is left, is the file
abbrev pub RestIs : Option Files → List ℕ → List ℕ → OpenFile → Type 0
RestIs None name so_far file = file ≡ Untold
RestIs (Some told) name so_far file =
    (rest : List ℕ) × (file ≡ Left rest) × (file_named name told ≡ Some (so_far ++ rest))

-- these bytes were read of the file since it was opened
pub record IsReading (old : StoreMeaning) (name so_far : List ℕ) (now : StoreMeaning) : Type 0 where
  pub rest : RestIs old.files name so_far now.file
  pub counted : min (old.taken + length so_far) count_end ≤ now.taken
  pub grew : old.taken ≤ now.taken
  pub kept : old.faults ≤ now.faults
  pub same : now ≡ record old { file = now.file; taken = now.taken; faults = now.faults }

append-twice : (o : Option (List ℕ)) (a b c : List ℕ) → a ++ b ≡ c
    → option_map (λ so_far. so_far ++ b) (option_map (λ so_far. so_far ++ a) o) ≡ option_map (λ so_far. so_far ++ c) o
append-twice None a b c e = refl
append-twice (Some bytes) a b c e = ap Some (append_assoc bytes a b ∙ ap (λ (l : List ℕ). bytes ++ l) e)

take-take : (i n : ℕ) (xs : List ℕ) → take i xs ++ take n (drop i xs) ≡ take (i + n) xs
take-take i n xs = sym (take-add i n xs)

take-rest : (i : ℕ) (xs : List ℕ) → take (length xs - i) (drop i xs) ≡ drop i xs
take-rest i xs = ap (λ (n : ℕ). take n (drop i xs)) (sym (length-drop i xs)) ∙ take-length (drop i xs)

pub Appends-more : (old : SinkMeaning) (bytes : List ℕ) (i : ℕ) (now : SinkMeaning) (n : ℕ) (new : SinkMeaning)
    → i ≤ length bytes → Appends old (take i bytes) now → Writes now (take (length bytes - i) (drop i bytes)) n new
    → (i + n ≤ length bytes) × (0 < length bytes - i → 0 < n) × Appends old (take (i + n) bytes) new
Appends-more old bytes i now n new below a given =
    let w = subst (λ (l : List ℕ). Writes now l n new) (take-rest i bytes) given in (
      omega (arith, w.within, length-drop i bytes),
      λ h. omega (arith, w.some, length-drop i bytes),
      record {
        written = w.appended.written
            ∙ ap (option_map (λ so_far. so_far ++ take n (drop i bytes))) a.written
            ∙ append-twice old.written (take i bytes) (take n (drop i bytes)) (take (i + n) bytes) (take-take i n bytes);
        kept = omega arith;
      },
    )
