-- What is read of a declaration stands in the text.
use Rattle.std.proofs.Common.{◌≡◌, ℕ, Bool, true, false, length, Option, Some, None, Ok, refl}
use Rattle.c_tree.specs.declared.term.Term.TheVariants as terms
use Rattle.c_tree.specs.declared.simple.Right.{Right}
use Rattle.c_tree.specs.inside.Input.{Input, place, sees, after, expect}
use Rattle.c_tree.specs.inside.Chain.{more_of}
use Rattle.c_tree.specs.inside.Expr as expr_spec
use Rattle.c_tree.specs.inside.Simple as spec
use Rattle.c_tree.specs.Grammar.{Stands, StartsAt, IsName}
use Rattle.c_tree.specs.Sequence.{◌then◌, Perhaps, IsComma}
use Rattle.c_tree.specs.GrammarSimple.{IsRight, IsLname, IsLocal, IsHandles}
use Rattle.c_tree.proofs.Steps.{bind_ok}
use Rattle.c_tree.proofs.StmtSizes.{local_shrinks}
use Rattle.c_tree.proofs.Found.{Finds, expect_found, name_found, more_found, starts}
use Rattle.c_tree.proofs.FoundParts.{given, semicolon_found, eaten, not_eaten, comma_mark_found}
use Rattle.c_tree.proofs.FoundSimple.{right_found, quals_found, itype_found}

module _ (levels : ℕ) where
  start_found : (i : Input) (b : Bool) → sees terms.Assign i ≡ b → (x : Option Right) (j : Input) → spec.start_if levels b (after terms.Assign i) ≡ Ok (x, j) → Perhaps (λ e. Stands terms.Assign then IsRight levels e) x i.tokens j.tokens
  start_found i true is x j e =
      let a = bind_ok (spec.right levels (after terms.Assign i)) _ x j e in
      given (Perhaps (λ y. Stands terms.Assign then IsRight levels y)) (Some a.0) x a.1 j i.tokens a.3 ((after terms.Assign i).tokens, eaten terms.Assign (λ h. cc) i is, right_found levels (after terms.Assign i) a.0 a.1 a.2)
  start_found i false is x j e = given (Perhaps (λ y. Stands terms.Assign then IsRight levels y)) None x (after terms.Assign i) j i.tokens e (not_eaten terms.Assign i is)

  pub lname_found : Finds (spec.lname levels) (IsLname levels)
  unfolding spec.lname
  lname_found i x j e =
      let a = bind_ok (expr_spec.name i) _ x j e in
      let b = bind_ok (spec.start_if levels (sees terms.Assign a.1) (after terms.Assign a.1)) _ x j a.3 in
      given (IsLname levels) (record { name = a.0; start = b.0 }) x b.1 j i.tokens b.3 (a.1.tokens, name_found i a.0 a.1 a.2, start_found a.1 (sees terms.Assign a.1) refl b.0 b.1 b.2)

  -- a local, where something is shorter than what is left
  pub local_found : Finds (spec.local levels) (IsLocal levels)
  unfolding spec.local
  local_found i x j e =
      let starts_so : StartsAt (place i) i.tokens = starts i (length j.tokens) (local_shrinks levels i x j e) in
      let a = bind_ok (spec.quals i) _ x j e in
      let b = bind_ok (spec.itype a.1) _ x j a.3 in
      let c = bind_ok (spec.lname levels b.1) _ x j b.3 in
      let d = bind_ok (more_of spec.comma_mark (spec.lname levels) c.1) _ x j c.3 in
      let f = bind_ok (expect terms.Semicolon d.1) _ x j d.3 in
      given (IsLocal levels) (record { from = place i; quals = a.0; itype = b.0; first = c.0; more = d.0 }) x f.1 j i.tokens f.3 (
        starts_so,
        (
          a.1.tokens,
          quals_found i a.0 a.1 a.2,
          (
            b.1.tokens,
            itype_found a.1 b.0 b.1 b.2,
            (
              c.1.tokens,
              lname_found b.1 c.0 c.1 c.2,
              (d.1.tokens, more_found spec.comma_mark (spec.lname levels) IsComma (IsLname levels) comma_mark_found lname_found c.1 d.0 d.1 d.2, semicolon_found d.1 f.0 f.1 f.2),
            ),
          ),
        ),
      )

pub handles_found : Finds spec.handles IsHandles
unfolding spec.handles
handles_found i x j e =
    let a = bind_ok (expect terms.HandleType i) _ x j e in
    let c = bind_ok (expr_spec.name a.1) _ x j a.3 in
    let d = bind_ok (more_of spec.comma_mark expr_spec.name c.1) _ x j c.3 in
    let f = bind_ok (expect terms.Semicolon d.1) _ x j d.3 in
    given IsHandles (record { from = a.0; first = c.0; more = d.0 }) x f.1 j i.tokens f.3 (
      a.1.tokens,
      expect_found terms.HandleType (λ h. cc) i a.0 a.1 a.2,
      (
        c.1.tokens,
        name_found a.1 c.0 c.1 c.2,
        (d.1.tokens, more_found spec.comma_mark expr_spec.name IsComma IsName comma_mark_found name_found c.1 d.0 d.1 d.2, semicolon_found d.1 f.0 f.1 f.2),
      ),
    )
