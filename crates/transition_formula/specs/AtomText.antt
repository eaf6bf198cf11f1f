-- The one text of an atom: its terms by rising column, the columns before a step in front of those after it, and its bound.
use Rattle.std.specs.Prelude.{◌≡◌, ℕ, ◌==◌, ℤ, pos, negsuc, unsigned_abs, Bool, true, false, ◌&&◌, if◌then◌else◌, List, [], ◌∷◌, ◌++◌, map, length, ◌+◌, codes}
use Rattle.thr_base.specs.Number.{number_text}
use Rattle.lin_rows.specs.Row.{Row}
use Rattle.lin_rows.specs.Atom.{IsAtom}
use Rattle.transition_formula.specs.Program.{Column}

-- the texts of the columns, and behind them those of the columns after a step
abbrev pub column_texts : List Column → List (List ℕ)
column_texts columns = map (λ column. column.text) columns ++ map (λ column. column.text ++ codes "'") columns

-- how many columns an atom is over: those of a state, or those before and after a step
abbrev pub atom_width : List Column → Bool → ℕ
atom_width columns env = if env then length columns + length columns else length columns

-- what stands in front of a term, by whether it is the first and the sign of its coefficient
abbrev pub joint : Bool → ℤ → List ℕ
joint true (pos n) = []
joint true (negsuc n) = codes "-"
joint false (pos n) = codes " + "
joint false (negsuc n) = codes " - "

-- the size of a coefficient; 1 is left out
abbrev pub factor : ℕ → List ℕ
factor size = if size == 1 then [] else number_text (pos size) ++ codes "*"

-- the term of a column; there is none where the coefficient is 0
abbrev pub term_text : Bool → ℤ → List ℕ → List ℕ
term_text first k text = if unsigned_abs k == 0 then [] else joint first k ++ (factor (unsigned_abs k) ++ text)

-- the terms of columns; the test says that no term stands in front of them
abbrev pub terms_text : Bool → List ℤ → List (List ℕ) → List ℕ
terms_text first [] texts = []
terms_text first (k ∷ ks) [] = []
terms_text first (k ∷ ks) (text ∷ texts) = term_text first k text ++ terms_text (first && (unsigned_abs k == 0)) ks texts

-- the text of an atom
abbrev pub atom_text : List Column → Row → List ℕ
atom_text columns atom = terms_text true atom.coefficients (column_texts columns) ++ (codes " <= " ++ number_text atom.bound)

-- The text is that of this atom, which is over the columns of a state or over those before and after a step.
pub record IsAtomText (columns : List Column) (env : Bool) (atom : Row) (text : List ℕ) : Type 0 where
  pub atom_is : IsAtom atom
  pub width : length atom.coefficients ≡ atom_width columns env
  pub text_is : text ≡ atom_text columns atom
