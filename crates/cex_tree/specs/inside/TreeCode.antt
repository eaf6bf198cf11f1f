-- A tree as a list of numbers: a node takes its premises from the trees before it, the last one first.
use Rattle.std.specs.Prelude.{◌≡◌, ℕ, zero, suc, List, [], ◌∷◌, ◌++◌, refl}
use Rattle.std.proofs.Common.{◌∙◌, ap, append_assoc, sym, append-nil}
use Rattle.std.specs.Coded.{Coded, code_by, coded×, coded_ℕ, coded_list}
use Rattle.derivation_tree.specs.Tree.{Tree, Init, Own, Guar, Env, Inter}

-- the kind of a node, and the number of its thread or of its edge
abbrev pub tokens_of : Tree → List (ℕ × ℕ)
tokens_of (Init i) = (0, i) ∷ []
tokens_of (Own f e) = tokens_of f ++ (1, e) ∷ []
tokens_of (Guar f e) = tokens_of f ++ (2, e) ∷ []
tokens_of (Env f t) = tokens_of f ++ (tokens_of t ++ (3, 0) ∷ [])
tokens_of (Inter f g e) = tokens_of f ++ (tokens_of g ++ (4, e) ∷ [])

abbrev pub tree_over : ℕ → ℕ → List Tree → List Tree
tree_over zero i trees = Init i ∷ trees
tree_over (suc zero) e (f ∷ trees) = Own f e ∷ trees
tree_over (suc (suc zero)) e (f ∷ trees) = Guar f e ∷ trees
tree_over (suc (suc (suc zero))) e (t ∷ f ∷ trees) = Env f t ∷ trees
tree_over (suc (suc (suc (suc zero)))) e (g ∷ f ∷ trees) = Inter f g e ∷ trees
tree_over kind e trees = trees

abbrev pub trees_after : List Tree → List (ℕ × ℕ) → List Tree
trees_after trees [] = trees
trees_after trees (token ∷ tokens) = trees_after (tree_over token.0 token.1 trees) tokens

abbrev pub last_tree : List Tree → Tree
last_tree [] = Init 0
last_tree (tree ∷ trees) = tree

-- the tree of a list of tokens
abbrev pub tree_of_tokens : List (ℕ × ℕ) → Tree
tree_of_tokens tokens = last_tree (trees_after [] tokens)

-- a tree is read again
pub trees_after-tokens_of : (trees : List Tree) (tree : Tree) (rest : List (ℕ × ℕ)) → trees_after trees (tokens_of tree ++ rest) ≡ trees_after (tree ∷ trees) rest
trees_after-tokens_of trees (Init i) rest = refl
trees_after-tokens_of trees (Own f e) rest = ap (trees_after trees) (append_assoc (tokens_of f) ((1, e) ∷ []) rest) ∙ trees_after-tokens_of trees f ((1, e) ∷ rest)
trees_after-tokens_of trees (Guar f e) rest = ap (trees_after trees) (append_assoc (tokens_of f) ((2, e) ∷ []) rest) ∙ trees_after-tokens_of trees f ((2, e) ∷ rest)
trees_after-tokens_of trees (Env f t) rest =
    ap (trees_after trees) (append_assoc (tokens_of f) (tokens_of t ++ (3, 0) ∷ []) rest ∙ ap (λ l. tokens_of f ++ l) (append_assoc (tokens_of t) ((3, 0) ∷ []) rest))
    ∙ trees_after-tokens_of trees f (tokens_of t ++ (3, 0) ∷ rest) ∙ trees_after-tokens_of (f ∷ trees) t ((3, 0) ∷ rest)
trees_after-tokens_of trees (Inter f g e) rest =
    ap (trees_after trees) (append_assoc (tokens_of f) (tokens_of g ++ (4, e) ∷ []) rest ∙ ap (λ l. tokens_of f ++ l) (append_assoc (tokens_of g) ((4, e) ∷ []) rest))
    ∙ trees_after-tokens_of trees f (tokens_of g ++ (4, e) ∷ rest) ∙ trees_after-tokens_of (f ∷ trees) g ((4, e) ∷ rest)

pub tree_of_tokens-tokens_of : (tree : Tree) → tree_of_tokens (tokens_of tree) ≡ tree
tree_of_tokens-tokens_of tree = ap tree_of_tokens (sym (append-nil (tokens_of tree))) ∙ ap last_tree (trees_after-tokens_of [] tree [])

-- trees are told apart by their lists
abbrev pub tree_code : Coded Tree
tree_code = code_by (List (ℕ × ℕ)) (coded_list (coded× coded_ℕ coded_ℕ)) tokens_of tree_of_tokens tree_of_tokens-tokens_of
