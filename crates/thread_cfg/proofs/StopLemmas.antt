-- Why bytes give no program.
use Rattle.std.proofs.Common.{◌≡◌, ℕ, List, length, Result, Ok, Err, IsUtf8, refl, sym, subst}
use Rattle.thr_base.specs.declared.stops.Refusal.{Refusal}
use Rattle.thr_base.specs.declared.stops.Stop.{Stop}
use Rattle.thr_base.specs.declared.stops.Stop.TheVariants.{Refused, Memory}
use Rattle.thr_base.specs.Refusals.{MatchStop}
use Rattle.c_lex.specs.Tokens.{Lexeme, lexed}
use Rattle.c_tree.specs.declared.item.Tree.{Tree}
use Rattle.c_tree.specs.GrammarItem.{IsTreeOf}
use Rattle.c_tree.specs.Refused.{IsRefusalOver, IsRefusedBy}
use Rattle.c_tree.specs.Seen.{plain_tree}
use Rattle.c_check.specs.declared.plan.Plan.{Plan}
use Rattle.c_check.specs.Check.{IsCheckAnswer}
use Rattle.transition_formula.specs.Program.{Program}
use Rattle.thread_cfg.specs.Graph.{IsBuildAnswer}
use Rattle.thread_cfg.specs.Read.{IsPlanOfText, IsReadAnswer, not_fit, not_in_form, not_in_profile}

-- what stops the tokens
pub stops-tokens : {X : Type 0} (IsRead : X → Type 0) (stop : Stop) (text : List ℕ) → IsUtf8 text
    → MatchStop {X = X} (Err stop) IsRead (λ refusal. lexed text ≡ Err refusal) → IsReadAnswer text (Err stop)
stops-tokens IsRead Memory text utf8 h = tt
stops-tokens IsRead (Refused refusal) text utf8 h = not_in_profile refusal utf8 (subst (λ (r : Result (List Lexeme) Refusal). IsRefusalOver (length text) r refusal) (sym h) refl)

-- what stops the tree
pub stops-tree : (stop : Stop) (text : List ℕ) → IsUtf8 text → IsRefusedBy text (Err stop) → IsReadAnswer text (Err stop)
stops-tree Memory text utf8 h = tt
stops-tree (Refused refusal) text utf8 h = not_in_profile refusal utf8 h

-- what stops the plan
pub stops-plan : (stop : Stop) (text : List ℕ) (tree : Tree) → IsUtf8 text → IsTreeOf text tree → IsCheckAnswer (plain_tree tree) (Err stop) → IsReadAnswer text (Err stop)
stops-plan Memory text tree utf8 is h = tt
stops-plan (Refused refusal) text tree utf8 is h = not_in_form tree refusal utf8 is h

-- what the graph comes to
pub reads-built : (answer : Result Program Stop) (text : List ℕ) (tree : Tree) (plan : Plan) → IsUtf8 text → IsPlanOfText text tree plan → IsBuildAnswer (plain_tree tree) answer → IsReadAnswer text answer
reads-built (Ok program) text tree plan utf8 is h =
    (tree, record { utf8 = utf8; is_tree = is.is_tree; accepted = is.accepted; fits = h.0; program_is = h.1 })
reads-built (Err Memory) text tree plan utf8 is h = tt
reads-built (Err (Refused refusal)) text tree plan utf8 is h = not_fit tree refusal utf8 is.is_tree is.accepted h
