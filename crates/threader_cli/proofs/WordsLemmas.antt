-- What words that are read ask for, of what is built.
use Rattle.std.proofs.Common.{◌≡◌, ℕ, false, List, Option, Some, None, IfNone, refl, sym, ap, subst, ◌∙◌}
use Rattle.thr_base.specs.declared.names.RuleName.{RuleName}
use Rattle.thr_base.specs.declared.names.RuleName.TheVariants.{Og}
use Rattle.command_line.specs.Request.{Asks, Request, Work, Verify, Tables, Check, Replay, Generate, Bench, Help}
use Rattle.threader_cli.specs.Answer.{AskForNothingBuilt, is_built}

pub if_none : {X P : Type 0} (found : Option X) → P → IfNone found P
if_none None p = p
if_none (Some x) p = tt

-- words ask for nothing that is built, where what they were read as is not
pub nothing_built : (words : List (List ℕ)) (held : Request) → ((one other : Request) → Asks words one → Asks words other → one ≡ other) → Asks words held
    → is_built held.work held.options.rule ≡ false → AskForNothingBuilt words
nothing_built words held one asked not_built request other = ap (λ (r : Request). is_built r.work r.options.rule) (one request held other asked) ∙ not_built

-- where words are refused, they ask for nothing
pub nothing_asked : (words : List (List ℕ)) → ((request : Request) → Asks words request → ⊥) → AskForNothingBuilt words
nothing_asked words refused request asked = absurd (refused request asked)

none-by-og : (work : Work) → is_built work Og ≡ false
none-by-og (Verify program) = refl
none-by-og (Tables program predicates) = refl
none-by-og (Check program annotation) = refl
none-by-og (Replay program schedule) = refl
none-by-og (Generate n) = refl
none-by-og (Bench n) = refl
none-by-og Help = refl

-- nothing is built by the rule of Owicki and Gries
pub og_is_not_built : (work : Work) (rule : RuleName) → rule ≡ Og → is_built work rule ≡ false
og_is_not_built work rule is = subst (λ r. is_built work r ≡ false) (sym is) (none-by-og work)
