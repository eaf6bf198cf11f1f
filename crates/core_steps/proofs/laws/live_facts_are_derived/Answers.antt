use Rattle.core_steps.proofs.Histories.{live-posts, live-least}
use Rattle.core_steps.proofs.laws.live_facts_are_derived.Goals as goal

pub returns-clause-posts : goal.returns-clause-posts
returns-clause-posts c = live-posts

pub returns-clause-least : goal.returns-clause-least
returns-clause-least c = live-least
