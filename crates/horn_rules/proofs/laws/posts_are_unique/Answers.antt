use Rattle.horn_rules.proofs.Posts.{posts-unique}
use Rattle.horn_rules.proofs.laws.posts_are_unique.Goals as goal

pub returns : goal.returns
returns c = posts-unique
