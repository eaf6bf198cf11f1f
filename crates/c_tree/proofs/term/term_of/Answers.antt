use Rattle.std.proofs.Common.{ap, ◌∙◌}
use Rattle.c_tree.specs.Words.{words, refused_words}
use Rattle.c_tree.specs.Term.{word_term}
use Rattle.c_tree.proofs.term.term_of.Goals as goal

pub returns-in-Word : goal.returns-in-Word
unfolding word_term words refused_words
returns-in-Word c = rw c.in-Word.is (c.lookup.ensures ∙ ap word_term c.as_bytes-text.ensures.value)
