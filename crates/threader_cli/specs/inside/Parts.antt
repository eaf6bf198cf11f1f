-- What the parts of a call do. No public clause cites this file.
use Rattle.std.specs.Prelude.{ℕ, ◌≤◌, List, length, Option, option_map}
use Rattle.std.specs.Borrow.{Bor}
use Rattle.thr_base.specs.Outside.{StoreMeaning, SinkMeaning, Appends, WritesFront}
use Rattle.thr_base.specs.Reading.{IsFileNamed}
use Rattle.threader_cli.specs.Answer.{TextKind, AnswersUnread}
use Rattle.threader_cli.specs.declared.answer.Text.{Text}
use Rattle.threader_cli.specs.declared.answer.Text.TheVariants.{Whole, Unread}

-- the name of a second file, if one is given
abbrev pub names : Option (Bor (List ℕ)) → Option (List ℕ)
names given = option_map (λ (name : Bor (List ℕ)). name.now) given

-- What was read of a file with a text of this kind: its bytes, or the answer where it is not read whole.
abbrev pub IsReadText : TextKind → List ℕ → StoreMeaning → StoreMeaning → Text → Type 0
IsReadText kind name before after (Whole bytes) = (length bytes.items ≤ kind.limit) × IsFileNamed before.files name bytes.items
IsReadText kind name before after (Unread answer) = AnswersUnread kind name before after answer.status answer.text.items

-- A text was written and its status is the result, or the sink failed behind a front of it.
pub data Wrote (old : SinkMeaning) (text : List ℕ) (new : SinkMeaning) (status : ℕ) : ℕ → Type 0 where
  all : Appends old text new → Wrote old text new status status
  front : WritesFront old text new → Wrote old text new status 6
