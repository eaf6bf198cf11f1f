use Rattle.std.proofs.Common.{◌≡◌, take, ap, sym, subst, ◌∙◌}
use Rattle.std.specs.Char.{is_ascii_digit}
use Rattle.std.specs.List.{prefix_len}
use Rattle.std.specs.Str.{IsCharBoundary, all_ascii_digits}
use Rattle.c_lex.proofs.Cuts.{run_cuts, digit_below, boundary}
use Rattle.c_lex.proofs.Numbers.{digits_front}
use Rattle.c_lex.proofs.piece.number_at.Goals as goal
use Rattle.c_lex.proofs.piece.number_at.Goals.{After-digits_len-len}

counted : (c : After-digits_len-len) → c.digits_len-len.result ≡ prefix_len is_ascii_digit c.args.rest.now
counted c = c.digits_len-len.ensures.exact ∙ ap (prefix_len is_ascii_digit) c.as_bytes-bytes.ensures.value

pub split_at-requires : goal.split_at-requires
split_at-requires c =
    let n = counted (goal.at.split_at-requires c).After-digits_len-len in
    subst (IsCharBoundary c.args.rest.now) (sym n) (boundary c.args.rest.now _ (run_cuts is_ascii_digit c.args.rest.now digit_below c.requires) c.utf8.rest)

pub is_number_text-requires-clause-digits : goal.is_number_text-requires-clause-digits
is_number_text-requires-clause-digits c =
    let n = counted (goal.at.is_number_text-requires-clause-digits c).After-digits_len-len in
    ap all_ascii_digits (c.split_at.ensures.front ∙ ap (λ k. take k c.args.rest.now) n) ∙ digits_front c.args.rest.now
