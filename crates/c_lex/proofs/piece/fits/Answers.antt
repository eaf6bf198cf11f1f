use Rattle.std.proofs.Common.{◌∙◌}
use Rattle.c_lex.proofs.Numbers.{fits_tells}
use Rattle.c_lex.proofs.piece.fits.Goals as goal

pub returns : goal.returns
returns c = c.is_ok.ensures.value ∙ fits_tells c.args.digits.now _ c.parse.ensures.value.0 c.requires.digits c.requires.some
