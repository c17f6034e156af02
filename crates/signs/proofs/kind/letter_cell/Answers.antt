use Rattle.std.proofs.Common.{sym, ◌∙◌}
use Rattle.std.proofs.lemmas.Option.{slice_get_past}
use Rattle.signs.specs.Signs.{letters}
use Rattle.signs.proofs.Letters.{letter_of_character}
use Rattle.signs.proofs.kind.letter_cell.Goals as goal

pub returns-then-n-lt26 : goal.returns-then-n-lt26
returns-then-n-lt26 c = c.cell_of.ensures.value ∙ letter_of_character c.args.n c.if-n-lt26.true

pub returns-else-n-lt26 : goal.returns-else-n-lt26
returns-else-n-lt26 c = sym (slice_get_past letters c.args.n c.if-n-lt26.false)
