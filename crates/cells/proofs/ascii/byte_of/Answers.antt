use Rattle.std.proofs.Common.{ap, ◌∙◌}
use Rattle.cells.specs.Cells.{characters, byte_of}
use Rattle.cells.proofs.Items.{item_copied}
use Rattle.cells.proofs.ascii.byte_of.Goals as goal

pub returns : goal.returns
unfolding characters byte_of
returns c = c.copied.ensures ∙ item_copied characters _ _ c.get.ensures.lookup ∙ ap byte_of c.from.ensures
