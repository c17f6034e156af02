use Rattle.std.proofs.Common.{◌+◌, ◌-◌, ◌%◌, ◌^◌, ap, ◌∙◌}
use Rattle.std.specs.List.{slice_get}
use Rattle.cells.specs.Cells.{characters, cell_of}
use Rattle.cells.proofs.BrailleAscii.{inverse, cell_by_wrap, bijection}
use Rattle.cells.proofs.Items.{item_copied}
use Rattle.cells.proofs.ascii.cell_of.Goals as goal

pub returns : goal.returns
unfolding characters inverse cell_of
returns c =
    record {
      value = c.copied.ensures ∙ item_copied inverse _ _ c.get.ensures.lookup
          ∙ ap (λ n. slice_get inverse ((n + (2 ^ 64 - 32)) % 2 ^ 64)) c.from-place.ensures
          ∙ cell_by_wrap c.args.byte c.ranges.byte.fits;
      bijection = bijection;
    }
