use Rattle.std.proofs.Common.{sym, ap, ◌∙◌}
use Rattle.carriers.proofs.Tapes.{takes_group, room_less, whole_after, cells_after}
use Rattle.carriers.proofs.tape.CarrierTapeEmbosser.press.Goals as goal

pub invariant_of-self : goal.invariant_of-self
invariant_of-self g c =
    let laws = g.met.C.CellCode.laws in
    let tape = c.args.self.now in
    let after = c.press.ensures.pressed in
    record {
      fits = c.press.ensures.fits;
      whole = whole_after laws _ _ c.in-Some.ensures tape.memory.pressed tape.whole _ _ after;
      cells = cells_after laws _ _ c.in-Some.ensures tape.memory.pressed tape.whole tape.cells _ _ after;
    }

pub returns-clause-answer : goal.returns-clause-answer
returns-clause-answer g c = takes_group g.met.C.CellCode.laws _ _ c.in-Some.ensures _ _ c.press.ensures.answer

pub returns-clause-room : goal.returns-clause-room
returns-clause-room g c = room_less g.met.C.CellCode.laws _ _ c.in-Some.ensures _ _ _ c.press.ensures.answer c.press.ensures.unused
