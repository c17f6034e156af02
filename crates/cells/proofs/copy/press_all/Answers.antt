use Rattle.std.proofs.Common.{◌≡◌, ◌-◌, ◌*◌, cond, ◌++◌, length, drop, sym, ap, ◌∙◌}
use Rattle.std.proofs.lemmas.List.{length-map}
use Rattle.cells.specs.Places.{cell_place, cell_places}
use Rattle.cells.specs.Pressing.{takes_all}
use Rattle.cells.proofs.Copies.{is_granted, granted_ok, list_copied, list_places}
use Rattle.cells.proofs.copy.press_all.Goals as goal

pub returns : goal.returns
returns g c =
    let ns = c.args.cells.now in
    let old = g.E.Strip.places c.args.to.now in
    let free = g.E.Embosser.room c.args.to.now in
    let spare = g.E.Embosser.unused c.args.to.now in
    let width = g.E.Embosser.width in
    let r = c.is_ok.result in
    let sized : length (cell_places ns) ≡ length ns = length-map ns cell_place in
    let ok = sym c.is_ok.ensures.value in
    let answer : r ≡ takes_all free ns =
    sym ok ∙ sym (granted_ok c.copy_strip.result) ∙ ap is_granted c.copy_strip.ensures.answer ∙ list_copied free ns in
    record {
      answer = answer;
      places = c.copy_strip.ensures.places ∙ (λ i. cond (ok i) (old ++ cell_places ns) old) ∙ list_places r free old ns answer;
      room = c.copy_strip.ensures.room ∙ (λ i. cond (ok i) (free - sized i) free);
      unused = c.copy_strip.ensures.unused ∙ (λ i. cond (ok i) (drop (sized i * width) spare) spare);
    }
