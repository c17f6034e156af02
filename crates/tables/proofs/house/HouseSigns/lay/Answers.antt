use Rattle.std.proofs.Common.{is_ok, sym, ap, ◌∙◌}
use Rattle.std.proofs.lemmas.List.{take_all}
use Rattle.tables.specs.House.{laid}
use Rattle.tables.proofs.Laid.{laid_answers}
use Rattle.tables.proofs.house.HouseSigns.lay.Goals as goal
use Rattle.tables.proofs.house.HouseSigns.lay.Goals.{in-Ok, in-Err}

pub returns-clause-laid : goal.returns-clause-laid
returns-clause-laid g c =
    let below = g.T.SignTable.pairs c.args.below in
    let codes = c.args.codes.now in
    let answer = ap is_ok (sym c.check_house.ensures.answer) in
    elim c.match-check_house.branch [
      | in-Ok w ↦
          let few = laid_answers.checked_few below codes (answer ∙ ap is_ok w.in-Ok.is) in
          ap (λ h. laid below h.codes.items) w.codes-is ∙ ap (laid below) (w.of-codes.ensures ∙ take_all 5 codes few)
      | in-Err w ↦
          let none = laid_answers.unlaid below codes (answer ∙ ap is_ok w.in-Err.is) in
          ap (λ h. laid below h.codes.items) w.codes-is ∙ ap (laid below) w.of-codes-in-Err.ensures ∙ sym none
    ]
