use Rattle.std.proofs.Common.{sym, ap, ◌∙◌}
use Rattle.std.specs.Option.{option_or}
use Rattle.std.proofs.lemmas.Bool.{cond-true, cond-false}
use Rattle.signs.specs.Tables.{string_of}
use Rattle.tables.proofs.Laid.{laid_answers}
use Rattle.tables.proofs.house.HouseSignsSignTable.string_of.Goals as goal
use Rattle.tables.proofs.house.HouseSignsSignTable.string_of.Goals.{in-Some+else-is_laid, in_default}

pub returns-then-is_laid : goal.returns-then-is_laid
returns-then-is_laid g c =
    let below = g.T.SignTable.pairs c.args.self.now.below in
    let codes = c.args.self.now.codes.codes.items in
    sym (laid_answers.laid_string below codes c.args.code ∙ cond-true _ _ _ (sym c.if-is_laid.ensures)
    ∙ ap (λ o. option_or o (string_of below c.args.code)) (sym c.in-Some.ensures))

pub returns : goal.returns
returns g c =
    let below = g.T.SignTable.pairs c.args.self.now.below in
    let codes = c.args.self.now.codes.codes.items in
    c.string_of-2.ensures ∙ sym (elim c.match-string_of.branch [
      | in-Some+else-is_laid w ↦ laid_answers.laid_string below codes c.args.code ∙ cond-false _ _ _ (sym w.if-is_laid.ensures)
      | in_default w ↦ laid_answers.below_string below codes c.args.code w.in_default.ensures
    ])
