use Rattle.std.proofs.Common.{sym, ap, ◌∙◌}
use Rattle.std.proofs.lemmas.Bool.{cond-true, cond-false}
use Rattle.signs.specs.Tables.{or_match, is_neither}
use Rattle.tables.proofs.Laid.{laid_answers}
use Rattle.tables.proofs.house.HouseSignsSignTable.look_up.Goals as goal

pub returns-then-is_neither : goal.returns-then-is_neither
returns-then-is_neither g c =
    let below = g.T.SignTable.pairs c.args.self.now.below in
    let codes = c.args.self.now.codes.codes.items in
    c.look_up-below.ensures
    ∙ sym (laid_answers.below_look_up below codes c.args.cells.now (c.if-is_neither.ensures ∙ ap is_neither c.look_up-found.ensures))

pub returns-then-is_laid : goal.returns-then-is_laid
returns-then-is_laid g c =
    let below = g.T.SignTable.pairs c.args.self.now.below in
    let codes = c.args.self.now.codes.codes.items in
    c.or.ensures ∙ (λ i. or_match (c.look_up-found.ensures i) (c.look_up-below.ensures i))
    ∙ sym (laid_answers.laid_look_up below codes c.args.cells.now ∙ cond-true _ _ _ (sym c.if-is_laid.ensures))

pub returns-else-is_laid : goal.returns-else-is_laid
returns-else-is_laid g c =
    let below = g.T.SignTable.pairs c.args.self.now.below in
    let codes = c.args.self.now.codes.codes.items in
    c.look_up-below.ensures ∙ sym (laid_answers.laid_look_up below codes c.args.cells.now ∙ cond-false _ _ _ (sym c.if-is_laid.ensures))
