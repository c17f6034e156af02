use Rattle.std.proofs.Common.{Ok, Err, ap, ◌∙◌, arith}
use Rattle.std.proofs.lemmas.List.{length_push}
use Rattle.cells.specs.Cells.{characters}
use Rattle.tables.specs.declared.clash.HouseRefusal.TheVariants.{ClashAt}
use Rattle.tables.proofs.Checking.{house_turn, house_end, checked}
use Rattle.tables.proofs.house.check_house.Goals as goal

pub returns-in-Some-clash_of : goal.returns-in-Some-clash_of
unfolding characters
returns-in-Some-clash_of g c =
    let below = g.T.SignTable.pairs c.args.below.now in
    let codes = c.args.codes.now in
    let strings = ap (λ s. s.iter.b.rest.now) c.into_iter-position-iterator.ensures.into_iter_gives ∙ ap (λ s. s.b.rest.now) c.enumerate-position-items.ensures.source ∙ c.zip.ensures.second.0 in
    let turn = house_turn below codes c.into_iter-position-iterator.result (cc) strings (cc) c.loop-position.yielded c.loop-position.position-iterator c.next.new.self
    c.loop-position.yielded_by c.next.result (c.in-Some.position, (c.in-Some.code, c.in-Some.string)) c.in-Some.is c.next.ensures.steps in
    let r = checked below codes (Err (ClashAt c.in-Some.position c.in-Some-clash_of.why)) c.if-codes-gt5.false (grind arith) in
    record { answer = r.0; number = r.1 }

pub loop-position-preserved : goal.loop-position-preserved
unfolding characters
loop-position-preserved g c =
    let below = g.T.SignTable.pairs c.args.below.now in
    let codes = c.args.codes.now in
    let strings = ap (λ s. s.iter.b.rest.now) c.into_iter-position-iterator.ensures.into_iter_gives ∙ ap (λ s. s.b.rest.now) c.enumerate-position-items.ensures.source ∙ c.zip.ensures.second.0 in
    let turn = house_turn below codes c.into_iter-position-iterator.result (cc) strings (cc) c.loop-position.yielded c.loop-position.position-iterator c.next.new.self
    c.loop-position.yielded_by c.next.result (c.in-Some.position, (c.in-Some.code, c.in-Some.string)) c.in-Some.is c.next.ensures.steps in
    grind (arith, length_push c.loop-position.yielded (c.in-Some.position, (c.in-Some.code, c.in-Some.string)))

pub returns : goal.returns
unfolding characters
returns g c =
    let below = g.T.SignTable.pairs c.args.below.now in
    let codes = c.args.codes.now in
    let strings = ap (λ s. s.iter.b.rest.now) c.into_iter-position-iterator.ensures.into_iter_gives ∙ ap (λ s. s.b.rest.now) c.enumerate-position-items.ensures.source ∙ c.zip.ensures.second.0 in
    let end = house_end below codes c.into_iter-position-iterator.result (cc) strings (cc) c.loop-position.yielded c.loop-position.position-iterator c.next.new.self
    c.loop-position.yielded_by c.next.result c.in-None.is c.next.ensures.steps in
    let r = checked below codes (Ok tt) c.if-codes-gt5.false (grind arith) in
    record { answer = r.0; number = r.1 }
