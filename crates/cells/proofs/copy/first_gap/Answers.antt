use Rattle.std.proofs.Common.{◌≡◌, true, is_some, None, rules}
use Rattle.std.specs.List.{slice_get}
use Rattle.std.proofs.lemmas.Iterator.{first_from_Range}
use borrow.Author.Tests.{tests}
use Rattle.cells.specs.Places.{cell_in}
use Rattle.cells.proofs.Gaps.{gap_from}
use Rattle.cells.proofs.copy.first_gap.Goals as goal

pub returns : goal.returns
returns g c =
    let ps = g.S.Strip.places c.args.strip.now in
    gap_from ps c.len.result c.find.result c.len.ensures
    (first_from_Range _ _ _ _ (λ i. cell_in (slice_get ps i) ≡ None) (λ i. is_some (cell_in (slice_get ps i)) ≡ true) c.find.ensures.ran
    (λ x q k. search (rules, tests)) (λ x q k. search (rules, tests)))
