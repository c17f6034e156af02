use Rattle.std.proofs.Common.{◌≡◌, drop, length}
use Rattle.tables.specs.House.{house, lowest_clash}
use Rattle.tables.proofs.house.check_house.Given as goal

abbrev pub invariant-loop-position : goal.invariant-loop-position
invariant-loop-position g l =
    let below = g.T.SignTable.pairs l.below in
    lowest_clash below l.codes (length l.yielded) (drop (length l.yielded) (house l.codes)) ≡ lowest_clash below l.codes 0 (house l.codes)
