use Rattle.std.proofs.Common.{arith}
use Rattle.tables.proofs.Clears.{clear_by}
use Rattle.tables.proofs.house.is_clear.Goals as goal

pub returns-then-not-is_whole-2 : goal.returns-then-not-is_whole-2
returns-then-not-is_whole-2 g c = grind (arith, clear_by (g.T.SignTable.pairs c.args.table.now) (g.met.T.SignTable.lawful c.args.table.now) c.args.string.now c.told-string)

pub returns-else-not-is_whole-2 : goal.returns-else-not-is_whole-2
returns-else-not-is_whole-2 g c = grind (arith, clear_by (g.T.SignTable.pairs c.args.table.now) (g.met.T.SignTable.lawful c.args.table.now) c.args.string.now c.told-string)
