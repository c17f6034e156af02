use Rattle.std.proofs.Common.{refl}
use Rattle.cells.specs.Cells.{characters}
use Rattle.signs.specs.Signs.{kind}
use Rattle.signs_tests.proofs.laws.laws_are_tested.Goals as goal

pub returns : goal.returns
unfolding characters kind
returns c = record { broken = refl; kept = refl }
