-- Small tables of somebody else's.
use Rattle.std.specs.Prelude.{[], ◌∷◌}
use Rattle.cells.specs.Cells.{braille}
use Rattle.signs.specs.Tables.{Table}

abbrev pub no_signs : Table
no_signs = []

-- a comet, with two cells that begin the third house string
abbrev pub one_sign : Table
one_sign = (0x2604, braille "_#") ∷ []
