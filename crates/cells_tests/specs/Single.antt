-- An embosser of a single cell.
use Rattle.std.specs.Prelude.{ℕ, List, [], ◌∷◌, Some, None, Option}
use Rattle.cells.specs.declared.strip.Place.{Place}
use Rattle.cells.specs.declared.strip.Place.TheVariants.{Cell}

abbrev pub places_of : Option ℕ → List Place
places_of None = []
places_of (Some cell) = Cell cell ∷ []

abbrev pub room_of : Option ℕ → ℕ
room_of None = 1
room_of (Some cell) = 0
