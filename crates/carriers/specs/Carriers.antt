-- The two carriers: what their bytes mean, and the bytes of a pressed cell.
use Rattle.std.specs.Prelude.{ℕ, ◌+◌, ◌-◌, cond, ◌&&◌, List, [], ◌∷◌, map, Some, None, Option, ◌==◌, nat_le}
use Rattle.std.specs.Option.{option_to_list}
use Rattle.cells.specs.Cells.{byte_of, cell_of}
use Rattle.cells.specs.declared.strip.Place.{Place}
use Rattle.cells.specs.declared.strip.Place.TheVariants.{Cell, Spoilt}

abbrev pub place_of : Option ℕ → Place
place_of None = Spoilt
place_of (Some cell) = Cell cell

-- the ASCII carrier has one byte a cell; a byte that is no cell's is spoilt
abbrev pub ascii_place : ℕ → Place
ascii_place byte = place_of (cell_of byte)

abbrev pub ascii_places : List ℕ → List Place
ascii_places bytes = map ascii_place bytes

abbrev pub ascii_bytes : Place → List ℕ
ascii_bytes (Cell cell) = option_to_list (byte_of cell)
ascii_bytes Spoilt = []

-- the first place of a carrier, and the bytes behind it
abbrev pub first_byte : List ℕ → Option (Place × List ℕ)
first_byte [] = None
first_byte (b ∷ rest) = Some (ascii_place b, rest)

-- the Unicode carrier has three bytes a cell, E2, A0 and 80 plus the cell; any other three are spoilt
abbrev pub unicode_place : ℕ → ℕ → ℕ → Place
unicode_place a b c = cond (a == 0xE2 && (b == 0xA0 && (nat_le 0x80 c && nat_le c 0xBF))) (Cell (c - 0x80)) Spoilt

-- and so is a last group of one or two
abbrev pub unicode_places : List ℕ → List Place
unicode_places [] = []
unicode_places (a ∷ []) = Spoilt ∷ []
unicode_places (a ∷ b ∷ []) = Spoilt ∷ []
unicode_places (a ∷ b ∷ c ∷ rest) = unicode_place a b c ∷ unicode_places rest

abbrev pub unicode_bytes : Place → List ℕ
unicode_bytes (Cell cell) = 0xE2 ∷ 0xA0 ∷ (0x80 + cell) ∷ []
unicode_bytes Spoilt = []

abbrev pub first_group : List ℕ → Option (Place × List ℕ)
first_group [] = None
first_group (a ∷ []) = Some (Spoilt, [])
first_group (a ∷ b ∷ []) = Some (Spoilt, [])
first_group (a ∷ b ∷ c ∷ rest) = Some (unicode_place a b c, rest)
