-- Braille cells, and the Braille ASCII character of each.
-- A cell is a number of 0 to 63: dots 1 to 6 count 1, 2, 4, 8, 16 and 32, and cell 0 is the blank.
use Rattle.std.specs.Prelude.{◌≡◌, ℕ, ◌<◌, ◌≤◌, Bool, List, map, Some, None, codes, Option, nat_lt}
use Prim.Native.String.{String}
use Rattle.std.specs.Option.{unwrap_or}
use Rattle.std.specs.List.{slice_get}
use Rattle.cells.specs.Lists.{index_of}

abbrev pub is_cell : ℕ → Bool
is_cell n = nat_lt n 64

-- the characters of the 64 cells, in cell order
unfoldable pub characters : List ℕ
characters = codes " A1B'K2L@CIF/MSP\"E3H9O6R^DJG>NTQ,*5<-U8V.%[$+X!&;:4\\0Z7(_?W]#Y)="

-- the character of a cell
unfoldable pub byte_of : ℕ → Option ℕ
byte_of cell = slice_get characters cell

-- the cell of a character
unfoldable pub cell_of : ℕ → Option ℕ
cell_of byte = index_of byte 0 characters

-- the cells of a text in Braille ASCII, by which the definitions above write strings of cells; 64, which is no cell, for any other character
abbrev pub braille : String → List ℕ
braille text = map (λ c. unwrap_or (index_of c 0 characters) 64) (codes text)

-- Braille ASCII is a bijection between the cells and the bytes of hexadecimal 20 to 5F
pub record Bijection : Type 0 where
  pub inverse : (cell byte : ℕ) → (byte_of cell ≡ Some byte → cell_of byte ≡ Some cell) × (cell_of byte ≡ Some cell → byte_of cell ≡ Some byte)
  pub every_cell : (cell : ℕ) → cell < 64 → (byte : ℕ) × (byte_of cell ≡ Some byte)
  pub every_byte : (byte : ℕ) → 0x20 ≤ byte → byte < 0x60 → (cell : ℕ) × (cell_of byte ≡ Some cell)
  pub no_other_cell : (cell : ℕ) → 64 ≤ cell → byte_of cell ≡ None
  pub no_lower_byte : (byte : ℕ) → byte < 0x20 → cell_of byte ≡ None
  pub no_higher_byte : (byte : ℕ) → 0x60 ≤ byte → cell_of byte ≡ None
