-- How a place is shown to a person: a cell in dots or in Braille ASCII, and a tilde where there is none.
use Rattle.std.specs.Prelude.{ℕ, ◌+◌, cond, ◌&&◌, Some, None, Option, nat_le}
use Rattle.cells.specs.Cells.{is_cell, byte_of}
use Rattle.cells.specs.declared.strip.Place.{Place}
use Rattle.cells.specs.declared.strip.Place.TheVariants.{Cell, Spoilt}
use Rattle.console.specs.declared.show.Notation.{Notation}
use Rattle.console.specs.declared.show.Notation.TheVariants.{Dots, BrailleAscii}

abbrev pub tilde : ℕ
tilde = 0x7E

-- Unicode's braille patterns begin with the blank, and go by the cell
abbrev pub braille_shown : Place → ℕ
braille_shown (Cell c) = cond (is_cell c) (0x2800 + c) tilde
braille_shown Spoilt = tilde

abbrev pub small : ℕ → ℕ
small byte = cond (nat_le 0x41 byte && nat_le byte 0x5A) (byte + 0x20) byte

abbrev pub character_of : Option ℕ → ℕ
character_of (Some byte) = small byte
character_of None = tilde

abbrev pub character_shown : Place → ℕ
character_shown (Cell c) = character_of (byte_of c)
character_shown Spoilt = tilde

abbrev pub shown : Notation → Place → ℕ
shown Dots place = braille_shown place
shown BrailleAscii place = character_shown place
