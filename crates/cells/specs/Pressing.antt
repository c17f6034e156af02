-- What an embosser takes: a cell, a list of cells, the places of a strip.
use Rattle.std.specs.Prelude.{ℕ, Bool, cond, ◌&&◌, List, length, Some, None, Option, nat_le, nat_lt}
use Rattle.cells.specs.Cells.{is_cell}
use Rattle.cells.specs.Lists.{all}
use Rattle.cells.specs.Places.{first_gap}
use Rattle.cells.specs.Refusals.{Answer, granted, refused}
use Rattle.cells.specs.declared.strip.Place.{Place}

-- with so many cells free, it takes this number: a cell, and there is room
abbrev pub takes : ℕ → ℕ → Bool
takes free n = is_cell n && nat_lt 0 free

-- it takes these numbers one after the other: all are cells, and there is room for all
abbrev pub takes_all : ℕ → List ℕ → Bool
takes_all free ns = all is_cell ns && nat_le (length ns) free

-- a strip is pressed whole or not at all: refused by 10 at its first place with no cell, else by 9 with the cells needed where fewer are free
abbrev pub unless_gap : Option ℕ → Answer → Answer
unless_gap None answer = answer
unless_gap (Some place) answer = refused 10 place

abbrev pub if_room : ℕ → ℕ → Answer
if_room free cells = cond (nat_le cells free) (granted cells) (refused 9 cells)

abbrev pub copied : ℕ → List Place → Answer
copied free places = unless_gap (first_gap 0 places) (if_room free (length places))
