-- The places of a strip: each holds a cell or is spoilt.
use Rattle.std.specs.Prelude.{ℕ, suc, Bool, false, cond, List, [], ◌∷◌, map, Some, None, Option}
use Rattle.cells.specs.Cells.{is_cell}
use Rattle.cells.specs.Lists.{all}
use Rattle.cells.specs.declared.strip.Place.{Place}
use Rattle.cells.specs.declared.strip.Place.TheVariants.{Cell, Spoilt}

-- a cell of 0 to 63 stands there
abbrev pub has_cell : Place → Bool
has_cell (Cell c) = is_cell c
has_cell Spoilt = false

abbrev pub all_cells : List Place → Bool
all_cells places = all has_cell places

-- the first place with no cell, where the first of the list counts as n
abbrev pub first_gap : ℕ → List Place → Option ℕ
first_gap n [] = None
first_gap n (p ∷ ps) = cond (has_cell p) (first_gap (suc n) ps) (Some n)

-- the cell that stands there, if any does
abbrev pub cell_in : Option Place → Option ℕ
cell_in None = None
cell_in (Some (Cell c)) = cond (is_cell c) (Some c) None
cell_in (Some Spoilt) = None

-- a list of numbers as a strip; one that is no cell is spoilt
abbrev pub cell_place : ℕ → Place
cell_place n = cond (is_cell n) (Cell n) Spoilt

abbrev pub cell_places : List ℕ → List Place
cell_places numbers = map cell_place numbers
