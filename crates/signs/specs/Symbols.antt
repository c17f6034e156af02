-- The symbols that a label is made of, and the cells of each.
use Rattle.std.specs.Prelude.{ℕ, suc, ◌-◌, List, [], ◌∷◌, ◌++◌, map, slice_index, slice_index_or}
use Rattle.cells.specs.Cells.{braille}
use Rattle.cells.specs.Lists.{below}
use Rattle.signs.specs.Signs.{letters, accents, accent_string}

-- f is a typeform of 0 to 3, and an accent is one of 1 to 10
pub data Symbol : Type 0 where
  blank : Symbol
  -- the cell of the n-th letter, which in a number stands for a digit
  letter : ℕ → Symbol
  comma period : Symbol
  numeric grade1 capital capitals capitals_end : Symbol
  -- of one sign, of a part of a word, of a passage; and the end of either of the last two
  open_sign open_word open_passage close : ℕ → Symbol
  accent : ℕ → Symbol
  -- a code with its string in the sign table
  listed : ℕ → List ℕ → Symbol

-- the cell that the indicators of a typeform begin with
abbrev pub mark : ℕ → List ℕ
mark f = slice_index_or (braille "." ∷ braille "^" ∷ braille "_" ∷ braille "@" ∷ []) f []

abbrev pub string : Symbol → List ℕ
string blank = braille " "
string (letter n) = slice_index letters n ∷ []
string comma = braille "1"
string period = braille "4"
string numeric = braille "#"
string grade1 = braille ";"
string capital = braille ","
string capitals = braille ",,"
string capitals_end = braille ",'"
string (open_sign f) = mark f ++ braille "2"
string (open_word f) = mark f ++ braille "1"
string (open_passage f) = mark f ++ braille "7"
string (close f) = mark f ++ braille "'"
string (accent a) = slice_index_or (map accent_string accents) (a - 1) []
string (listed code cells) = cells

-- the symbols of one cell other than the blank: a letter cell, the comma, the period, the numeric indicator and the grade 1 indicator
abbrev pub plain : List Symbol
plain = comma ∷ period ∷ numeric ∷ grade1 ∷ map letter (below 26)

abbrev pub indicators : List Symbol
indicators =
    capitals ∷ capitals_end
    ∷ (map open_sign (below 4) ++ (map open_word (below 4) ++ (map open_passage (below 4) ++ map close (below 4))))

abbrev pub accent_symbols : List Symbol
accent_symbols = map (λ n. accent (suc n)) (below 10)

-- the capital indicator is a comma cell with one of these after it: a letter cell or the first cell of an accent
abbrev pub follow_capital : List ℕ
follow_capital = letters ++ braille "^@"
