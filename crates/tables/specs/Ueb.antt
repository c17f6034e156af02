-- The UEB table of fifty print signs (Rulebook 3 and 7).
use Rattle.std.specs.Prelude.{◌≡◌, ℕ, ◌<◌, List, [], ◌∷◌, map, Some, codes, slice_index, slice_index_or}
use Rattle.std.specs.List.{slice_get}
use Rattle.std.specs.Option.{option_map}
use Prim.Native.String.{String}
use Rattle.cells.specs.Cells.{braille}
use Rattle.cells.specs.Lists.{index_of}
use Rattle.signs.specs.Tables.{Entry, Table, string_of}

abbrev pub print_as : String → String → Entry
print_as character cells = (slice_index (codes character) 0, braille cells)

abbrev pub ueb_rows : Table
ueb_rows =
    print_as ";" "2" ∷ print_as ":" "3" ∷ print_as "!" "6" ∷ print_as "?" "8" ∷ print_as "'" "'" ∷ print_as "-" "-"
    ∷ print_as "(" "\"<" ∷ print_as ")" "\">" ∷ print_as "[" ".<" ∷ print_as "]" ".>"
    ∷ print_as "{" "_<" ∷ print_as "}" "_>" ∷ print_as "<" "@<" ∷ print_as ">" "@>"
    ∷ print_as "/" "_/" ∷ print_as "\\" "_*" ∷ print_as "|" "_\\" ∷ print_as "_" ".-" ∷ (0x2014, braille ",-") ∷ print_as "\"" ",7"
    ∷ print_as "“" "^8" ∷ print_as "”" "^0" ∷ print_as "‘" ",8" ∷ print_as "’" ",0" ∷ print_as "«" "_8" ∷ print_as "»" "_0"
    ∷ print_as "@" "@A" ∷ print_as "&" "@&" ∷ print_as "#" "_?" ∷ print_as "%" ".0" ∷ print_as "*" "\"9" ∷ print_as "•" "_4"
    ∷ print_as "~" "@9" ∷ print_as "^" "@5"
    ∷ print_as "+" "\"6" ∷ (0x2212, braille "\"-") ∷ print_as "×" "\"8" ∷ print_as "÷" "\"/" ∷ print_as "=" "\"7" ∷ print_as "°" "^J"
    ∷ print_as "$" "@S" ∷ print_as "£" "@L" ∷ print_as "€" "@E" ∷ print_as "¥" "@Y" ∷ print_as "¢" "@C"
    ∷ print_as "§" "^S" ∷ print_as "¶" "^P" ∷ print_as "©" "^C" ∷ print_as "®" "^R" ∷ print_as "™" "^T" ∷ []

abbrev pub ueb_codes : List ℕ
ueb_codes = map (λ (e : Entry). e.0) ueb_rows

abbrev pub ueb_strings : List (List ℕ)
ueb_strings = map (λ (e : Entry). e.1) ueb_rows

-- the table as the contracts name it, shut, since it is long
unfoldable pub ueb : Table
ueb = ueb_rows

-- a sign and its string have one number
pub record UebNumbers : Type 0 where
  pub ueb_entry : (n : ℕ) → n < 50 → slice_get ueb n ≡ Some (slice_index ueb_codes n, slice_index_or ueb_strings n [])
  pub ueb_string : (code : ℕ) → string_of ueb code ≡ option_map (λ n. slice_index_or ueb_strings n []) (index_of code 0 ueb_codes)
