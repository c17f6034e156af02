-- Small tables that break one law each, and some that break none.
use Rattle.std.specs.Prelude.{◌≡◌, true, false, List, [], ◌∷◌, map}
use Prim.Native.String.{String}
use Rattle.cells.specs.Cells.{braille}
use Rattle.signs.specs.Laws.{lawful}
use Rattle.signs.specs.Tables.{Table}

-- a sun with this string
abbrev pub sun : String → Table
sun cells = (0x2600, braille cells) ∷ []

-- and a cloud with that one
abbrev pub sun_and_cloud : String → String → Table
sun_and_cloud cells others = (0x2600, braille cells) ∷ (0x2601, braille others) ∷ []

abbrev pub broken : List Table
broken =
    -- a code is listed twice, or is a fixed sign
    ((0x2600, braille "2") ∷ (0x2600, braille "3") ∷ [])
    ∷ ((0x41, braille "2") ∷ [])
    ∷ ((0x20, braille "2") ∷ [])
    -- no cell, four cells, a blank cell, a number that is no cell
    ∷ sun ""
    ∷ sun "_?_?"
    ∷ sun "_ "
    ∷ ((0x2600, 56 ∷ 64 ∷ []) ∷ [])
    -- the first cell is a letter cell, 1, 4, # or ;
    ∷ sun "B8"
    ∷ sun "1-"
    ∷ sun "4-"
    ∷ sun "#8"
    ∷ sun ";8"
    -- two strings are equal, or one begins the other
    ∷ sun_and_cloud "2" "2"
    ∷ sun_and_cloud "_8" "_8-"
    ∷ sun_and_cloud "_8-" "_8"
    -- it begins an indicator, is one, or is begun by one
    ∷ sun "."
    ∷ sun ","
    ∷ sun "_7"
    ∷ sun ".28"
    ∷ sun "@'8"
    -- it is an accent, or is begun by one
    ∷ sun "^*"
    ∷ sun "@-8"
    -- after a first , a letter cell, or one of , ' ^ @
    ∷ sun ",Z"
    ∷ sun ",,"
    ∷ sun ",'8"
    ∷ sun ",^8"
    ∷ sun ",@8"
    ∷ []

abbrev pub EachLawBroken : Type 0
EachLawBroken = map lawful broken ≡ map (λ (_ : Table). false) broken

abbrev pub unbroken : List Table
unbroken = [] ∷ sun "2" ∷ sun "_?-" ∷ sun ",8" ∷ sun_and_cloud "_8" "_0" ∷ []

abbrev pub LawfulTables : Type 0
LawfulTables = map lawful unbroken ≡ map (λ (_ : Table). true) unbroken
