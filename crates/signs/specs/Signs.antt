-- Print signs: what a code names, the typeforms and the accents.
-- The letters, the digits, the blank, the comma and the period are fixed signs, each with a cell of its own; all others come from a sign table.
use Rattle.std.specs.Prelude.{ℕ, ◌-◌, ◌/◌, ◌%◌, ◌^◌, Bool, true, false, cond, List, [], ◌∷◌, None, Option, ◌==◌}
use Rattle.std.specs.List.{slice_get}
use Rattle.cells.specs.Cells.{braille}
use Rattle.cells.specs.Lists.{within}
use Rattle.signs.specs.declared.accent.Accent.{Accent}
use Rattle.signs.specs.declared.accent.Accent.TheVariants.{Grave, Acute, Circumflex, Tilde, Macron, Breve, Diaeresis, Ring, Caron, Cedilla}
use Rattle.signs.specs.declared.kind.Kind.{Kind}
use Rattle.signs.specs.declared.kind.Kind.TheVariants.{Blank, Capital, Small, Digit, Comma, Period, Other}
use Rattle.signs.specs.declared.typeform.Typeform.{Typeform}
use Rattle.signs.specs.declared.typeform.Typeform.TheVariants.{Italic, Bold, Underline, Script}

-- what a code names: a letter by its number from 0, and a digit by the number of the letter that has its cell
unfoldable pub kind : ℕ → Kind
kind code =
    cond (code == 0x20) Blank
    (cond (within 0x41 0x5A code) (Capital (code - 0x41))
    (cond (within 0x61 0x7A code) (Small (code - 0x61))
    (cond (within 0x31 0x39 code) (Digit (code - 0x31))
    (cond (code == 0x30) (Digit 9)
    (cond (code == 0x2C) Comma
    (cond (code == 0x2E) Period Other))))))

-- the cells of the letters a to z; the first ten are those of the digits 1 to 9 and 0
abbrev pub letters : List ℕ
letters = braille "ABCDEFGHIJKLMNOPQRSTUVWXYZ"

-- the cell of a fixed sign
abbrev pub fixed_cell : Kind → Option ℕ
fixed_cell Blank = slice_get (braille " ") 0
fixed_cell (Capital n) = slice_get letters n
fixed_cell (Small n) = slice_get letters n
fixed_cell (Digit n) = slice_get letters n
fixed_cell Comma = slice_get (braille "1") 0
fixed_cell Period = slice_get (braille "4") 0
fixed_cell Other = None

abbrev pub fixed_kind : Kind → Bool
fixed_kind Blank = true
fixed_kind (Capital n) = true
fixed_kind (Small n) = true
fixed_kind (Digit n) = true
fixed_kind Comma = true
fixed_kind Period = true
fixed_kind Other = false

abbrev pub is_fixed : ℕ → Bool
is_fixed code = fixed_kind (kind code)

-- the typeforms 0 to 3
abbrev pub typeforms : List Typeform
typeforms = Italic ∷ Bold ∷ Underline ∷ Script ∷ []

abbrev pub typeform_number : Typeform → ℕ
typeform_number Italic = 0
typeform_number Bold = 1
typeform_number Underline = 2
typeform_number Script = 3

-- a typeform counts 1, 2, 4 or 8 in a set: the set has the typeform f
unfoldable pub has_bit : ℕ → ℕ → Bool
has_bit f set = (set / 2 ^ f) % 2 == 1

-- the accents 1 to 10
abbrev pub accents : List Accent
accents = Grave ∷ Acute ∷ Circumflex ∷ Tilde ∷ Macron ∷ Breve ∷ Diaeresis ∷ Ring ∷ Caron ∷ Cedilla ∷ []

abbrev pub accent_string : Accent → List ℕ
accent_string Grave = braille "^*"
accent_string Acute = braille "^/"
accent_string Circumflex = braille "^%"
accent_string Tilde = braille "^]"
accent_string Macron = braille "@-"
accent_string Breve = braille "@+"
accent_string Diaeresis = braille "^3"
accent_string Ring = braille "^$"
accent_string Caron = braille "^+"
accent_string Cedilla = braille "^&"
