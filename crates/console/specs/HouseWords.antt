-- House codes as a person writes them in one argument: words with blanks between them.
-- A word is one character, or U+ and hexadecimal digits of a number below 2 ^ 32.
use Rattle.std.specs.Prelude.{ℕ, ◌+◌, ◌*◌, ◌^◌, Bool, true, false, cond, ◌&&◌, List, [], ◌∷◌, map, filter, Some, None, Option, ◌==◌, nat_lt}
use Rattle.std.specs.Char.{digit_value}
use Rattle.std.specs.List.{slice_split}

-- a number may go on with this digit, and stays below 2 ^ 32
abbrev pub fits_digit : ℕ → ℕ → Bool
fits_digit value d = nat_lt (digit_value d) 16 && nat_lt (value * 16 + digit_value d) (2 ^ 32)

-- the number that these digits go on to write
abbrev pub hexadecimal : ℕ → List ℕ → Option ℕ
hexadecimal value [] = Some value
hexadecimal value (d ∷ ds) = cond (fits_digit value d) (hexadecimal (value * 16 + digit_value d) ds) None

-- the code that a word names
abbrev pub code_named : List ℕ → Option ℕ
code_named [] = None
code_named (c ∷ []) = Some c
code_named (u ∷ plus ∷ []) = None
code_named (u ∷ plus ∷ d ∷ ds) = cond (u == 0x55 && plus == 0x2B) (hexadecimal 0 (d ∷ ds)) None

abbrev pub is_blank : ℕ → Bool
is_blank c = c == 0x20

abbrev pub is_word : List ℕ → Bool
is_word [] = false
is_word (c ∷ cs) = true

-- the words are the parts between blanks that are not empty
abbrev pub words : List ℕ → List (List ℕ)
words text = filter is_word (slice_split is_blank text)

-- each value, or none where one is missing
abbrev pub add_value : Option ℕ → Option (List ℕ) → Option (List ℕ)
add_value None ns = None
add_value (Some n) None = None
add_value (Some n) (Some ns) = Some (n ∷ ns)

abbrev pub every : List (Option ℕ) → Option (List ℕ)
every [] = Some []
every (o ∷ os) = add_value o (every os)

-- the codes of all words of a text
abbrev pub codes_written : List ℕ → Option (List ℕ)
codes_written text = every (map code_named (words text))
