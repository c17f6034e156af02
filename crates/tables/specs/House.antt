-- House signs: up to five codes with strings of their own, laid over a table.
use Rattle.std.specs.Prelude.{◌≡◌, ℕ, suc, ◌≤◌, Bool, true, false, cond, not, List, [], ◌∷◌, ◌++◌, map, length, is_some, is_ok, Some, None, Ok, Err, Option, Result, zip, nat_le, nat_lt}
use Rattle.std.proofs.Math.Utf8.{scalar}
use Rattle.std.specs.Option.{option_map, option_or}
use Rattle.cells.specs.Cells.{braille}
use Rattle.cells.specs.Lists.{all}
use Rattle.signs.specs.Lists.{times}
use Rattle.signs.specs.Signs.{is_fixed}
use Rattle.signs.specs.Strings.{apart}
use Rattle.signs.specs.Tables.{Entry, Table, lists, string_of, look_up, or_match, is_neither}
use Rattle.tables.specs.declared.clash.Clash.{Clash}
use Rattle.tables.specs.declared.clash.Clash.TheVariants.{NoScalar, Fixed, ListedBelow, StandsTwice, StringTaken}
use Rattle.tables.specs.declared.clash.HouseRefusal.{HouseRefusal}
use Rattle.tables.specs.declared.clash.HouseRefusal.TheVariants.{TooMany, ClashAt}

-- the strings, by position (Rulebook 3.26)
abbrev pub house_strings : List (List ℕ)
house_strings = braille "@#?" ∷ braille "^#?" ∷ braille "_#?" ∷ braille "\"#?" ∷ braille ".#?" ∷ []

-- each code with the string of its position
abbrev pub house : List ℕ → Table
house codes = zip codes house_strings

-- the string is apart from every string of the table
abbrev pub is_clear : Table → List ℕ → Bool
is_clear table s = all (λ (e : Entry). apart s e.1) table

-- why one of the codes clashes with its string: the first of these that holds
abbrev pub clash : Table → List ℕ → Entry → Option Clash
clash below codes e =
    cond (not (scalar e.0)) (Some NoScalar)
    (cond (is_fixed e.0) (Some Fixed)
    (cond (lists below e.0) (Some ListedBelow)
    (cond (nat_le 2 (times e.0 codes)) (Some StandsTwice)
    (cond (not (is_clear below e.1)) (Some StringTaken) None))))

-- the first of these codes that clashes, where the first counts as position n
abbrev pub or_clash : Option Clash → ℕ → Result (Unit {0}) HouseRefusal → Result (Unit {0}) HouseRefusal
or_clash (Some why) n rest = Err (ClashAt n why)
or_clash None n rest = rest

abbrev pub lowest_clash : Table → List ℕ → ℕ → Table → Result (Unit {0}) HouseRefusal
lowest_clash below codes n [] = Ok tt
lowest_clash below codes n (e ∷ es) = or_clash (clash below codes e) n (lowest_clash below codes (suc n) es)

-- what a check of the codes answers
abbrev pub house_check : Table → List ℕ → Result (Unit {0}) HouseRefusal
house_check below codes = cond (nat_lt 5 (length codes)) (Err TooMany) (lowest_clash below codes 0 (house codes))

-- the number of each refusal, with its value
abbrev pub refusal : HouseRefusal → ℕ × ℕ
refusal TooMany = (19, 5)
refusal (ClashAt position why) = (20, position)

abbrev pub refused : Result (Unit {0}) HouseRefusal → Option (ℕ × ℕ)
refused (Ok _) = None
refused (Err r) = Some (refusal r)

-- by number: 19 with 5, else 20 with the lowest position whose code clashes
abbrev pub first : ℕ → List Bool → Option ℕ
first n [] = None
first n (b ∷ bs) = cond b (Some n) (first (suc n) bs)

abbrev pub house_refused : Table → List ℕ → Option (ℕ × ℕ)
house_refused below codes =
    cond (nat_lt 5 (length codes)) (Some (19, 5))
    (option_map (λ position. (20, position)) (first 0 (map (λ (e : Entry). is_some (clash below codes e)) (house codes))))

-- a table with house signs laid over it; a list that fails its check lays nothing
abbrev pub laid : Table → List ℕ → Table
laid below codes = cond (is_ok (house_check below codes)) (house codes ++ below) below

-- What such a table answers: first by its house signs, if they are laid, and else from below.
pub record LaidAnswers : Type 0 where
  pub laid_string : (below : Table) (codes : List ℕ) (code : ℕ) →
      string_of (laid below codes) code ≡ cond (is_ok (house_check below codes)) (option_or (string_of (house codes) code) (string_of below code)) (string_of below code)
  pub laid_look_up : (below : Table) (codes cells : List ℕ) →
      look_up (laid below codes) cells ≡ cond (is_ok (house_check below codes)) (or_match (look_up (house codes) cells) (look_up below cells)) (look_up below cells)
  -- what no house sign has is answered from below
  pub below_string : (below : Table) (codes : List ℕ) (code : ℕ) → None ≡ string_of (house codes) code → string_of (laid below codes) code ≡ string_of below code
  pub below_look_up : (below : Table) (codes cells : List ℕ) → true ≡ is_neither (look_up (house codes) cells) → look_up (laid below codes) cells ≡ look_up below cells
  -- a list that passes has at most five codes, and one that fails lays nothing
  pub checked_few : (below : Table) (codes : List ℕ) → is_ok (house_check below codes) ≡ true → length codes ≤ 5
  pub unlaid : (below : Table) (codes : List ℕ) → is_ok (house_check below codes) ≡ false → laid below codes ≡ below
