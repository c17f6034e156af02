-- What a table with house signs answers, and the sign of a position.
use Rattle.std.proofs.Common.{◌≡◌, ℕ, zero, suc, Bool, true, false, cond, List, [], ◌∷◌, ◌++◌, zip, is_ok, Some, None, refl, arith}
use Rattle.std.specs.List.{slice_get}
use Rattle.std.specs.Option.{option_or}
use Rattle.signs.specs.Tables.{Table, string_of, look_up, or_match}
use Rattle.signs.proofs.Tables.{string_of_append, look_up_append}
use Rattle.tables.specs.House.{house, house_check, LaidAnswers}

at_string : (ok : Bool) (house below : Table) (code : ℕ) → string_of (cond ok (house ++ below) below) code ≡ cond ok (option_or (string_of house code) (string_of below code)) (string_of below code)
at_string ok house below code = grind (arith, string_of_append house below code)

at_look_up : (ok : Bool) (house below : Table) (cells : List ℕ) → look_up (cond ok (house ++ below) below) cells ≡ cond ok (or_match (look_up house cells) (look_up below cells)) (look_up below cells)
at_look_up ok house below cells = grind (arith, look_up_append house below cells)

pub laid_answers : LaidAnswers
laid_answers =
    record {
      laid_string = λ below codes code. at_string (is_ok (house_check below codes)) (house codes) below code;
      laid_look_up = λ below codes cells. at_look_up (is_ok (house_check below codes)) (house codes) below cells;
      below_string = λ below codes code e. grind (arith, at_string (is_ok (house_check below codes)) (house codes) below code);
      below_look_up = λ below codes cells e. grind (arith, at_look_up (is_ok (house_check below codes)) (house codes) below cells);
      checked_few = λ below codes ok. grind arith;
      unlaid = λ below codes fails. grind arith;
    }

-- Codes with the strings of their positions

pub house_past : (cs : List ℕ) (ss : List (List ℕ)) (i : ℕ) → slice_get cs i ≡ None → slice_get (zip cs ss) i ≡ None
house_past [] ss i none = refl
house_past (c ∷ cs) [] i none = refl
house_past (c ∷ cs) (s ∷ ss) zero none = absurd cc
house_past (c ∷ cs) (s ∷ ss) (suc i) none = house_past cs ss i none

pub house_there : (cs : List ℕ) (ss : List (List ℕ)) (i code : ℕ) (string : List ℕ) → slice_get cs i ≡ Some code → slice_get ss i ≡ Some string → slice_get (zip cs ss) i ≡ Some (code, string)
house_there [] ss i code string e f = absurd cc
house_there (c ∷ cs) [] i code string e f = absurd cc
house_there (c ∷ cs) (s ∷ ss) zero code string e f = cc
house_there (c ∷ cs) (s ∷ ss) (suc i) code string e f = house_there cs ss i code string e f

-- A choice that a test makes

pub at_cond : {X Y : Type 0} (f : X → Y) (b : Bool) (x y : X) → f (cond b x y) ≡ cond b (f x) (f y)
at_cond f true x y = refl
at_cond f false x y = refl

pub cond_same : {X : Type 0} (b : Bool) (x y : X) → x ≡ y → cond b x y ≡ y
cond_same true x y e = e
cond_same false x y e = refl
