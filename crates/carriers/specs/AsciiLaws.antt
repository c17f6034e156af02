-- The laws of the ASCII carrier.
use Rattle.std.proofs.Common.{◌≡◌, ℕ, zero, suc, ◌*◌, Bool, true, false, cond, List, [], ◌∷◌, ◌++◌, length, drop, Some, None, Option, refl, ap, ◌∙◌, inl, inr, lit<, arith}
use Rattle.std.specs.List.{flat_map, slice_get}
use Rattle.std.specs.Option.{option_map, option_to_list}
use Rattle.std.proofs.lemmas.List.{length-map, map-append}
use Rattle.std.proofs.lemmas.Bool.{cases_lt, false≢true}
use Rattle.cells.specs.Cells.{is_cell, byte_of, cell_of}
use Rattle.cells.specs.Places.{has_cell, all_cells}
use Rattle.cells.specs.declared.strip.Place.{Place}
use Rattle.cells.specs.declared.strip.Place.TheVariants.{Cell}
use Rattle.cells.proofs.BrailleAscii.{cell_from_byte, byte_from_cell, byte_at, no_byte, character}
use Rattle.carriers.specs.Carriers.{place_of, ascii_place, ascii_places, ascii_bytes, first_byte}
use Rattle.carriers.specs.Codes.{CodeLaws}

-- a byte that is no spoilt place is the byte of its cell
pub byte_back : (byte : ℕ) → has_cell (ascii_place byte) ≡ true → ascii_bytes (ascii_place byte) ≡ byte ∷ []
byte_back byte = of (cell_of byte) refl
  where
    of : (o : Option ℕ) → cell_of byte ≡ o → has_cell (place_of o) ≡ true → ascii_bytes (place_of o) ≡ byte ∷ []
    of None e t = let z : ◌≡◌ {A = Bool} false true = t in absurd (false≢true z)
    of (Some cell) e t = ap option_to_list (byte_from_cell cell byte e)

pub all_bytes_back : (bytes : List ℕ) → all_cells (ascii_places bytes) ≡ true → flat_map ascii_bytes (ascii_places bytes) ≡ bytes
all_bytes_back [] t = refl
all_bytes_back (b ∷ bs) t = grind (arith, byte_back b, all_bytes_back bs)

nth_byte : (place : ℕ) (carrier : List ℕ) → slice_get (ascii_places carrier) place ≡ option_map (λ (g : Place × List ℕ). g.0) (first_byte (drop (1 * place) carrier))
nth_byte zero [] = refl
nth_byte (suc place) [] = let e : 1 * suc place ≡ suc place = omega arith in rw e refl
nth_byte zero (b ∷ bs) = refl
nth_byte (suc place) (b ∷ bs) = let e : 1 * suc place ≡ suc (1 * place) = omega arith in rw e (nth_byte place bs)

-- the bytes of a cell are its one byte
pub bytes_as_byte : (cell : ℕ) → cond (is_cell cell) (Some (ascii_bytes (Cell cell))) None ≡ option_map (λ byte. byte ∷ []) (byte_of cell)
bytes_as_byte cell = elim (cases_lt cell 64) [ inl h ↦ grind (arith, byte_at cell h) | inr h ↦ grind (arith, no_byte cell h) ]

pub ascii_laws : CodeLaws 1 ascii_places first_byte ascii_bytes
ascii_laws =
    record {
      some_width = lit< tt;
      small_width = lit< tt;
      nothing = (refl, refl);
      count = λ carrier. length-map carrier ascii_place ∙ omega arith;
      each = nth_byte;
      group = λ cell h. ap (λ o. length (option_to_list o)) (byte_at cell h);
      more = λ carrier cell h whole.
          let byte = byte_at cell h in
          let back = cell_from_byte cell (character cell) byte in
          ap (λ o. ascii_places (carrier ++ option_to_list o)) byte ∙ map-append ascii_place carrier (character cell ∷ []) ∙ ap (λ o. ascii_places carrier ++ place_of o ∷ []) back;
      back = all_bytes_back;
    }
