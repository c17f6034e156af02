-- What a code of cells in bytes is to the strips and tapes over it.
use Rattle.std.specs.Prelude.{◌≡◌, ℕ, ◌+◌, ◌-◌, ◌*◌, ◌/◌, ◌^◌, ◌<◌, true, List, [], ◌∷◌, ◌++◌, length, drop, None, Option}
use Rattle.std.specs.List.{slice_get, flat_map}
use Rattle.std.specs.Option.{option_map}
use Rattle.cells.specs.Places.{all_cells}
use Rattle.cells.specs.declared.strip.Place.{Place}
use Rattle.cells.specs.declared.strip.Place.TheVariants.{Cell}

-- width is the number of bytes a cell, places what a carrier means, first its first place with the bytes behind it, bytes the bytes of a place
pub record CodeLaws (width : ℕ) (places : List ℕ → List Place) (first : List ℕ → Option (Place × List ℕ)) (bytes : Place → List ℕ) : Type 0 where
  pub some_width : 0 < width
  -- an array of so many bytes can be had
  pub small_width : width < 2 ^ 63
  -- a carrier has a place for each group, and one for a last group that is cut off
  pub nothing : (places [] ≡ []) × (first [] ≡ None)
  pub count : (carrier : List ℕ) → length (places carrier) ≡ (length carrier + (width - 1)) / width
  pub each : (place : ℕ) (carrier : List ℕ) → slice_get (places carrier) place ≡ option_map (λ (g : Place × List ℕ). g.0) (first (drop (width * place) carrier))
  -- the bytes of a cell are one group, and behind whole groups they add its place
  pub group : (cell : ℕ) → cell < 64 → length (bytes (Cell cell)) ≡ width
  pub more : (carrier : List ℕ) (cell : ℕ) → cell < 64 → length carrier ≡ width * length (places carrier) → places (carrier ++ bytes (Cell cell)) ≡ places carrier ++ Cell cell ∷ []
  -- a carrier with no spoilt place is the bytes of its cells
  pub back : (carrier : List ℕ) → all_cells (places carrier) ≡ true → flat_map bytes (places carrier) ≡ carrier
