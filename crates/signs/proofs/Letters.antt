-- The cells of the letters are those of their characters.
use Rattle.std.proofs.Common.{◌≡◌, ℕ, ◌+◌, ◌<◌, refl}
use Rattle.std.specs.List.{slice_get}
use Rattle.cells.specs.Cells.{characters, cell_of}
use Rattle.cells.proofs.Tables.{agree}
use Rattle.signs.specs.Signs.{letters}

pub letter_of_character : (n : ℕ) → n < 26 → cell_of (65 + n) ≡ slice_get letters n
unfolding characters cell_of
letter_of_character n h = agree (λ k. cell_of (65 + k)) (slice_get letters) 26 refl n h
