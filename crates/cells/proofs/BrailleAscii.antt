-- Braille ASCII and its inverse.
use Rattle.std.proofs.Common.{◌≡◌, ℕ, ◌+◌, ◌-◌, ◌%◌, ◌^◌, ◌<◌, ◌≤◌, Bool, true, ◌⊎◌, List, map, reverse, length, get_or, Some, None, Option, unwrap_or, sym, refl, ap, ◌∙◌, inl, inr, arith}
use Rattle.std.proofs.lemmas.Option.{slice_get-get_or, slice_get_past}
use Rattle.std.proofs.lemmas.Bool.{cases_lt}
use Rattle.std.specs.List.{slice_get}
use Rattle.cells.specs.Cells.{characters, byte_of, cell_of, Bijection}
use Rattle.cells.specs.Lists.{all, below, within}
use Rattle.cells.proofs.Tables.{agree, no_index}

-- the character of a cell, and the cell of the k-th character, as plain numbers
abbrev pub character : ℕ → ℕ
character cell = get_or characters cell 0

unfoldable pub inverse : List ℕ
inverse = map (λ k. unwrap_or (cell_of (k + 32)) 0) (reverse (below 64))

-- The whole table by one computed test: at each place what the two tables answer of each other, and the range of the characters.
abbrev answers : ℕ → Option ℕ × (Option ℕ × Option ℕ)
answers k = (cell_of (k + 32), (byte_of (get_or inverse k 0), cell_of (character k)))

abbrev right : ℕ → Option ℕ × (Option ℕ × Option ℕ)
right k = (Some (get_or inverse k 0), (Some (k + 32), Some k))

table : ◌≡◌ {A = List (Option ℕ × (Option ℕ × Option ℕ)) × Bool} (map answers (below 64), all (within 0x20 0x5F) characters) (map right (below 64), true)
unfolding characters byte_of cell_of inverse
table = refl

at_each : (k : ℕ) → k < 64 → answers k ≡ right k
at_each k h = agree answers right 64 (ap (λ t. t.0) table) k h

pub cell_at : (k : ℕ) → k < 64 → cell_of (k + 32) ≡ Some (get_or inverse k 0)
cell_at k h = ap (λ t. t.0) (at_each k h)

back_to_byte : (k : ℕ) → k < 64 → byte_of (get_or inverse k 0) ≡ Some (k + 32)
back_to_byte k h = ap (λ t. t.1.0) (at_each k h)

back_to_cell : (cell : ℕ) → cell < 64 → cell_of (character cell) ≡ Some cell
back_to_cell cell h = ap (λ t. t.1.1) (at_each cell h)

pub no_cell : (byte : ℕ) → ((byte < 0x20) ⊎ (0x5F < byte)) → cell_of byte ≡ None
unfolding cell_of
no_cell byte out = no_index byte 0x20 0x5F out 0 characters (ap (λ t. t.1) table)

pub byte_at : (cell : ℕ) → cell < 64 → byte_of cell ≡ Some (character cell)
unfolding characters byte_of
byte_at cell h = slice_get-get_or characters cell 0 h

pub no_byte : (cell : ℕ) → 64 ≤ cell → byte_of cell ≡ None
unfolding characters byte_of
no_byte cell h = slice_get_past characters cell h

pub cell_from_byte : (cell byte : ℕ) → byte_of cell ≡ Some byte → cell_of byte ≡ Some cell
cell_from_byte cell byte e = elim (cases_lt cell 64) [ inl h ↦ grind (arith, byte_at cell h, back_to_cell cell h) | inr h ↦ grind (arith, no_byte cell h) ]

pub byte_from_cell : (cell byte : ℕ) → cell_of byte ≡ Some cell → byte_of cell ≡ Some byte
byte_from_cell cell byte e =
    elim (cases_lt byte 0x20) [
      | inl h ↦ let n = no_cell byte (inl h) in absurd cc
      | inr low ↦ elim (cases_lt 0x5F byte) [
        | inl h ↦ let n = no_cell byte (inr h) in absurd cc
        | inr high ↦
            let k : byte - 32 < 64 = omega arith in
            let s : byte - 32 + 32 ≡ byte = omega arith in
            let c = rw s at (cell_at (byte - 32) k) in
            let b = rw s at (back_to_byte (byte - 32) k) in
            let same : cell ≡ get_or inverse (byte - 32) 0 = cc in
            rw same b
      ]
    ]

sized : length inverse ≡ 64
unfolding characters cell_of inverse
sized = refl

-- the inverse table answers each byte, past its end too
pub cell_in_table : (byte : ℕ) → 32 ≤ byte → slice_get inverse (byte - 32) ≡ cell_of byte
cell_in_table byte low =
    elim (cases_lt (byte - 32) 64) [
      | inl h ↦
          let s : byte - 32 + 32 ≡ byte = omega arith in
          let l : byte - 32 < length inverse = rw sized h in
          slice_get-get_or inverse (byte - 32) 0 l ∙ sym (cell_at (byte - 32) h) ∙ ap cell_of s
      | inr h ↦ let l : length inverse ≤ byte - 32 = rw sized h in slice_get_past inverse (byte - 32) l ∙ sym (no_cell byte (inr (omega arith)))
    ]

-- and each byte from which 32 is taken with a wrap
pub cell_by_wrap : (byte : ℕ) → byte < 256 → slice_get inverse ((byte + (2 ^ 64 - 32)) % 2 ^ 64) ≡ cell_of byte
cell_by_wrap byte fits =
    elim (cases_lt byte 32) [
      | inl h ↦
          let wrapped : (byte + (2 ^ 64 - 32)) % 2 ^ 64 ≡ byte + (2 ^ 64 - 32) = omega arith in
          let l : length inverse ≤ byte + (2 ^ 64 - 32) = rw sized (omega arith) in
          ap (slice_get inverse) wrapped ∙ slice_get_past inverse (byte + (2 ^ 64 - 32)) l ∙ sym (no_cell byte (inl h))
      | inr low ↦ let place : (byte + (2 ^ 64 - 32)) % 2 ^ 64 ≡ byte - 32 = omega arith in ap (slice_get inverse) place ∙ cell_in_table byte low
    ]

pub bijection : Bijection
bijection =
    record {
      inverse = λ cell byte. (cell_from_byte cell byte, byte_from_cell cell byte);
      every_cell = λ cell h. (character cell, byte_at cell h);
      every_byte = λ byte low high.
          let k : byte - 32 < 64 = omega arith in
          let s : byte - 32 + 32 ≡ byte = omega arith in
          (get_or inverse (byte - 32) 0, rw s at (cell_at (byte - 32) k));
      no_other_cell = no_byte;
      no_lower_byte = λ byte h. no_cell byte (inl h);
      no_higher_byte = λ byte h. no_cell byte (inr h);
    }
