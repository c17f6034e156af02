-- The laws of the Unicode carrier: groups of three bytes.
use Rattle.std.proofs.Common.{◌≡◌, ℕ, zero, suc, ◌+◌, ◌-◌, ◌*◌, ◌/◌, ◌<◌, true, List, [], ◌∷◌, ◌++◌, length, drop, refl, ap, ◌∙◌, lit<, arith}
use Rattle.std.specs.List.{flat_map, slice_get}
use Rattle.std.specs.Option.{option_map}
use Rattle.std.proofs.lemmas.Bool.{false≢true}
use Rattle.carriers.specs.Carriers.{unicode_place, unicode_places, unicode_bytes, first_group}
use Rattle.carriers.specs.Codes.{CodeLaws}
use Rattle.cells.specs.Places.{has_cell, all_cells}
use Rattle.cells.specs.declared.strip.Place.{Place}
use Rattle.cells.specs.declared.strip.Place.TheVariants.{Cell}

pub length_unicode : (xs : List ℕ) → length (unicode_places xs) ≡ (length xs + 2) / 3
length_unicode [] = refl
length_unicode (x ∷ []) = refl
length_unicode (x ∷ y ∷ []) = refl
length_unicode (x ∷ y ∷ z ∷ xs) = omega (arith, length_unicode xs)

pub nth_unicode : (i : ℕ) (xs : List ℕ) → slice_get (unicode_places xs) i ≡ option_map (λ (g : Place × List ℕ). g.0) (first_group (drop (3 * i) xs))
nth_unicode zero [] = refl
nth_unicode zero (x ∷ []) = refl
nth_unicode zero (x ∷ y ∷ []) = refl
nth_unicode zero (x ∷ y ∷ z ∷ xs) = refl
nth_unicode (suc i) [] = let e : 3 * suc i ≡ suc (suc (suc (3 * i))) = omega arith in rw e refl
nth_unicode (suc i) (x ∷ []) = let e : 3 * suc i ≡ suc (suc (suc (3 * i))) = omega arith in rw e refl
nth_unicode (suc i) (x ∷ y ∷ []) = let e : 3 * suc i ≡ suc (suc (suc (3 * i))) = omega arith in rw e refl
nth_unicode (suc i) (x ∷ y ∷ z ∷ xs) = let e : 3 * suc i ≡ suc (suc (suc (3 * i))) = omega arith in rw e (nth_unicode i xs)

unicode_cell : (cell : ℕ) → cell < 64 → unicode_place 0xE2 0xA0 (0x80 + cell) ≡ Cell cell
unicode_cell cell h = grind arith

-- a group that is no spoilt place is the group of its cell
group_back : (a b c : ℕ) → has_cell (unicode_place a b c) ≡ true → unicode_bytes (unicode_place a b c) ≡ a ∷ b ∷ c ∷ []
group_back a b c t = grind arith

pub all_groups_back : (bytes : List ℕ) → all_cells (unicode_places bytes) ≡ true → flat_map unicode_bytes (unicode_places bytes) ≡ bytes
all_groups_back [] t = refl
all_groups_back (a ∷ []) t = absurd (false≢true t)
all_groups_back (a ∷ b ∷ []) t = absurd (false≢true t)
all_groups_back (a ∷ b ∷ c ∷ rest) t = grind (arith, group_back a b c, all_groups_back rest)

-- one group more behind whole groups
group_more : (k : ℕ) (xs : List ℕ) (a b c : ℕ) → length xs ≡ 3 * k → unicode_places (xs ++ a ∷ b ∷ c ∷ []) ≡ unicode_places xs ++ unicode_place a b c ∷ []
group_more k [] a b c e = refl
group_more k (x ∷ []) a b c e = absurd (omega arith)
group_more k (x ∷ y ∷ []) a b c e = absurd (omega arith)
group_more k (x ∷ y ∷ z ∷ xs) a b c e = ap (λ p. unicode_place x y z ∷ p) (group_more (k - 1) xs a b c (omega arith))

pub unicode_laws : CodeLaws 3 unicode_places first_group unicode_bytes
unicode_laws =
    record {
      some_width = lit< tt;
      small_width = lit< tt;
      nothing = (refl, refl);
      count = length_unicode;
      each = nth_unicode;
      group = λ cell h. refl;
      more = λ carrier cell h whole.
          group_more (length (unicode_places carrier)) carrier 0xE2 0xA0 (0x80 + cell) whole ∙ ap (λ p. unicode_places carrier ++ p ∷ []) (unicode_cell cell h);
      back = all_groups_back;
    }
