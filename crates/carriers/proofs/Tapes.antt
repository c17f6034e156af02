-- Memory with one group more at the front that is pressed.
use Rattle.std.proofs.Common.{◌≡◌, ℕ, ◌+◌, ◌-◌, ◌*◌, ◌/◌, ◌<◌, ◌≤◌, Bool, true, false, cond, ◌&&◌, leb, ltb, List, [], ◌∷◌, ◌++◌, length, drop, Some, None, Option, sym, ap, ◌∙◌, inl, inr, length-append, mul-add, mul-one, arith}
use Rattle.std.proofs.lemmas.List.{length-drop}
use Rattle.std.proofs.Math.Nat.{div-eq-sub-div, div-eq_of_lt}
use Rattle.std.proofs.lemmas.Bool.{cases_lt, ltb-true, leb-true}
use Rattle.std.proofs.lemmas.Bool.Decides.{nat_tests}
use Rattle.std.proofs.lemmas.Option.{cond_some}
use Rattle.cells.specs.Cells.{is_cell}
use Rattle.cells.specs.Places.{has_cell, all_cells}
use Rattle.cells.specs.declared.strip.Place.{Place}
use Rattle.cells.specs.declared.strip.Place.TheVariants.{Cell}
use Rattle.carriers.specs.Codes.{CodeLaws}

-- one cell more behind cells
pub all_cells_more : (ps : List Place) (p : Place) → all_cells ps ≡ true → has_cell p ≡ true → all_cells (ps ++ p ∷ []) ≡ true
all_cells_more [] p t h = grind arith
all_cells_more (q ∷ ps) p t h = grind (arith, all_cells_more ps p)

module _ {width : ℕ} {places : List ℕ → List Place} {first : List ℕ → Option (Place × List ℕ)} {bytes : Place → List ℕ} (laws : CodeLaws width places first bytes)
    (cell : ℕ) (group : List ℕ) (some : Some group ≡ cond (is_cell cell) (Some (bytes (Cell cell))) None) where
  low : is_cell cell ≡ true
  low = (cond_some (is_cell cell) (bytes (Cell cell)) group (sym some)).0

  same : group ≡ bytes (Cell cell)
  same = sym (cond_some (is_cell cell) (bytes (Cell cell)) group (sym some)).1

  sized : length group ≡ width
  sized = ap length same ∙ laws.group cell (ltb-true cell 64 low)

  -- a group is taken where a cell is free
  pub takes_group : (r : Bool) (unused : List ℕ) → r ≡ leb (length group) (length unused) → r ≡ (is_cell cell && ltb 0 (length unused / width))
  takes_group r unused e =
      elim (cases_lt (length unused) width) [
        | inl less ↦ let none = div-eq_of_lt less in grind (arith, nat_tests, low, sized)
        | inr enough ↦ let step = div-eq-sub-div {m = width} {n = length unused} laws.some_width enough in grind (arith, nat_tests, low, sized)
      ]

  -- and then one cell less is free
  pub room_less : (r : Bool) (unused now : List ℕ) → r ≡ leb (length group) (length unused) → now ≡ cond r (drop (length group) unused) unused →
      length now / width ≡ cond r (length unused / width - 1) (length unused / width)
  room_less true unused now e after =
      let enough : width ≤ length unused = omega (arith, sized, leb-true (length group) (length unused) (sym e)) in
      let step = div-eq-sub-div {m = width} {n = length unused} laws.some_width enough in
      let less : length (drop (length group) unused) ≡ length unused - width = omega (arith, length-drop (length group) unused, sized) in
      ap (λ t. length t / width) after ∙ ap (λ n. n / width) less ∙ omega (arith, step)
  room_less false unused now e after = ap (λ t. length t / width) after

  module _ (pressed : List ℕ) (whole : width * length (places pressed) ≡ length pressed) where
    place_more : places (pressed ++ group) ≡ places pressed ++ Cell cell ∷ []
    place_more = ap (λ t. places (pressed ++ t)) same ∙ laws.more pressed cell (ltb-true cell 64 low) (sym whole)

    pub places_after : (r : Bool) (now : List ℕ) → now ≡ cond r (pressed ++ group) pressed → places now ≡ cond r (places pressed ++ Cell cell ∷ []) (places pressed)
    places_after true now e = ap places e ∙ place_more
    places_after false now e = ap places e

    pub whole_after : (r : Bool) (now : List ℕ) → now ≡ cond r (pressed ++ group) pressed → width * length (places now) ≡ length now
    whole_after true now e =
        rw e
        (ap (λ p. width * length p) place_more ∙ ap (λ l. width * l) (length-append (places pressed) (Cell cell ∷ []))
        ∙ mul-add width (length (places pressed)) 1 ∙ omega (arith, whole, mul-one width, sized, length-append pressed group))
    whole_after false now e = rw e whole

    pub cells_after : all_cells (places pressed) ≡ true → (r : Bool) (now : List ℕ) → now ≡ cond r (pressed ++ group) pressed → all_cells (places now) ≡ true
    cells_after clean true now e = rw e (ap all_cells place_more ∙ all_cells_more (places pressed) (Cell cell) clean low)
    cells_after clean false now e = rw e clean
