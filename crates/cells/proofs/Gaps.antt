-- Places with no cell.
use Rattle.std.proofs.Common.{◌≡◌, ℕ, zero, suc, ◌+◌, ◌<◌, ◌≤◌, true, List, [], ◌∷◌, length, is_some, Some, None, Option, sym, refl, ap, ◌∙◌, zero-le, arith}
use Rattle.std.specs.List.{slice_get}
use Rattle.std.specs.Option.{MatchOption}
use Rattle.cells.specs.Cells.{is_cell}
use Rattle.cells.specs.Places.{has_cell, cell_in, first_gap}
use Rattle.cells.specs.declared.strip.Place.{Place}
use Rattle.cells.specs.declared.strip.Place.TheVariants.{Cell, Spoilt}

has_cell_in : (p : Place) → has_cell p ≡ is_some (cell_in (Some p))
has_cell_in (Cell c) = grind arith
has_cell_in Spoilt = refl

-- the first place that has no cell, found among the numbers of all places
from_gap : (n : ℕ) (ps : List Place) (i : ℕ) → i < length ps → cell_in (slice_get ps i) ≡ None → ((k : ℕ) → k < i → is_some (cell_in (slice_get ps k)) ≡ true) → first_gap n ps ≡ Some (n + i)
from_gap n [] i h none before = absurd (omega arith)
from_gap n (p ∷ ps) zero h none before = grind (arith, has_cell_in p)
from_gap n (p ∷ ps) (suc i) h none before =
    let test : has_cell p ≡ true = has_cell_in p ∙ before 0 (omega arith) in
    let rest = from_gap (suc n) ps i (omega arith) none (λ k l. before (suc k) (omega arith)) in
    grind (arith, rest)

all_filled : (n : ℕ) (ps : List Place) → ((k : ℕ) → k < length ps → is_some (cell_in (slice_get ps k)) ≡ true) → first_gap n ps ≡ None
all_filled n [] each = refl
all_filled n (p ∷ ps) each =
    let test : has_cell p ≡ true = has_cell_in p ∙ each 0 (omega arith) in
    rw test (all_filled (suc n) ps (λ k l. each (suc k) (omega arith)))

pub gap_from :
    (ps : List Place) (end : ℕ) (r : Option ℕ) → end ≡ length ps →
    MatchOption r ((k : ℕ) → 0 ≤ k → k < end → is_some (cell_in (slice_get ps k)) ≡ true)
    (λ i. (0 ≤ i) × (i < end) × (cell_in (slice_get ps i) ≡ None) × ((k : ℕ) → 0 ≤ k → k < i → is_some (cell_in (slice_get ps k)) ≡ true)) →
    r ≡ first_gap 0 ps
gap_from ps end None e h = sym (all_filled 0 ps (λ k l. h k zero-le (omega (arith, e))))
gap_from ps end (Some i) e h =
    let there : 0 + i ≡ i = omega arith in
    sym (from_gap 0 ps i (omega (arith, e, h.1)) h.2 (λ k l. h.3 k zero-le l) ∙ ap Some there)

-- where no place lacks a cell, each has one
pub no_gap : (n : ℕ) (ps : List Place) (i : ℕ) → first_gap n ps ≡ None → i < length ps → is_some (cell_in (slice_get ps i)) ≡ true
no_gap n [] i e h = absurd (omega arith)
no_gap n (p ∷ ps) zero e h = grind (arith, has_cell_in p)
no_gap n (p ∷ ps) (suc i) e h = no_gap (suc n) ps i (grind arith) (omega arith)

-- the cell found is what stands there
pub cell_found : (o : Option Place) (cell : ℕ) → Some cell ≡ cell_in o → (o ≡ Some (Cell cell)) × (is_cell cell ≡ true)
cell_found None cell e = absurd cc
cell_found (Some Spoilt) cell e = absurd cc
cell_found (Some (Cell c)) cell e = (grind arith, grind arith)
