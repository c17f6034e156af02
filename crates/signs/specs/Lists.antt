-- Tests between the elements of a list, and how often one stands there.
use Rattle.std.specs.Prelude.{ℕ, Bool, true, ◌&&◌, List, [], ◌∷◌, count_by, ◌==◌}
use Rattle.cells.specs.Lists.{all}

-- the test passes between each element and every later one
abbrev pub pairwise : {X : Type 0} → (X → X → Bool) → List X → Bool
pairwise test [] = true
pairwise test (x ∷ xs) = all (test x) xs && pairwise test xs

-- how often a number stands in a list
abbrev pub times : ℕ → List ℕ → ℕ
times n ns = count_by (λ m. m == n) ns
