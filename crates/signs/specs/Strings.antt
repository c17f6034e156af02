-- Strings of cells, and which of two begins the other.
use Rattle.std.specs.Prelude.{◌≡◌, ℕ, Bool, true, false, not, ◌&&◌, List, [], ◌∷◌, ◌==◌}

abbrev pub same : List ℕ → List ℕ → Bool
same [] [] = true
same [] (y ∷ t) = false
same (x ∷ s) [] = false
same (x ∷ s) (y ∷ t) = x == y && same s t

-- the first begins the second; equal counts as beginning
abbrev pub begins : List ℕ → List ℕ → Bool
begins [] t = true
begins (x ∷ s) [] = false
begins (x ∷ s) (y ∷ t) = x == y && begins s t

-- neither begins the other
abbrev pub Apart : List ℕ → List ℕ → Type 0
Apart s t = (begins s t ≡ false) × (begins t s ≡ false)

-- the same as a test
abbrev pub apart : List ℕ → List ℕ → Bool
apart s t = not (begins s t) && not (begins t s)
