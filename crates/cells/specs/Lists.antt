-- Tests, numbers and places in lists.
use Rattle.std.specs.Prelude.{ℕ, zero, suc, Bool, true, cond, ◌&&◌, List, [], ◌∷◌, Some, None, Option, ◌==◌, nat_le}

-- each element passes the test
abbrev pub all : {X : Type 0} → (X → Bool) → List X → Bool
all test [] = true
all test (x ∷ xs) = test x && all test xs

-- where a number first stands in a list, whose first place counts as n
abbrev pub index_of : ℕ → ℕ → List ℕ → Option ℕ
index_of x n [] = None
index_of x n (y ∷ ys) = cond (x == y) (Some n) (index_of x (suc n) ys)

-- the numbers below n
abbrev pub below : ℕ → List ℕ
below zero = []
below (suc n) = n ∷ below n

-- one of low to high
abbrev pub within : ℕ → ℕ → ℕ → Bool
within low high n = nat_le low n && nat_le n high
