-- Strings that begin others.
use Rattle.std.proofs.Common.{◌≡◌, ℕ, ◌&&◌, ◌==◌, eqb, List, [], ◌∷◌, length, refl, ap, arith}
use Rattle.std.proofs.lemmas.Bool.Decides.{nat_tests}
use Rattle.std.specs.List.{starts_with}
use Rattle.signs.specs.Strings.{same, begins}

pub eqb_sym : (a b : ℕ) → eqb a b ≡ eqb b a
eqb_sym a b = grind (arith, nat_tests)

-- what `starts_with` answers
pub starts_front : (p s : List ℕ) → starts_with eqb s p ≡ begins p s
starts_front [] s = refl
starts_front (x ∷ p) [] = refl
starts_front (x ∷ p) (y ∷ s) = ap (λ b. (x == y) && b) (starts_front p s)

-- a string is the same as cells that begin it and are as many
pub same_as_long : (s cells : List ℕ) → same s cells ≡ (begins cells s && eqb (length cells) (length s))
same_as_long [] [] = refl
same_as_long [] (c ∷ cells) = refl
same_as_long (x ∷ s) [] = grind (arith, nat_tests)
same_as_long (x ∷ s) (c ∷ cells) = let rest = same_as_long s cells in rw rest (grind (arith, nat_tests))
