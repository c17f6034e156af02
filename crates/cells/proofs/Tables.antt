-- How a computed test of a whole table gives its rule at each entry.
use Rattle.std.proofs.Common.{◌≡◌, ℕ, zero, suc, ◌<◌, ◌≤◌, true, false, eqb, leb, ◌⊎◌, List, [], ◌∷◌, map, None, refl, inl, inr, not-suc-le-zero, arith}
use Rattle.std.proofs.lemmas.Bool.{cases_order, and_parts, leb-true, ne_eqb}
use Rattle.cells.specs.Lists.{all, index_of, below, within}

-- two functions with equal lists of values below n agree at each number below n
pub agree : {X : Type 0} (f g : ℕ → X) (n : ℕ) → map f (below n) ≡ map g (below n) → (k : ℕ) → k < n → f k ≡ g k
agree f g zero e k h = absurd (not-suc-le-zero h)
agree f g (suc n) e k h =
    elim (cases_order k n) [
      | inl same ↦ let top : f n ≡ g n = cc in rw same top
      | inr other ↦ elim other [
        | inl less ↦ agree f g n (cc) k less
        | inr more ↦ absurd (omega arith)
      ]
    ]

pub no_index : (x low high : ℕ) → ((x < low) ⊎ (high < x)) → (n : ℕ) (ys : List ℕ) → all (within low high) ys ≡ true → index_of x n ys ≡ None
no_index x low high out n [] e = refl
no_index x low high out n (y ∷ ys) e =
    let p = and_parts (within low high y) (all (within low high) ys) e in
    let q = and_parts (leb low y) (leb y high) p.0 in
    let l : low ≤ y = leb-true low y q.0 in
    let h : y ≤ high = leb-true y high q.1 in
    let ne : eqb x y ≡ false = ne_eqb x y (λ same. elim out [ inl a ↦ omega arith | inr b ↦ omega arith ]) in
    rw ne (no_index x low high out (suc n) ys p.1)
