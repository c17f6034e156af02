-- A typeform in a set: the test of one bit.
use Rattle.std.proofs.Common.{◌≡◌, ℕ, ◌^◌, ◌/◌, ◌%◌, not, eqb, bit_and, arith}
use Rattle.std.proofs.lemmas.Bool.Decides.{nat_tests}
use Rattle.std.proofs.lemmas.Nat.Bits.{and_pow, bit_at-lt}

pub bit_test : (set f : ℕ) → not (eqb (bit_and set (2 ^ f)) 0) ≡ eqb (set / 2 ^ f % 2) 1
bit_test set f = rw (and_pow set f) (let b = bit_at-lt set f in grind (arith, nat_tests))
