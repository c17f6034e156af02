-- What the library's `get` lends.
use Rattle.std.proofs.Common.{◌≡◌, ℕ, List, Option, Bor, arith}
use Rattle.std.specs.List.{slice_get}
use Rattle.std.specs.Option.{option_copied}
use Rattle.std.specs.Slice.{IsItemAt}
use Rattle.std.proofs.lemmas.Option.{gets}

-- an element, copied from behind its reference
pub item_copied : {X : Type 0} (xs : List X) (i : ℕ) (r : Option (Bor X)) → IsItemAt xs i r → option_copied r ≡ slice_get xs i
item_copied xs i r h = grind (arith, gets)
