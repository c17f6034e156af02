-- Words that name something.
use Rattle.std.specs.Prelude.{◌≡◌, ℕ, List, Some, None, codes, Option, ◌≢◌}
use Rattle.console.specs.declared.carrier.Carrier.{Carrier}
use Rattle.console.specs.declared.carrier.Carrier.TheVariants.{Ascii, Unicode}

-- the word is the name of this one, or of none
abbrev pub Names : {X : Type 0} → (X → List ℕ) → List ℕ → Option X → Type 0
Names name word (Some x) = word ≡ name x
Names {X} name word None = (x : X) → word ≢ name x

abbrev pub carrier_name : Carrier → List ℕ
carrier_name Ascii = codes "ascii"
carrier_name Unicode = codes "unicode"
