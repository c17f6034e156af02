-- The two carriers by name, and a strip pressed on a bare tape of either.
use Rattle.std.specs.Prelude.{ℕ, ◌/◌, List, Ok, Err, Result}
use Rattle.std.specs.Borrow.{Bor}
use Rattle.std.specs.List.{flat_map}
use Rattle.cells.specs.Pressing.{copied}
use Rattle.cells.specs.Refusals.{Answer, granted, refused, refusal}
use Rattle.cells.specs.declared.refusal.CopyRefusal.{CopyRefusal}
use Rattle.cells.specs.declared.strip.Place.{Place}
use Rattle.carriers.specs.Carriers.{ascii_places, ascii_bytes, unicode_places, unicode_bytes}
use Rattle.console.specs.declared.carrier.Carrier.{Carrier}
use Rattle.console.specs.declared.carrier.Carrier.TheVariants.{Ascii, Unicode}

abbrev pub bytes_a_cell : Carrier → ℕ
bytes_a_cell Ascii = 1
bytes_a_cell Unicode = 3

abbrev pub carrier_places : Carrier → List ℕ → List Place
carrier_places Ascii bytes = ascii_places bytes
carrier_places Unicode bytes = unicode_places bytes

abbrev pub carrier_bytes : Carrier → Place → List ℕ
carrier_bytes Ascii place = ascii_bytes place
carrier_bytes Unicode place = unicode_bytes place

-- the bytes that a call answers, or its refusal
abbrev pub bytes_told : Result (Bor (List ℕ)) CopyRefusal → Result (List ℕ) Answer
bytes_told (Ok bytes) = Ok bytes.now
bytes_told (Err r) = Err (refusal r)

abbrev pub when_granted : List ℕ → Answer → Result (List ℕ) Answer
when_granted bytes (granted cells) = Ok bytes
when_granted bytes (refused number value) = Err (refused number value)

-- in memory of so many bytes
abbrev pub embossed : Carrier → ℕ → List Place → Result (List ℕ) Answer
embossed to size places = when_granted (flat_map (carrier_bytes to) places) (copied (size / bytes_a_cell to) places)
