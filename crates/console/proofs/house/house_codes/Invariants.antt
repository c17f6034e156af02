use Rattle.std.proofs.Common.{◌≡◌, vec_items}
use Rattle.std.specs.Str.{chars}
use Rattle.console.specs.HouseWords.{codes_written}
use Rattle.console.proofs.HouseCodes.{CutsAtBlanks, codes_on, parts_left}
use Rattle.console.proofs.house.house_codes.Given as goal

abbrev pub invariant-loop-word : goal.invariant-loop-word
invariant-loop-word l = CutsAtBlanks l.word-iterator × (codes_on (vec_items l.codes) (parts_left l.word-iterator) ≡ codes_written (chars l.text))
