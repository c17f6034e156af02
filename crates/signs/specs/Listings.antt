-- A listed sign as an entry of its table.
use Rattle.std.specs.Prelude.{ℕ, Bool, false, Some, None, Option, ◌==◌}
use Rattle.signs.specs.Tables.{Entry}
use Rattle.signs.specs.declared.listing.Listed.{Listed}

abbrev pub entry_of : Listed → Entry
entry_of l = (l.code, l.string.now)

-- an entry is there, and has the code
abbrev pub has_code : ℕ → Option Entry → Bool
has_code code None = false
has_code code (Some e) = e.0 == code
