-- The cells by which each symbol is known, and that no two symbols are taken for one another.
use Rattle.std.specs.Prelude.{ℕ, ◌≤◌, List, [], ◌∷◌, ◌++◌, count_by, map}
use Rattle.cells.specs.Cells.{braille}
use Rattle.signs.specs.Laws.{Lawful}
use Rattle.signs.specs.Strings.{begins}
use Rattle.signs.specs.Symbols.{Symbol, blank, capital, listed, string, plain, indicators, accent_symbols, follow_capital}
use Rattle.signs.specs.Tables.{Entry, Table}

abbrev pub KnownBy : Type 0
KnownBy = Symbol × List ℕ

abbrev pub by_string : Symbol → KnownBy
by_string σ = (σ, string σ)

-- the capital indicator is known by its cell and the next one
abbrev pub by_next : ℕ → KnownBy
by_next c = (capital, braille "," ++ c ∷ [])

abbrev pub by_entry : Entry → KnownBy
by_entry e = (listed e.0 e.1, e.1)

-- the fixed cells, the indicators and the accents
abbrev pub always : List KnownBy
always = map by_string (blank ∷ (plain ++ (indicators ++ accent_symbols))) ++ map by_next follow_capital

-- and the strings that a table lists
abbrev pub known : Table → List KnownBy
known table = always ++ map by_entry table

-- under the laws at most one of them begins any given cells
abbrev pub ToldApart : Type 0
ToldApart = (table : Table) → Lawful table → (cells : List ℕ) → count_by (λ (k : KnownBy). begins k.1 cells) (known table) ≤ 1
