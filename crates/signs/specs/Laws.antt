-- The laws that every sign table obeys, so that what is written can be read in one way only.
use Rattle.std.specs.Prelude.{◌≡◌, ℕ, ◌<◌, ◌≤◌, Bool, false, not, ◌&&◌, List, [], ◌∷◌, ◌++◌, All, AllPairs, length, ◌==◌, ◌≢◌, nat_le, nat_lt}
use Rattle.cells.specs.Cells.{braille}
use Rattle.cells.specs.Lists.{all}
use Rattle.signs.specs.Lists.{pairwise}
use Rattle.signs.specs.Signs.{is_fixed}
use Rattle.signs.specs.Strings.{begins, Apart, apart}
use Rattle.signs.specs.Symbols.{string, plain, indicators, accent_symbols, follow_capital}
use Rattle.signs.specs.Tables.{Entry, Table}

-- the laws of one string
pub record LawfulString (s : List ℕ) : Type 0 where
  -- one to three cells, none blank
  pub short : (1 ≤ length s) × (length s ≤ 3)
  pub inked : All (λ c. (0 < c) × (c < 64)) s
  -- it does not begin with a letter cell, a comma, a period, the numeric or the grade 1 indicator
  pub opening : All (λ σ. begins (string σ) s ≡ false) plain
  -- it begins no indicator and no accent, nor does one of those begin it
  pub clear : All (λ σ. Apart (string σ) s) (indicators ++ accent_symbols)
  -- after a first , the second cell is no letter cell and none of ^ @ , '
  pub capped : All (λ c. begins (braille "," ++ c ∷ []) s ≡ false) (follow_capital ++ braille ",'")

pub record Lawful (table : Table) : Type 0 where
  -- each code is listed once and is no fixed sign
  pub once : AllPairs (λ (e f : Entry). e.0 ≢ f.0) table
  pub unfixed : All (λ (e : Entry). is_fixed e.0 ≡ false) table
  pub strings : All (λ (e : Entry). LawfulString e.1) table
  -- no string begins another
  pub free : AllPairs (λ (e f : Entry). Apart e.1 f.1) table

-- The same laws as a test, by which a table that is written out shows them

abbrev pub lawful_string : List ℕ → Bool
lawful_string s =
    nat_le 1 (length s) && nat_le (length s) 3
    && all (λ c. nat_lt 0 c && nat_lt c 64) s
    && all (λ σ. not (begins (string σ) s)) plain
    && all (λ σ. apart (string σ) s) (indicators ++ accent_symbols)
    && all (λ c. not (begins (braille "," ++ c ∷ []) s)) (follow_capital ++ braille ",'")

abbrev pub lawful : Table → Bool
lawful table =
    pairwise (λ (e f : Entry). not (e.0 == f.0)) table
    && all (λ (e : Entry). not (is_fixed e.0)) table
    && all (λ (e : Entry). lawful_string e.1) table
    && pairwise (λ (e f : Entry). apart e.1 f.1) table
