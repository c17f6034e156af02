-- Sign tables: each means a list of pairs of code and cell string.
use Rattle.std.specs.Prelude.{ℕ, Bool, true, false, cond, ◌||◌, List, [], ◌∷◌, is_some, Some, None, Option, nat_eq}
use Rattle.signs.specs.Strings.{same, begins}
use Rattle.signs.specs.declared.table.Match.{Match}
use Rattle.signs.specs.declared.table.Match.TheVariants.{Whole, Beginning, Neither}

abbrev pub Entry : Type 0
Entry = ℕ × List ℕ

abbrev pub Table : Type 0
Table = List Entry

-- what the first entry that passes the test has
abbrev pub first_of : {X : Type 0} → (Entry → Bool) → (Entry → X) → Table → Option X
first_of test part [] = None
first_of test part (e ∷ es) = cond (test e) (Some (part e)) (first_of test part es)

-- the string of a code, if the table lists it
abbrev pub string_of : Table → ℕ → Option (List ℕ)
string_of table code = first_of (λ e. nat_eq code e.0) (λ e. e.1) table

abbrev pub lists : Table → ℕ → Bool
lists table code = is_some (string_of table code)

-- whose string these cells are
abbrev pub code_of : Table → List ℕ → Option ℕ
code_of table cells = first_of (λ e. same e.1 cells) (λ e. e.0) table

-- the cells begin some string
abbrev pub begin_one : Table → List ℕ → Bool
begin_one [] cells = false
begin_one (e ∷ es) cells = begins cells e.1 || begin_one es cells

abbrev pub matched : Option ℕ → Bool → Match
matched (Some code) begun = Whole code
matched None begun = cond begun Beginning Neither

-- some cells are a listed string, only the beginning of one, or neither; no cells are neither
abbrev pub look_up : Table → List ℕ → Match
look_up table [] = Neither
look_up table (c ∷ cells) = matched (code_of table (c ∷ cells)) (begin_one table (c ∷ cells))

-- what cells are to two tables, the one before the other
abbrev pub or_match : Match → Match → Match
or_match (Whole code) m = Whole code
or_match Beginning (Whole code) = Whole code
or_match Beginning Beginning = Beginning
or_match Beginning Neither = Beginning
or_match Neither m = m

abbrev pub is_whole : Match → Bool
is_whole (Whole code) = true
is_whole Beginning = false
is_whole Neither = false

abbrev pub is_neither : Match → Bool
is_neither (Whole code) = false
is_neither Beginning = false
is_neither Neither = true
