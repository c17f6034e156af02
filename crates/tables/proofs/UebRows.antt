-- The string of a print sign, by its number.
use Rattle.std.proofs.Common.{◌≡◌, ℕ, suc, ◌+◌, ◌<◌, Bool, true, false, cond, List, [], ◌∷◌, ◌++◌, map, length, get_or, take, Some, None, Option, option_and_then, ◌==◌, refl, sym, ap, ◌∙◌, arith}
use Rattle.std.proofs.Math.Utf8.{scalar}
use Rattle.std.specs.Prelude.{slice_index, slice_index_or}
use Rattle.std.specs.Option.{option_map}
use Rattle.std.specs.List.{slice_get}
use Rattle.std.proofs.lemmas.Bool.{and_parts, both_ways, eqb-true}
use Rattle.cells.specs.Cells.{characters}
use Rattle.cells.specs.Lists.{all, index_of}
use Rattle.signs.specs.Tables.{Entry, Table, string_of}
use Rattle.tables.specs.Ueb.{ueb, ueb_rows, ueb_codes, ueb_strings, UebNumbers}
use Rattle.std.proofs.lemmas.List.{get_or-map}
use Rattle.std.proofs.lemmas.Option.{slice_get-get_or}

pub by_number : (code i : ℕ) (f : ℕ → Option (List ℕ)) (es : Table) → ((k : ℕ) → k < length es → f (i + k) ≡ option_map (λ (e : Entry). e.1) (slice_get es k)) →
    string_of es code ≡ option_and_then f (index_of code i (map (λ (e : Entry). e.0) es))
by_number code i f [] h = refl
by_number code i f (e ∷ es) h = by (code == e.0) (by_number code (suc i) f es (λ k l. ap f (omega arith) ∙ h (suc k) (omega arith)))
  where
    by : (b : Bool) → string_of es code ≡ option_and_then f (index_of code (suc i) (map (λ (x : Entry). x.0) es)) →
        cond b (Some e.1) (string_of es code) ≡ option_and_then f (cond b (Some i) (index_of code (suc i) (map (λ (x : Entry). x.0) es)))
    by true rest = sym (h 0 (omega arith)) ∙ ap f (omega arith)
    by false rest = rest

pub by_entry : (code : ℕ) → string_of ueb code ≡ option_and_then (λ n. option_map (λ (e : Entry). e.1) (slice_get ueb n)) (index_of code 0 ueb_codes)
unfolding ueb
by_entry code =
    by_number code 0 (λ n. option_map (λ (e : Entry). e.1) (slice_get ueb_rows n)) ueb_rows (λ k l. let e : 0 + k ≡ k = omega arith in ap (λ n. option_map (λ (x : Entry). x.1) (slice_get ueb_rows n)) e)

-- no sign has a code that is no scalar value
not_among : (test : ℕ → Bool) (code n : ℕ) (codes : List ℕ) → test code ≡ false → all test codes ≡ true → index_of code n codes ≡ None
not_among test code n [] h a = refl
not_among test code n (c ∷ cs) h a =
    let k = and_parts (test c) (all test cs) a in
    by (code == c) refl (not_among test code (suc n) cs h k.1) k.0
  where
    by : (b : Bool) → (code == c) ≡ b → index_of code (suc n) cs ≡ None → test c ≡ true → cond b (Some n) (index_of code (suc n) cs) ≡ None
    by true q rest t = absurd (both_ways (test code) h (ap test (eqb-true code c q) ∙ t))
    by false q rest t = rest

pub no_ueb_sign : (code : ℕ) → scalar code ≡ false → string_of ueb code ≡ None
no_ueb_sign code h = by_entry code ∙ ap (option_and_then (λ n. option_map (λ (e : Entry). e.1) (slice_get ueb n))) (not_among scalar code 0 ueb_codes h refl)

some_or_none : (f : ℕ → List ℕ) (o : Option ℕ) → option_and_then (λ n. Some (f n)) o ≡ option_map f o
some_or_none f None = refl
some_or_none f (Some n) = refl

pub ueb_numbers : UebNumbers
unfolding ueb
ueb_numbers =
    record {
      ueb_entry = λ n h.
          slice_get-get_or ueb_rows n (0, []) h
          ∙ ap Some (λ i. (sym (get_or-map (λ (e : Entry). e.0) ueb_rows n (0, []) 0 h) i, sym (get_or-map (λ (e : Entry). e.1) ueb_rows n (0, []) [] h) i));
      ueb_string = λ code.
          by_number code 0 (λ n. Some (get_or ueb_strings n [])) ueb_rows (λ k l.
          let e : 0 + k ≡ k = omega arith in
          ap (λ n. Some (get_or ueb_strings n [])) e
          ∙ ap Some (get_or-map (λ (x : Entry). x.1) ueb_rows k (0, []) [] l)
          ∙ ap (option_map (λ (x : Entry). x.1)) (sym (slice_get-get_or ueb_rows k (0, []) l)))
          ∙ some_or_none (λ n. get_or ueb_strings n []) (index_of code 0 ueb_codes);
    }

-- The strings as rows of three cells, filled up with blanks, which no string has. (The program keeps them as they are.)

-- the cells before the first blank
abbrev pub before_blank : List ℕ → List ℕ
before_blank [] = []
before_blank (c ∷ cells) = cond (c == 0) [] (c ∷ before_blank cells)

pub three_cells : (row : List ℕ) → length row ≡ 3 →
    before_blank row ≡ cond (slice_index row 0 == 0) [] (cond (slice_index row 1 == 0) (take 1 row) (cond (slice_index row 2 == 0) (take 2 row) row))
three_cells [] l = absurd (omega arith)
three_cells (a ∷ []) l = absurd (omega arith)
three_cells (a ∷ b ∷ []) l = absurd (omega arith)
three_cells (a ∷ b ∷ c ∷ d ∷ row) l = absurd (omega arith)
three_cells (a ∷ b ∷ c ∷ []) l = by (a == 0) (b == 0) (c == 0)
  where
    by : (x y z : Bool) → ◌≡◌ {A = List ℕ} (cond x [] (a ∷ cond y [] (b ∷ cond z [] (c ∷ [])))) (cond x [] (cond y (a ∷ []) (cond z (a ∷ b ∷ []) (a ∷ b ∷ c ∷ []))))
    by true y z = refl
    by false true z = refl
    by false false true = refl
    by false false false = refl

abbrev filled : List ℕ → List ℕ
filled s = take 3 (s ++ 0 ∷ 0 ∷ [])

unfoldable pub rows : List (List ℕ)
rows = map filled ueb_strings

pub ueb_row : (n : ℕ) → n < 50 → before_blank (slice_index_or rows n []) ≡ slice_index_or ueb_strings n []
unfolding characters rows
ueb_row n h = sym (get_or-map before_blank rows n [] [] h) ∙ ap (λ t. get_or t n []) same_strings
  where
    same_strings : map before_blank rows ≡ ueb_strings
    same_strings = refl
