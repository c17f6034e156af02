-- What a table answers, from what its parts answer.
use Rattle.std.proofs.Common.{◌≡◌, ℕ, Bool, true, false, cond, ◌&&◌, ◌||◌, eqb, List, [], ◌∷◌, ◌++◌, fold, length, Some, None, Option, option_and_then, ◌+◌, ◌-◌, ◌<◌, ◌≤◌, suc, zero, zero-le, refl, sym, ap, ◌∙◌, arith}
use Rattle.std.specs.Option.{option_or, option_map, option_to_list, MatchOption}
use Rattle.std.specs.List.{starts_with, range_with_len, slice_get}
use Rattle.std.proofs.lemmas.Bool.{both_ways}
use Rattle.signs.proofs.Strings.{eqb_sym, starts_front, same_as_long}
use Rattle.signs.specs.Listings.{has_code}
use Rattle.signs.specs.Strings.{same, begins}
use Rattle.signs.specs.Tables.{Entry, Table, first_of, string_of, code_of, begin_one, matched, look_up, or_match}
use Rattle.signs.specs.declared.table.Match.{Match}
use Rattle.signs.specs.declared.table.Match.TheVariants.{Whole, Beginning, Neither}

-- Two tables, the one before the other

first_of_append : {X : Type 0} (test : Entry → Bool) (part : Entry → X) (a b : Table) → first_of test part (a ++ b) ≡ option_or (first_of test part a) (first_of test part b)
first_of_append test part [] b = refl
first_of_append test part (e ∷ es) b = by (test e) (first_of_append test part es b)
  where
    by : (t : Bool) → first_of test part (es ++ b) ≡ option_or (first_of test part es) (first_of test part b) →
        cond t (Some (part e)) (first_of test part (es ++ b)) ≡ option_or (cond t (Some (part e)) (first_of test part es)) (first_of test part b)
    by true rest = refl
    by false rest = rest

pub string_of_append : (a b : Table) (code : ℕ) → string_of (a ++ b) code ≡ option_or (string_of a code) (string_of b code)
string_of_append a b code = first_of_append (λ e. eqb code e.0) (λ e. e.1) a b

code_of_append : (a b : Table) (cells : List ℕ) → code_of (a ++ b) cells ≡ option_or (code_of a cells) (code_of b cells)
code_of_append a b cells = first_of_append (λ e. same e.1 cells) (λ e. e.0) a b

begin_one_append : (a b : Table) (cells : List ℕ) → begin_one (a ++ b) cells ≡ (begin_one a cells || begin_one b cells)
begin_one_append [] b cells = refl
begin_one_append (e ∷ es) b cells = by (begins cells e.1) (begin_one_append es b cells)
  where
    by : (t : Bool) → begin_one (es ++ b) cells ≡ (begin_one es cells || begin_one b cells) → (t || begin_one (es ++ b) cells) ≡ (t || begin_one es cells || begin_one b cells)
    by true rest = refl
    by false rest = rest

matched_or : (o p : Option ℕ) (b c : Bool) → matched (option_or o p) (b || c) ≡ or_match (matched o b) (matched p c)
matched_or (Some x) p b c = refl
matched_or None (Some y) true c = refl
matched_or None (Some y) false c = refl
matched_or None None true true = refl
matched_or None None true false = refl
matched_or None None false c = refl

pub look_up_append : (a b : Table) (cells : List ℕ) → look_up (a ++ b) cells ≡ or_match (look_up a cells) (look_up b cells)
look_up_append a b [] = refl
look_up_append a b (c ∷ cells) =
    (λ i. matched (code_of_append a b (c ∷ cells) i) (begin_one_append a b (c ∷ cells) i))
    ∙ matched_or (code_of a (c ∷ cells)) (code_of b (c ∷ cells)) (begin_one a (c ∷ cells)) (begin_one b (c ∷ cells))

-- Matches, one after the other

or_neither : (m : Match) → or_match m Neither ≡ m
or_neither (Whole code) = refl
or_neither Beginning = refl
or_neither Neither = refl

or_match_assoc : (a b c : Match) → or_match (or_match a b) c ≡ or_match a (or_match b c)
or_match_assoc (Whole code) b c = refl
or_match_assoc Beginning (Whole code) c = refl
or_match_assoc Beginning Beginning (Whole code) = refl
or_match_assoc Beginning Beginning Beginning = refl
or_match_assoc Beginning Beginning Neither = refl
or_match_assoc Beginning Neither c = refl
or_match_assoc Neither b c = refl

nothing_listed : (cells : List ℕ) → look_up [] cells ≡ Neither
nothing_listed [] = refl
nothing_listed (c ∷ cells) = refl

-- A table of one entry

pub look_up_begun : (e : Entry) (cells : List ℕ) → eqb (length cells) 0 ≡ false →
    look_up (e ∷ []) cells ≡ cond (starts_with eqb e.1 cells) (cond (eqb (length cells) (length e.1)) (Whole e.0) Beginning) Neither
look_up_begun e [] h = absurd (both_ways true h refl)
look_up_begun e (c ∷ cells) h = rw (same_as_long e.1 (c ∷ cells), starts_front (c ∷ cells) e.1) (by (begins (c ∷ cells) e.1) (eqb (length (c ∷ cells)) (length e.1)))
  where
    by : (b l : Bool) → matched (cond (b && l) (Some e.0) None) (b || false) ≡ cond b (cond l (Whole e.0) Beginning) Neither
    by true true = refl
    by true false = refl
    by false l = refl

-- Listings gone through by number

-- what is found at the numbers from a on, where these are the entries' numbers
pub look_up_numbered : (es : Table) (cells : List ℕ) (at : ℕ → Option Entry) (found : Match) (a : ℕ) → ((k : ℕ) → k < length es → at (a + k) ≡ slice_get es k) →
    fold (λ (m : Match) (k : ℕ). or_match m (look_up (option_to_list (at k)) cells)) found (range_with_len a (length es)) ≡ or_match found (look_up es cells)
look_up_numbered [] cells at found a h = sym (ap (or_match found) (nothing_listed cells) ∙ or_neither found)
look_up_numbered (e ∷ es) cells at found a h =
    let here : at a ≡ Some e = ap at (omega arith) ∙ h 0 (omega arith) in
    look_up_numbered es cells at (or_match found (look_up (option_to_list (at a)) cells)) (a + 1) (λ k l. ap at (omega arith) ∙ h (suc k) (omega arith))
    ∙ or_match_assoc found (look_up (option_to_list (at a)) cells) (look_up es cells)
    ∙ ap (λ (o : Option Entry). or_match found (or_match (look_up (option_to_list o) cells) (look_up es cells))) here
    ∙ ap (or_match found) (sym (look_up_append (e ∷ []) es cells))

-- the string of the first entry that has the code
pub string_numbered : (es : Table) (code end : ℕ) (r : Option ℕ) → end ≡ length es →
    MatchOption r ((k : ℕ) → 0 ≤ k → k < end → has_code code (slice_get es k) ≡ false)
    (λ i. (0 ≤ i) × (i < end) × (has_code code (slice_get es i) ≡ true) × ((k : ℕ) → 0 ≤ k → k < i → has_code code (slice_get es k) ≡ false)) →
    string_of es code ≡ option_map (λ (e : Entry). e.1) (option_and_then (slice_get es) r)
string_numbered [] code end None l h = refl
string_numbered [] code end (Some i) l h = absurd (omega (arith, h.1))
string_numbered (e ∷ es) code end None l h =
    let no : eqb e.0 code ≡ false = h 0 zero-le (omega arith) in
    rw (eqb_sym code e.0, no) (string_numbered es code (end - 1) None (omega arith) (λ k z m. h (suc k) zero-le (omega arith)))
string_numbered (e ∷ es) code end (Some zero) l h = let yes : eqb e.0 code ≡ true = h.2 in rw (eqb_sym code e.0, yes) refl
string_numbered (e ∷ es) code end (Some (suc i)) l h =
    let no : eqb e.0 code ≡ false = h.3 0 zero-le (omega arith) in
    rw (eqb_sym code e.0, no) (string_numbered es code (end - 1) (Some i) (omega arith) (zero-le, omega (arith, h.1), h.2, λ k z m. h.3 (suc k) zero-le (omega arith)))
