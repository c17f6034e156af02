-- A table that passes the test has the laws.
use Rattle.std.proofs.Common.{◌≡◌, ℕ, ◌<◌, ◌≤◌, true, false, not, ◌&&◌, eqb, ltb, ◌≢◌, List, [], ◌∷◌, ◌++◌, All, AllPairs, length}
use Rattle.std.proofs.Props.{props}
use Rattle.std.proofs.lemmas.Bool.{and_parts, not-true, leb-true, ltb-true, eqb-false}
use Rattle.cells.specs.Cells.{braille}
use Rattle.signs.specs.Laws.{Lawful, LawfulString, lawful, lawful_string}
use Rattle.signs.specs.Signs.{is_fixed}
use Rattle.signs.specs.Strings.{begins, Apart, apart}
use Rattle.signs.specs.Symbols.{string, plain, indicators, accent_symbols, follow_capital}
use Rattle.signs.specs.Tables.{Entry, Table}
use Rattle.signs.proofs.Lists.{all_true, pairwise_true}

pub apart_true : (s t : List ℕ) → apart s t ≡ true → Apart s t
apart_true s t h = let k = and_parts (not (begins s t)) (not (begins t s)) h in (not-true (begins s t) k.0, not-true (begins t s) k.1)

pub string_true : (s : List ℕ) → lawful_string s ≡ true → LawfulString s
string_true s h =
    let e = and_parts _ _ h in
    let d = and_parts _ _ e.0 in
    let c = and_parts _ _ d.0 in
    let b = and_parts _ _ c.0 in
    let a = and_parts _ _ b.0 in
    record {
      short = (leb-true 1 (length s) a.0, leb-true (length s) 3 a.1);
      inked = all_true (λ x. ltb 0 x && ltb x 64) (λ x. (0 < x) × (x < 64)) (λ x k. let z = and_parts _ _ k in (ltb-true 0 x z.0, ltb-true x 64 z.1)) s b.1;
      opening = all_true (λ σ. not (begins (string σ) s)) (λ σ. begins (string σ) s ≡ false) (λ σ k. not-true (begins (string σ) s) k) plain c.1;
      clear = all_true (λ σ. apart (string σ) s) (λ σ. Apart (string σ) s) (λ σ k. apart_true (string σ) s k) (indicators ++ accent_symbols) d.1;
      capped = all_true (λ x. not (begins (braille "," ++ x ∷ []) s)) (λ x. begins (braille "," ++ x ∷ []) s ≡ false) (λ x k. not-true (begins (braille "," ++ x ∷ []) s) k) (follow_capital ++ braille ",'") e.1;
    }

pub lawful_true : (table : Table) → lawful table ≡ true → Lawful table
lawful_true table h =
    let c = and_parts _ _ h in
    let b = and_parts _ _ c.0 in
    let a = and_parts _ _ b.0 in
    record {
      once = pairwise_true (λ (e f : Entry). not (eqb e.0 f.0)) (λ (e f : Entry). e.0 ≢ f.0) (λ e f k. eqb-false e.0 f.0 (not-true _ k)) table a.0;
      unfixed = all_true (λ (e : Entry). not (is_fixed e.0)) (λ (e : Entry). is_fixed e.0 ≡ false) (λ e k. not-true _ k) table a.1;
      strings = all_true (λ (e : Entry). lawful_string e.1) (λ (e : Entry). LawfulString e.1) (λ e k. string_true e.1 k) table b.1;
      free = pairwise_true (λ (e f : Entry). apart e.1 f.1) (λ (e f : Entry). Apart e.1 f.1) (λ e f k. apart_true e.1 f.1 k) table c.1;
    }

-- a table has its laws in one way only, so a value may carry them

LawfulString-prop : (s : List ℕ) → IsProp (LawfulString s)
LawfulString-prop s x y =
    let short_prop : IsProp ((1 ≤ length s) × (length s ≤ 3)) = hlevel props in
    let inked_prop : IsProp (All (λ c. (0 < c) × (c < 64)) s) = hlevel props in
    let opening_prop : IsProp (All (λ σ. begins (string σ) s ≡ false) plain) = hlevel props in
    let clear_prop : IsProp (All (λ σ. Apart (string σ) s) (indicators ++ accent_symbols)) = hlevel props in
    let capped_prop : IsProp (All (λ c. begins (braille "," ++ c ∷ []) s ≡ false) (follow_capital ++ braille ",'")) = hlevel props in
    λ i. record {
      short = short_prop x.short y.short i;
      inked = inked_prop x.inked y.inked i;
      opening = opening_prop x.opening y.opening i;
      clear = clear_prop x.clear y.clear i;
      capped = capped_prop x.capped y.capped i;
    }

pub Lawful-prop : (table : Table) → IsProp (Lawful table)
Lawful-prop table x y =
    let once_prop : IsProp (AllPairs (λ (e f : Entry). e.0 ≢ f.0) table) = hlevel props in
    let unfixed_prop : IsProp (All (λ (e : Entry). is_fixed e.0 ≡ false) table) = hlevel props in
    let strings_prop : IsProp (All (λ (e : Entry). LawfulString e.1) table) = hlevel (props, LawfulString-prop) in
    let free_prop : IsProp (AllPairs (λ (e f : Entry). Apart e.1 f.1) table) = hlevel props in
    λ i. record {
      once = once_prop x.once y.once i;
      unfixed = unfixed_prop x.unfixed y.unfixed i;
      strings = strings_prop x.strings y.strings i;
      free = free_prop x.free y.free i;
    }
