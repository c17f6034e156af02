-- The check of house codes as the program goes through them.
use Rattle.std.proofs.Common.{◌≡◌, ℕ, ◌+◌, ◌<◌, ◌≤◌, List, length, drop, Some, None, Ok, Option, Result, Bor, Iter, sym, ap, ◌∙◌, zero-add, add-one, arith}
use Rattle.std.specs.List.{enumerate_from}
use Rattle.std.specs.Iterator.{Yields}
use Rattle.std.specs.Iterator.Adapters.{enumerate_steps}
use Rattle.std.specs.declared.iter.Enumerate.{Enumerate}
use Rattle.std.specs.declared.iter.Zip.{Zip}
use Rattle.std.proofs.lemmas.Fn.{fronts}
use Rattle.std.proofs.lemmas.Iterator.{YieldsList, YieldsList-from_slice, YieldsList-from_zip, zips}
use Rattle.std.proofs.lemmas.Iterator.Consumers.{YieldsList-from_enumerate, YieldsList-turn, YieldsList-end}
use Rattle.std.proofs.lemmas.List.{at_drop_more, at_drop_all}
use Rattle.std.proofs.lemmas.List.FromFn.{get_or-enumerate_from, length-enumerate_from}
use Rattle.std.proofs.lemmas.Bool.{cond-false, le-ltb}
use Rattle.signs.specs.Tables.{Entry, Table}
use Rattle.tables.specs.House.{house_strings, house, clash, or_clash, lowest_clash, house_check, refused, house_refused}
use Rattle.tables.specs.Houses.{check_number}
use Rattle.tables.specs.declared.clash.HouseRefusal.{HouseRefusal}

-- The check, one code on

abbrev Numbering : Type 0
Numbering = Enumerate (Zip (Iter ℕ) (Iter (List ℕ)))

abbrev Item : Type 0
Item = ℕ × (Bor ℕ × Bor (List ℕ))

abbrev sign_of : Item → Entry
sign_of x = (x.1.0.now, x.1.1.now)

-- the codes with their strings and positions, as the program goes through them
module _ (below : Table) (codes : List ℕ) (start : Numbering) (these : start.iter.a.rest.now ≡ codes) (strings : start.iter.b.rest.now ≡ house_strings) (from_zero : start.count ≡ 0) where
  numbered : YieldsList (enumerate_steps (zips fronts fronts)) (λ x. (x.0, sign_of x)) start (enumerate_from 0 (house codes))
  numbered = YieldsList-from_enumerate (YieldsList-from_zip (YieldsList-from_slice codes these) (YieldsList-from_slice house_strings strings)) from_zero

  -- this iteration's code stands at its position, and the check goes on from there
  pub house_turn : (yielded : List Item) (now next : Numbering) → Yields (enumerate_steps (zips fronts fronts)) start yielded now →
      (r : Option Item) (x : Item) → r ≡ Some x → enumerate_steps (zips fronts fronts) now r next →
      (x.0 ≡ length yielded) × (lowest_clash below codes (length yielded) (drop (length yielded) (house codes))
      ≡ or_clash (clash below codes (sign_of x)) (length yielded) (lowest_clash below codes (length yielded + 1) (drop (length yielded + 1) (house codes))))
  house_turn yielded now next y r x is steps =
      let n = length yielded in
      let turn = YieldsList-turn numbered yielded now y r next x is steps in
      let k : n < length (house codes) = omega (arith, turn.0, length-enumerate_from 0 (house codes)) in
      let there = turn.1 ∙ get_or-enumerate_from 0 (house codes) n (x.0, sign_of x) k in (
        ap (λ p. p.0) there ∙ zero-add n,
        at_drop_more (lowest_clash below codes n) (house codes) n (sign_of x) k
            ∙ (λ i. or_clash (clash below codes (sym there i).1) n (lowest_clash below codes (sym (add-one n) i) (drop (n + 1) (house codes)))),
      )

  -- after the last one nothing has clashed
  pub house_end : (yielded : List Item) (now next : Numbering) → Yields (enumerate_steps (zips fronts fronts)) start yielded now →
      (r : Option Item) → r ≡ None → enumerate_steps (zips fronts fronts) now r next →
      lowest_clash below codes (length yielded) (drop (length yielded) (house codes)) ≡ Ok tt
  house_end yielded now next y r is steps =
      let end = YieldsList-end numbered yielded now y r next is steps in
      at_drop_all (lowest_clash below codes (length yielded)) (house codes) (length yielded) (omega (arith, end.1, length-enumerate_from 0 (house codes)))

-- a list of at most five codes is answered by its lowest clash
pub checked : (below : Table) (codes : List ℕ) (answer : Result (Unit {0}) HouseRefusal) → length codes ≤ 5 → answer ≡ lowest_clash below codes 0 (house codes) →
    (answer ≡ house_check below codes) × (refused answer ≡ house_refused below codes)
checked below codes answer few e =
    let whole = e ∙ sym (cond-false _ _ _ (le-ltb 5 (length codes) few)) in (whole, ap refused whole ∙ check_number below codes)
