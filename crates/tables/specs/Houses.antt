-- House signs that pass their check leave a lawful table lawful; and the check by number.
use Rattle.std.specs.Prelude.{◌≡◌, ℕ, zero, suc, ◌+◌, ◌<◌, ◌≤◌, Bool, true, false, cond, List, [], ◌∷◌, ◌++◌, All, AllPairs, map, length, drop, zip, is_some, is_ok, Some, None, Err, Option, Result, ◌==◌, ◌≢◌, nat_lt, slice_index, slice_index_or, refl}
use Rattle.std.proofs.Common.{get_or, sym, ap, ◌∙◌, add-one, arith}
use Rattle.std.specs.Option.{option_map}
use Rattle.std.proofs.lemmas.List.{at_drop_more}
use Rattle.std.proofs.lemmas.List.Elements.{All-nil, All-cons, All-append, All-weaker}
use Rattle.std.proofs.lemmas.List.Sums.{sum_by-cons}
use Rattle.std.proofs.lemmas.Slice.Zip.{length-zip, get_or-zip}
use Rattle.std.proofs.lemmas.Bool.{both_ways, cond_both, eq-eqb, eqb-false, leb-false, ltb-false, not-false}
use Rattle.cells.specs.Cells.{characters}
use Rattle.signs.specs.Laws.{Lawful, LawfulString, lawful_string}
use Rattle.signs.specs.Lists.{times}
use Rattle.signs.specs.Signs.{is_fixed}
use Rattle.signs.specs.Strings.{Apart, apart}
use Rattle.signs.specs.Tables.{Entry, Table, string_of, lists}
use Rattle.signs.proofs.Laws.{apart_true, string_true}
use Rattle.signs.proofs.Lists.{all_true, pairwise_true, pairs_append}
use Rattle.tables.specs.House.{house_strings, house, clash, or_clash, lowest_clash, house_check, refused, first, house_refused, laid}
use Rattle.tables.specs.declared.clash.Clash.{Clash}
use Rattle.tables.specs.declared.clash.Clash.TheVariants.{NoScalar, Fixed, ListedBelow, StandsTwice, StringTaken}
use Rattle.tables.specs.declared.clash.HouseRefusal.{HouseRefusal}
use Rattle.tables.specs.declared.clash.HouseRefusal.TheVariants.{TooMany}

-- What does not clash, part by part

unlisted : (table : Table) (c : ℕ) → lists table c ≡ false → All (λ (f : Entry). c ≢ f.0) table
unlisted [] c h = All-nil (λ (f : Entry). c ≢ f.0)
unlisted (e ∷ es) c h = go (c == e.0) refl h (unlisted es c)
  where
    go : (b : Bool) → (c == e.0) ≡ b → is_some (cond b (Some e.1) (string_of es c)) ≡ false →
        (lists es c ≡ false → All (λ (f : Entry). c ≢ f.0) es) → All (λ (f : Entry). c ≢ f.0) (e ∷ es)
    go true q k rest = absurd (both_ways true k refl)
    go false q k rest = All-cons (λ (f : Entry). c ≢ f.0) e es (eqb-false c e.0 q) (rest k)

pub record Clear (below : Table) (codes : List ℕ) (e : Entry) : Type 0 where
  pub free : is_fixed e.0 ≡ false
  pub new : All (λ (f : Entry). e.0 ≢ f.0) below
  pub single : times e.0 codes < 2
  pub apart : All (λ (f : Entry). Apart e.1 f.1) below

-- none of these tests holds
untold : (a b c d f : Bool) →
    ◌≡◌ {A = Option Clash} (cond a (Some NoScalar) (cond b (Some Fixed) (cond c (Some ListedBelow) (cond d (Some StandsTwice) (cond f (Some StringTaken) None))))) None →
    (b ≡ false) × (c ≡ false) × (d ≡ false) × (f ≡ false)
untold true b c d f h = absurd cc
untold false true c d f h = absurd cc
untold false false true d f h = absurd cc
untold false false false true f h = absurd cc
untold false false false false true h = absurd cc
untold false false false false false h = (refl, refl, refl, refl)

clear : (below : Table) (codes : List ℕ) (e : Entry) → clash below codes e ≡ None → Clear below codes e
clear below codes e h =
    let k = untold _ _ _ _ _ h in
    record {
      free = k.0;
      new = unlisted below e.0 k.1;
      single = leb-false 2 (times e.0 codes) k.2;
      apart = all_true (λ (f : Entry). apart e.1 f.1) (λ (f : Entry). Apart e.1 f.1) (λ f q. apart_true e.1 f.1 q) below (not-false _ k.3);
    }

none_clash : (below : Table) (codes : List ℕ) (n : ℕ) (es : Table) → is_ok (lowest_clash below codes n es) ≡ true → All (λ e. clash below codes e ≡ None) es
none_clash below codes n [] h = All-nil (λ e. clash below codes e ≡ None)
none_clash below codes n (e ∷ es) h = go (clash below codes e) refl h (none_clash below codes (suc n) es)
  where
    go : (o : Option Clash) → clash below codes e ≡ o → is_ok (or_clash o n (lowest_clash below codes (suc n) es)) ≡ true →
        (is_ok (lowest_clash below codes (suc n) es) ≡ true → All (λ x. clash below codes x ≡ None) es) → All (λ x. clash below codes x ≡ None) (e ∷ es)
    go (Some why) q k rest = absurd (both_ways false refl k)
    go None q k rest = All-cons (λ x. clash below codes x ≡ None) e es q (rest k)

-- The laws of house signs

times_more : (n c : ℕ) (cs : List ℕ) → times n (c ∷ cs) ≡ cond (c == n) 1 0 + times n cs
times_more n c cs = sum_by-cons (λ m. cond (m == n) 1 0) c cs

stands_once : (n : ℕ) (cs : List ℕ) (i d : ℕ) → i < length cs → get_or cs i d ≡ n → 1 ≤ times n cs
stands_once n [] i d h e = absurd (omega arith)
stands_once n (c ∷ cs) zero d h e = let one : ◌≡◌ {A = ℕ} (cond (c == n) 1 0) 1 = rw (eq-eqb c n e) refl in omega (arith, times_more n c cs)
stands_once n (c ∷ cs) (suc i) d h e = omega (arith, times_more n c cs, stands_once n cs i d (omega arith) e)

stands_twice : (n : ℕ) (cs : List ℕ) (i j d : ℕ) → i < j → j < length cs → get_or cs i d ≡ n → get_or cs j d ≡ n → 2 ≤ times n cs
stands_twice n [] i j d less h e f = absurd (omega arith)
stands_twice n (c ∷ cs) i zero d less h e f = absurd (omega arith)
stands_twice n (c ∷ cs) zero (suc j) d less h e f =
    let one : ◌≡◌ {A = ℕ} (cond (c == n) 1 0) 1 = rw (eq-eqb c n e) refl in omega (arith, times_more n c cs, stands_once n cs j d (omega arith) f)
stands_twice n (c ∷ cs) (suc i) (suc j) d less h e f = omega (arith, times_more n c cs, stands_twice n cs i j d (omega arith) (omega arith) e f)

module _ (cs : List ℕ) (ss : List (List ℕ)) where
  house_at : (i : ℕ) (d : Entry) → i < length (zip cs ss) → get_or (zip cs ss) i d ≡ (get_or cs i d.0, get_or ss i d.1)
  house_at i d h = get_or-zip cs ss i d (omega (arith, length-zip cs ss)) (omega (arith, length-zip cs ss))

  zip_all : (P : List ℕ → Type 0) → All P ss → All (λ (e : Entry). P e.1) (zip cs ss)
  zip_all P p i d h = rw (house_at i d h) (p i d.1 (omega (arith, length-zip cs ss)))

  absent : (c : ℕ) → times c cs ≡ 0 → All (λ (f : Entry). c ≢ f.0) (zip cs ss)
  absent c none i d h same =
      let there = ap (λ (e : Entry). e.0) (house_at i d h) in
      absurd (omega (arith, none, stands_once c cs i d.0 (omega (arith, length-zip cs ss)) (sym there ∙ sym same)))

  zip_pairs : (R : List ℕ → List ℕ → Type 0) → AllPairs R ss → AllPairs (λ (e f : Entry). R e.1 f.1) (zip cs ss)
  zip_pairs R r i j d less h = rw (house_at i d (omega arith), house_at j d h) (r i j d.1 less (omega (arith, length-zip cs ss)))

  zip_once : (codes : List ℕ) → ((c : ℕ) → times c cs ≤ times c codes) → All (λ (e : Entry). times e.0 codes < 2) (zip cs ss) → AllPairs (λ (e f : Entry). e.0 ≢ f.0) (zip cs ss)
  zip_once codes fewer single i j d less h same =
      let once : times (get_or (zip cs ss) i d).0 cs < 2 = omega (arith, fewer (get_or (zip cs ss) i d).0, single i d (omega arith)) in
      let first = ap (λ (e : Entry). e.0) (house_at i d (omega arith)) in
      let second = ap (λ (e : Entry). e.0) (house_at j d h) in
      absurd (omega (arith, stands_twice (get_or (zip cs ss) i d).0 cs i j d.0 less (omega (arith, length-zip cs ss)) (sym first) (sym second ∙ sym same)))

house_lawful : (below : Table) (codes : List ℕ) → Lawful below → is_ok (lowest_clash below codes 0 (house codes)) ≡ true → Lawful (house codes ++ below)
unfolding characters
house_lawful below codes law h =
    let es = house codes in
    let ok : All (Clear below codes) es = All-weaker (λ e. clash below codes e ≡ None) (Clear below codes) (clear below codes) es (none_clash below codes 0 es h) in
    record {
      once = pairs_append (λ (e f : Entry). e.0 ≢ f.0) es below
          (zip_once codes house_strings codes (λ c. omega arith) (All-weaker (Clear below codes) (λ (e : Entry). times e.0 codes < 2) (λ e k. k.single) es ok))
          law.once (All-weaker (Clear below codes) (λ (e : Entry). All (λ (f : Entry). e.0 ≢ f.0) below) (λ e k. k.new) es ok);
      unfixed = All-append (λ (e : Entry). is_fixed e.0 ≡ false) es below
          (All-weaker (Clear below codes) (λ (e : Entry). is_fixed e.0 ≡ false) (λ e k. k.free) es ok) law.unfixed;
      strings = All-append (λ (e : Entry). LawfulString e.1) es below
          (zip_all codes house_strings LawfulString (all_true lawful_string LawfulString string_true house_strings refl)) law.strings;
      free = pairs_append (λ (e f : Entry). Apart e.1 f.1) es below
          (zip_pairs codes house_strings Apart (pairwise_true apart Apart apart_true house_strings refl)) law.free
          (All-weaker (Clear below codes) (λ (e : Entry). All (λ (f : Entry). Apart e.1 f.1) below) (λ e k. k.apart) es ok);
    }

ok_parts : (b : Bool) (r : Result (Unit {0}) HouseRefusal) → is_ok (cond b (Err TooMany) r) ≡ true → is_ok r ≡ true
ok_parts true r h = absurd (both_ways false refl h)
ok_parts false r h = h

pub laid_lawful : (below : Table) (codes : List ℕ) → Lawful below → Lawful (laid below codes)
laid_lawful below codes law =
    cond_both (is_ok (house_check below codes)) (house codes ++ below) below Lawful
    (λ t. house_lawful below codes law (ok_parts (nat_lt 5 (length codes)) (lowest_clash below codes 0 (house codes)) t))
    (λ f. law)

-- The refusals by number

lowest_number : (below : Table) (codes : List ℕ) (n : ℕ) (es : Table) →
    refused (lowest_clash below codes n es) ≡ option_map (λ position. (20, position)) (first n (map (λ (e : Entry). is_some (clash below codes e)) es))
lowest_number below codes n [] = refl
lowest_number below codes n (e ∷ es) = go (clash below codes e) (lowest_number below codes (suc n) es)
  where
    go : (o : Option Clash) →
        refused (lowest_clash below codes (suc n) es) ≡ option_map (λ position. (20, position)) (first (suc n) (map (λ (x : Entry). is_some (clash below codes x)) es)) →
        refused (or_clash o n (lowest_clash below codes (suc n) es))
        ≡ option_map (λ position. (20, position)) (cond (is_some o) (Some n) (first (suc n) (map (λ (x : Entry). is_some (clash below codes x)) es)))
    go (Some why) rest = refl
    go None rest = rest

pub check_number : (below : Table) (codes : List ℕ) → refused (house_check below codes) ≡ house_refused below codes
check_number below codes = go (nat_lt 5 (length codes))
  where
    go : (b : Bool) → refused (cond b (Err TooMany) (lowest_clash below codes 0 (house codes)))
        ≡ cond b (Some (19, 5)) (option_map (λ position. (20, position)) (first 0 (map (λ (e : Entry). is_some (clash below codes e)) (house codes))))
    go true = refl
    go false = lowest_number below codes 0 (house codes)

-- one code on, at its position
pub lowest_more : (below : Table) (codes : List ℕ) (n : ℕ) → length codes ≤ 5 → n < length codes →
    lowest_clash below codes n (drop n (house codes))
    ≡ or_clash (clash below codes (slice_index codes n, slice_index_or house_strings n [])) n (lowest_clash below codes (n + 1) (drop (n + 1) (house codes)))
lowest_more below codes n few h =
    let k : n < length (house codes) = omega (arith, length-zip codes house_strings) in
    let here : lowest_clash below codes n (drop n (house codes))
    ≡ or_clash (clash below codes (slice_index_or (house codes) n (0, []))) n (lowest_clash below codes (suc n) (drop (n + 1) (house codes))) =
    at_drop_more (lowest_clash below codes n) (house codes) n (0, []) k in
    here ∙ (λ i. or_clash (clash below codes (house_at codes house_strings n (0, []) k i)) n (lowest_clash below codes (sym (add-one n) i) (drop (n + 1) (house codes))))

-- a list that passes has at most five codes
few_codes : (n : ℕ) (b : Bool) (r : Result (Unit {0}) HouseRefusal) → nat_lt 5 n ≡ b → is_ok (cond b (Err TooMany) r) ≡ true → n ≤ 5
few_codes n true r q h = absurd (both_ways false refl h)
few_codes n false r q h = ltb-false 5 n q
