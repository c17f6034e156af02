-- Strips pressed place by place, and lists of cells as strips.
use Rattle.std.proofs.Common.{◌≡◌, ℕ, suc, ◌+◌, ◌*◌, ◌<◌, Bool, true, false, cond, ◌&&◌, leb, List, [], ◌∷◌, ◌++◌, map, length, get_or, take, drop, is_ok, Some, Ok, Err, Result, sym, refl, ap, ◌∙◌, add-mul, one-mul, arith}
use Rattle.std.specs.List.{slice_get}
use Rattle.std.proofs.lemmas.List.{append_assoc, length-map, take_more, drop-drop}
use Rattle.std.proofs.lemmas.Option.{slice_get-get_or}
use Rattle.std.proofs.lemmas.Bool.{and_parts}
use Rattle.cells.specs.Cells.{is_cell}
use Rattle.cells.specs.Lists.{all}
use Rattle.cells.specs.Places.{cell_in, first_gap, cell_place, cell_places}
use Rattle.cells.specs.Pressing.{takes_all, unless_gap, if_room, copied}
use Rattle.cells.specs.Refusals.{Answer, granted, refused, told}
use Rattle.cells.specs.declared.refusal.CopyRefusal.{CopyRefusal}
use Rattle.cells.specs.declared.refusal.CopyRefusal.TheVariants.{NoRoomFor, SpoiltAt}
use Rattle.cells.specs.declared.strip.Place.{Place}
use Rattle.cells.specs.declared.strip.Place.TheVariants.{Cell, Spoilt}
use Rattle.cells.proofs.Gaps.{cell_found}

-- one place more is pressed
pub place_more : (old ps : List Place) (i cell : ℕ) → i < length ps → Some cell ≡ cell_in (slice_get ps i) → (old ++ take i ps) ++ Cell cell ∷ [] ≡ old ++ take (i + 1) ps
place_more old ps i cell h e =
    let there : Some (get_or ps i Spoilt) ≡ Some (Cell cell) = sym (slice_get-get_or ps i Spoilt h) ∙ (cell_found (slice_get ps i) cell e).0 in
    let same : get_or ps i Spoilt ≡ Cell cell = cc in
    append_assoc old (take i ps) (Cell cell ∷ [])
    ∙ ap (λ p. old ++ (take i ps ++ p ∷ [])) (sym same)
    ∙ ap (λ t. old ++ t) (sym (take_more ps i Spoilt h))

pub unused_more : (width i : ℕ) (bytes : List ℕ) → drop width (drop (i * width) bytes) ≡ drop ((i + 1) * width) bytes
unused_more width i bytes =
    let e : i * width + width ≡ (i + 1) * width = omega (arith, add-mul i 1 width, one-mul width) in
    drop-drop width (i * width) bytes ∙ ap (λ n. drop n bytes) e

abbrev pub is_granted : Answer → Bool
is_granted (granted n) = true
is_granted (refused number value) = false

pub granted_ok : (r : Result ℕ CopyRefusal) → is_granted (told r) ≡ is_ok r
granted_ok (Ok n) = refl
granted_ok (Err (NoRoomFor n)) = refl
granted_ok (Err (SpoiltAt p)) = refl

granted_room : (free cells : ℕ) → is_granted (if_room free cells) ≡ leb cells free
granted_room free cells = grind arith

-- a list of numbers is pressed if all are cells and fit
list_granted : (n free cells : ℕ) (ns : List ℕ) → is_granted (unless_gap (first_gap n (cell_places ns)) (if_room free cells)) ≡ (all is_cell ns && leb cells free)
list_granted n free cells [] = granted_room free cells
list_granted n free cells (x ∷ ns) = grind (arith, list_granted (suc n) free cells ns)

pub list_copied : (free : ℕ) (ns : List ℕ) → is_granted (copied free (cell_places ns)) ≡ takes_all free ns
list_copied free ns = ap (λ k. is_granted (unless_gap (first_gap 0 (cell_places ns)) (if_room free k))) (length-map ns cell_place) ∙ list_granted 0 free (length ns) ns

pub cells_as_places : (ns : List ℕ) → all is_cell ns ≡ true → cell_places ns ≡ map Cell ns
cells_as_places [] t = refl
cells_as_places (n ∷ ns) t = grind (arith, cells_as_places ns)

-- the places that a granted list adds are its cells
pub list_places : (r : Bool) (free : ℕ) (old : List Place) (ns : List ℕ) → r ≡ takes_all free ns → cond r (old ++ cell_places ns) old ≡ cond r (old ++ map Cell ns) old
list_places true free old ns e = ap (λ ps. old ++ ps) (cells_as_places ns (and_parts (all is_cell ns) (leb (length ns) free) (sym e)).0)
list_places false free old ns e = refl
