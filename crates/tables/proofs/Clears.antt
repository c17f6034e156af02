-- A string of three cells is apart from all strings of a table, by what the table answers of its beginnings.
use Rattle.std.proofs.Common.{◌≡◌, ℕ, ◌≤◌, Bool, true, false, cond, not, ◌&&◌, ◌||◌, List, [], ◌∷◌, All, length, take, is_some, Some, None, Option, sym, refl, ◌∙◌, arith}
use Rattle.std.proofs.lemmas.List.Elements.{All-head, All-tail, All-weaker}
use Rattle.tables.specs.House.{is_clear}
use Rattle.signs.specs.Laws.{Lawful, LawfulString}
use Rattle.signs.specs.Strings.{same, begins}
use Rattle.signs.specs.Tables.{Entry, Table, code_of, begin_one, matched, look_up, is_whole, is_neither}

abbrev Short : Entry → Type 0
Short e = (1 ≤ length e.1) × (length e.1 ≤ 3)

whole_some : (o : Option ℕ) (b : Bool) → is_whole (matched o b) ≡ is_some o
whole_some (Some c) b = refl
whole_some None true = refl
whole_some None false = refl

neither_none : (o : Option ℕ) (b : Bool) → is_neither (matched o b) ≡ (not (is_some o) && not b)
neither_none (Some c) b = refl
neither_none None true = refl
neither_none None false = refl

code_of_some : (e : Entry) (es : Table) (cells : List ℕ) → is_some (code_of (e ∷ es) cells) ≡ (same e.1 cells || is_some (code_of es cells))
code_of_some e es cells = go (same e.1 cells)
  where
    go : (b : Bool) → is_some (cond b (Some e.0) (code_of es cells)) ≡ (b || is_some (code_of es cells))
    go true = refl
    go false = refl

module _ (a b c : ℕ) where
  -- a string begins these cells if it is one of their beginnings
  begins_three : (w : List ℕ) → (1 ≤ length w) × (length w ≤ 3) →
      begins w (a ∷ b ∷ c ∷ []) ≡ (same w (a ∷ []) || same w (a ∷ b ∷ []) || same w (a ∷ b ∷ c ∷ []))
  begins_three [] l = absurd (omega arith)
  begins_three (x ∷ []) l = grind arith
  begins_three (x ∷ y ∷ []) l = grind arith
  begins_three (x ∷ y ∷ z ∷ []) l = grind arith
  begins_three (x ∷ y ∷ z ∷ t ∷ w) l = absurd (omega arith)

  abbrev told : Table → Bool
  told table =
      not (is_some (code_of table (a ∷ []))) && (not (is_some (code_of table (a ∷ b ∷ [])))
      && (not (is_some (code_of table (a ∷ b ∷ c ∷ []))) && not (begin_one table (a ∷ b ∷ c ∷ []))))

  told_clear : (table : Table) → All Short table → is_clear table (a ∷ b ∷ c ∷ []) ≡ told table
  told_clear [] h = refl
  told_clear (e ∷ es) h =
      rw (code_of_some e es (a ∷ []), code_of_some e es (a ∷ b ∷ []), code_of_some e es (a ∷ b ∷ c ∷ []), begins_three e.1 (All-head Short e es h), told_clear es (All-tail Short e es h))
      (mix (begins (a ∷ b ∷ c ∷ []) e.1) (same e.1 (a ∷ [])) (same e.1 (a ∷ b ∷ [])) (same e.1 (a ∷ b ∷ c ∷ [])) _ _ _ _)
    where
      mix : (p q r s : Bool) (t u v w : Bool) →
          ((not p && not (q || r || s)) && (not t && (not u && (not v && not w)))) ≡ (not (q || t) && (not (r || u) && (not (s || v) && not (p || w))))
      mix p q r s t u v w = grind arith

  clear_three : (table : Table) → Lawful table →
      is_clear table (a ∷ b ∷ c ∷ [])
      ≡ (not (is_whole (look_up table (a ∷ []))) && (not (is_whole (look_up table (a ∷ b ∷ []))) && is_neither (look_up table (a ∷ b ∷ c ∷ []))))
  clear_three table law =
      told_clear table (All-weaker (λ (e : Entry). LawfulString e.1) Short (λ e k. k.short) table law.strings)
      ∙ sym (λ i. not (whole_some (code_of table (a ∷ [])) (begin_one table (a ∷ [])) i) && (not (whole_some (code_of table (a ∷ b ∷ [])) (begin_one table (a ∷ b ∷ [])) i)
      && neither_none (code_of table (a ∷ b ∷ c ∷ [])) (begin_one table (a ∷ b ∷ c ∷ [])) i))

-- of a list of three cells
pub clear_by : (table : Table) → Lawful table → (s : List ℕ) → length s ≡ 3 →
    is_clear table s ≡ (not (is_whole (look_up table (take 1 s))) && (not (is_whole (look_up table (take 2 s))) && is_neither (look_up table s)))
clear_by table law [] l = absurd (omega arith)
clear_by table law (a ∷ []) l = absurd (omega arith)
clear_by table law (a ∷ b ∷ []) l = absurd (omega arith)
clear_by table law (a ∷ b ∷ c ∷ []) l = clear_three a b c table law
clear_by table law (a ∷ b ∷ c ∷ d ∷ s) l = absurd (omega arith)
