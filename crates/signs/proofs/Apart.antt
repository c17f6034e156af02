-- The strings of a lawful table, the fixed cells, the indicators and the accents: none begins another, so at most one begins any cells.
use Rattle.std.proofs.Common.{◌≡◌, ℕ, ◌+◌, ◌<◌, ◌≤◌, Bool, true, false, cond, ◌&&◌, eqb, List, [], ◌∷◌, ◌++◌, All, AllPairs, count_by, map, length, get_or, refl, ◌∙◌, zero-le, lit<, arith}
use Rattle.std.proofs.lemmas.Bool.{and_parts, and_left, and_right, both_ways, eq-eqb, eqb-true, ne_eqb}
use Rattle.std.proofs.lemmas.List.Sums.{sum_by-cons}
use Rattle.std.proofs.lemmas.List.Elements.{All-cons, All-head, All-tail, All-weaker, All-append, All-map}
use Rattle.cells.specs.Cells.{characters, braille}
use Rattle.signs.specs.Known.{KnownBy, by_string, by_next, by_entry, always, known, ToldApart}
use Rattle.signs.specs.Laws.{Lawful, LawfulString}
use Rattle.signs.specs.Strings.{begins, Apart, apart}
use Rattle.signs.specs.Symbols.{blank, capitals, string, plain, indicators, accent_symbols, follow_capital}
use Rattle.signs.specs.Tables.{Entry, Table}
use Rattle.signs.proofs.Laws.{apart_true}
use Rattle.signs.proofs.Strings.{eqb_sym}
use Rattle.signs.proofs.Lists.{all_true, pairs_head, pairs_tail, pairwise_true, pairs_append, pairs_map, all_swap, all_both, all_front}

-- none begins another
abbrev pub Free : List KnownBy → Type 0
Free ks = AllPairs (λ (k l : KnownBy). Apart k.1 l.1) ks

always_free : Free always
unfolding characters
always_free =
    pairwise_true (λ (k l : KnownBy). apart k.1 l.1) (λ (k l : KnownBy). Apart k.1 l.1) (λ k l h. apart_true k.1 l.1 h) always refl

-- A lawful string is apart from what is always known

and_true_left : (b : Bool) → (b && true) ≡ false → b ≡ false
and_true_left true h = h
and_true_left false h = h

single_apart : (w s : List ℕ) → length w ≡ 1 → 1 ≤ length s → begins w s ≡ false → Apart w s
single_apart [] s e l h = absurd (omega arith)
single_apart (x ∷ y ∷ w) s e l h = absurd (omega arith)
single_apart (x ∷ []) [] e l h = absurd (omega arith)
single_apart (x ∷ []) (y ∷ s) e l h = (h, and_left (eqb y x) (begins s []) (eqb_sym y x ∙ and_true_left (eqb x y) h))

pair_apart : (x c d : ℕ) (s : List ℕ) → 1 ≤ length s → begins s (x ∷ d ∷ []) ≡ false → begins (x ∷ c ∷ []) s ≡ false → Apart (x ∷ c ∷ []) s
pair_apart x c d [] l a h = absurd (omega arith)
pair_apart x c d (y ∷ []) l a h = (h, a)
pair_apart x c d (y ∷ z ∷ []) l a h = (h, rw (eqb_sym y x, eqb_sym z c) h)
pair_apart x c d (y ∷ z ∷ t ∷ ts) l a h = (h, and_right (eqb y x) (eqb z c && false) (and_right (eqb z c) false refl))

no_blank : (s : List ℕ) → 1 ≤ length s → All (λ c. (0 < c) × (c < 64)) s → begins (0 ∷ []) s ≡ false
no_blank [] l h = refl
no_blank (c ∷ s) l h = let inked = All-head (λ x. (0 < x) × (x < 64)) c s h in and_left (eqb 0 c) true (ne_eqb 0 c (λ e. omega arith))

plain_single : All (λ σ. length (string σ) ≡ 1) plain
plain_single = all_true (λ σ. eqb (length (string σ)) 1) (λ σ. length (string σ) ≡ 1) (λ σ h. eqb-true (length (string σ)) 1 h) plain refl

abbrev From : List ℕ → KnownBy → Type 0
From s k = Apart k.1 s

always_apart : (s : List ℕ) → LawfulString s → All (From s) always
unfolding characters
always_apart s h =
    All-append (From s) (map by_string (blank ∷ (plain ++ (indicators ++ accent_symbols)))) (map by_next follow_capital)
    (All-map (From s) by_string (blank ∷ (plain ++ (indicators ++ accent_symbols)))
    (All-cons (λ σ. Apart (string σ) s) blank (plain ++ (indicators ++ accent_symbols)) (single_apart (braille " ") s refl h.short.0 (no_blank s h.short.0 h.inked))
    (All-append (λ σ. Apart (string σ) s) plain (indicators ++ accent_symbols)
    (all_both (λ σ. length (string σ) ≡ 1) (λ σ. begins (string σ) s ≡ false) (λ σ. Apart (string σ) s)
    (λ σ e k. single_apart (string σ) s e h.short.0 k) plain plain_single h.opening)
    h.clear)))
    (All-map (From s) by_next follow_capital
    (All-weaker (λ c. begins (braille "," ++ c ∷ []) s ≡ false) (λ c. Apart (braille "," ++ c ∷ []) s)
    (λ c k. pair_apart (get_or (braille ",") 0 0) c (get_or (braille ",") 0 0) s h.short.0 (h.clear 0 capitals (lit< tt)).1 k)
    follow_capital (all_front (λ c. begins (braille "," ++ c ∷ []) s ≡ false) follow_capital (braille ",'") h.capped)))

pub known_free : (table : Table) → Lawful table → Free (known table)
known_free table h =
    pairs_append (λ (k l : KnownBy). Apart k.1 l.1) always (map by_entry table) always_free
    (pairs_map (λ (k l : KnownBy). Apart k.1 l.1) by_entry table h.free)
    (all_swap (λ (k l : KnownBy). Apart k.1 l.1) always (map by_entry table)
    (All-map (λ (l : KnownBy). All (From l.1) always) by_entry table
    (All-weaker (λ (e : Entry). LawfulString e.1) (λ (e : Entry). All (From e.1) always) (λ e k. always_apart e.1 k) table h.strings)))

-- At most one begins any cells

-- of two that begin the same cells, one begins the other
not_both : (s t cells : List ℕ) → Apart s t → begins s cells ≡ true → begins t cells ≡ false
not_both [] t cells a h = absurd (both_ways true a.0 refl)
not_both (x ∷ s) [] cells a h = absurd (both_ways true a.1 refl)
not_both (x ∷ s) (y ∷ t) [] a h = refl
not_both (x ∷ s) (y ∷ t) (z ∷ cells) a h =
    let k = and_parts (eqb x z) (begins s cells) h in
    let e : x ≡ z = eqb-true x z k.0 in
    by (eqb y z) refl (λ f. not_both s t cells (
      rw (eq-eqb x y (omega (arith, eqb-true y z f))) at a.0,
      rw (eq-eqb y x (omega (arith, eqb-true y z f))) at a.1,
    ) k.1)
  where
    by : (b : Bool) → eqb y z ≡ b → (eqb y z ≡ true → begins t cells ≡ false) → (b && begins t cells) ≡ false
    by true q rest = rest q
    by false q rest = refl

abbrev Begins : List ℕ → KnownBy → Bool
Begins cells k = begins k.1 cells

count_more : (cells : List ℕ) (k : KnownBy) (ks : List KnownBy) → count_by (Begins cells) (k ∷ ks) ≡ cond (begins k.1 cells) 1 0 + count_by (Begins cells) ks
count_more cells k ks = sum_by-cons (λ (l : KnownBy). cond (begins l.1 cells) 1 0) k ks

none_more : (cells s : List ℕ) (ks : List KnownBy) → begins s cells ≡ true → All (λ (l : KnownBy). Apart s l.1) ks → count_by (Begins cells) ks ≡ 0
none_more cells s [] h a = refl
none_more cells s (k ∷ ks) h a =
    let no : ◌≡◌ {A = ℕ} (cond (begins k.1 cells) 1 0) 0 = rw (not_both s k.1 cells (All-head (λ (l : KnownBy). Apart s l.1) k ks a) h) refl in
    omega (arith, count_more cells k ks, none_more cells s ks h (All-tail (λ (l : KnownBy). Apart s l.1) k ks a))

at_most_one : (cells : List ℕ) (ks : List KnownBy) → Free ks → count_by (Begins cells) ks ≤ 1
at_most_one cells [] f = zero-le
at_most_one cells (k ∷ ks) f =
    omega (arith, count_more cells k ks, by (begins k.1 cells) refl (at_most_one cells ks (pairs_tail (λ (l m : KnownBy). Apart l.1 m.1) k ks f)))
  where
    by : (b : Bool) → begins k.1 cells ≡ b → count_by (Begins cells) ks ≤ 1 → cond b 1 0 + count_by (Begins cells) ks ≤ 1
    by true q rest = omega (arith, none_more cells k.1 ks q (pairs_head (λ (l m : KnownBy). Apart l.1 m.1) k ks f))
    by false q rest = omega (arith, rest)

pub told_apart : ToldApart
told_apart table law cells = at_most_one cells (known table) (known_free table law)
