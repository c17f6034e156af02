-- House codes: the parts of a text between blanks, and the code that a word names.
use Rattle.std.proofs.Common.{◌≡◌, ◌≢◌, Result, ℕ, ◌+◌, ◌*◌, ◌<◌, ◌≤◌, ◌^◌, Bool, true, false, cond, List, [], ◌∷◌, ◌++◌, map, length, get_or, take, drop, Some, None, Option, Bor, sym, refl, ◌⊎◌, inl, inr, ap, ◌∙◌, arith, lit<, append_assoc, length-drop}
use Rattle.std.specs.Char.{digit_value, IsScalar}
use Rattle.std.specs.Option.{option_map, SomeIff}
use Rattle.std.specs.List.{slice_split, All, filter}
use Rattle.std.specs.Str.{chars, IsUtf8, NonePass, NoCharPasses, IsAscii}
use Rattle.std.specs.Str.Iter.{split_steps, split_pattern, split_has_more, split_text}
use Rattle.std.specs.Str.Pattern.{FindsChar, IsSplitAtFirstMatch, StripsPrefix, FindsTextPrefix}
use Rattle.std.specs.declared.str.Split.{Split}
use Rattle.std.specs.Str.Parse.{AllDigits, IsNumeral, digits_value, digits_value_after, ParsesUnsigned}
use Rattle.std.specs.Result.{result_ok}
use Rattle.std.proofs.lemmas.Bool.{and_parts}
use Rattle.std.proofs.lemmas.Bool.Decides.{nat_tests}
use Rattle.std.proofs.lemmas.Str.Parse.{without_leading_plus_none}
use Rattle.std.proofs.lemmas.List.{take-append-drop, append-nil, nil_from_length}
use Rattle.std.proofs.lemmas.List.Elements.{All-cons}
use Rattle.std.proofs.lemmas.List.Splits.{slice_split_none, slice_split_at}
use Rattle.std.proofs.lemmas.Str.{chars-nil, encodes-chars, scalars-chars, encodes-IsAscii, chars_from_encodes, chars-append, chars-IsAscii, IsUtf8-from_ascii, IsUtf8-take, IsUtf8-drop, IsCharBoundary-before_ascii}
use Rattle.std.proofs.lemmas.Str.Ascii.{IsAscii-nil, IsAscii-cons}
use Rattle.std.proofs.lemmas.Str.Pattern.{drop_at_char}
use lib.Utf8.{encode, encodes, scalars, scalar}
use Rattle.console.specs.HouseWords.{hexadecimal, code_named, is_blank, is_word, every}

-- A text, part by part

past_ascii : (c : ℕ) (rest : List ℕ) → c < 128 → chars (c ∷ rest) ≡ c ∷ chars rest
past_ascii c rest h =
    let one : IsAscii (c ∷ []) = IsAscii-cons c [] h IsAscii-nil in
    chars-append (c ∷ []) rest (IsUtf8-from_ascii (c ∷ []) one) ∙ ap (λ t. t ++ chars rest) (chars-IsAscii (c ∷ []) one)

no_blank : (cs : List ℕ) → NonePass is_blank cs → All (λ c. is_blank c ≡ false) cs
no_blank [] h = λ k d l. absurd (omega arith)
no_blank (c ∷ cs) h = All-cons (λ c. is_blank c ≡ false) c cs h.0 (no_blank cs h.1)

chars_no_blank : (bs : List ℕ) → IsUtf8 bs → NoCharPasses is_blank bs → All (λ c. is_blank c ≡ false) (chars bs)
chars_no_blank bs u (cs, e, none) = rw (← chars_from_encodes cs bs u e) (no_blank cs none)

-- s cuts a text at its blanks
abbrev pub CutsAtBlanks : Split ℕ → Type 0
CutsAtBlanks s = (split_pattern s ≡ 0x20) × (split_has_more s ≡ true → IsUtf8 (split_text s))

-- the parts that are to come
abbrev pub parts_left : Split ℕ → List (List ℕ)
parts_left s = cond (split_has_more s) (slice_split is_blank (chars (split_text s))) []

first_part : (text part rest : List ℕ) (more : Bool) → IsUtf8 text → IsSplitAtFirstMatch (FindsChar 0x20) text part more rest →
    (slice_split is_blank (chars text) ≡ chars part ∷ cond more (slice_split is_blank (chars rest)) []) × IsUtf8 part × (more ≡ true → IsUtf8 rest)
first_part text part rest more u (_, (None, none, e)) =
    (rw (e.0, e.1) (slice_split_none is_blank (chars text) (chars_no_blank text u none)), rw (e.0) u, λ t. cc (e.1))
first_part text part rest more u (_, (Some (i, j), f, e)) =
    let cut : drop i text ≡ 0x20 ∷ drop j text = drop_at_char 0x20 text i j f.1 (lit< tt) in
    let l : i < length text = omega (arith, simp length-drop at (ap length cut)) in
    let before : IsUtf8 (take i text) = IsUtf8-take text i u (IsCharBoundary-before_ascii text i l (omega (arith, f.1.byte (lit< tt)))) in
    let spelt : chars text ≡ chars (take i text) ++ 0x20 ∷ chars (drop j text) =
    ap chars (sym (take-append-drop i text) ∙ ap (λ t. take i text ++ t) cut) ∙ chars-append (take i text) (0x20 ∷ drop j text) before
    ∙ ap (λ t. chars (take i text) ++ t) (past_ascii 0x20 (drop j text) (lit< tt)) in
    let at : (part ≡ take i text) × (more ≡ true) × (rest ≡ drop j text) = e (omega (arith, f.1.ends)) in (
      rw (at.0, at.1, at.2, spelt) (slice_split_at is_blank (chars (take i text)) 0x20 (chars (drop j text)) (chars_no_blank (take i text) before f.0) refl),
      rw (at.0) before,
      λ t. rw (at.2, f.1.ends) (IsUtf8-drop text (i + 1) u f.1.after),
    )

pub next_part : (s t : Split ℕ) (part : Bor (List ℕ)) → CutsAtBlanks s → split_steps FindsChar (λ p q. q ≡ p) s (Some part) t →
    CutsAtBlanks t × (parts_left s ≡ chars part.now ∷ parts_left t) × IsUtf8 part.now
next_part s t part (blank, u) (more, (kept, cut), _) =
    let first : (slice_split is_blank (chars (split_text s)) ≡ chars part.now ∷ parts_left t) × IsUtf8 part.now × (split_has_more t ≡ true → IsUtf8 (split_text t)) =
    first_part (split_text s) part.now (split_text t) (split_has_more t) (u (sym more)) (rw blank at cut) in
    ((kept ∙ blank, first.2), rw (← more) (first.0), first.1)

-- the codes so far, and those that the parts to come name
abbrev pub codes_on : List ℕ → List (List ℕ) → Option (List ℕ)
codes_on before parts = option_map (λ new. before ++ new) (every (map code_named (filter is_word parts)))

pub empty_part : (before part : List ℕ) (parts : List (List ℕ)) → length part ≡ 0 → codes_on before (chars part ∷ parts) ≡ codes_on before parts
empty_part before part parts l = rw (nil_from_length part l, chars-nil) refl

pub no_code : (before part : List ℕ) (parts : List (List ℕ)) → IsUtf8 part → 0 < length part → None ≡ code_named (chars part) → codes_on before (chars part ∷ parts) ≡ None
no_code before part parts u l n = grind (arith, encodes-chars part u)

pub one_code : (before word : List ℕ) (parts : List (List ℕ)) (code : ℕ) → Some code ≡ code_named word → codes_on before (word ∷ parts) ≡ codes_on (before ++ code ∷ []) parts
one_code before word parts code n = grind (arith, append_assoc {A = ℕ})

-- The code that a word names

pub one_character : (word : List ℕ) (c : ℕ) → IsUtf8 word → word ≡ encode c → chars word ≡ c ∷ []
one_character word c u e = sym (chars_from_encodes (c ∷ []) word u (append-nil (encode c) ∙ sym e))

other_start : (a b : ℕ) (rest : List ℕ) → (a ≡ 0x55 → b ≡ 0x2B → ⊥) → code_named (a ∷ b ∷ rest) ≡ None
other_start a b rest other = grind (arith, nat_tests)

pub names_none : (word : List ℕ) → IsUtf8 word → ((c : ℕ) → IsScalar c → word ≢ encode c) → ((rest : List ℕ) → word ≢ 0x55 ∷ 0x2B ∷ rest) → code_named (chars word) ≡ None
unfolding encode
names_none word u one named = go (chars word) (encodes-chars word u) (scalars-chars word u)
  where
    go : (cs : List ℕ) → encodes cs ≡ word → scalars cs ≡ true → code_named cs ≡ None
    go [] e s = refl
    go (c ∷ []) e s = absurd (one c (and_parts (scalar c) true s).0 (sym e ∙ append-nil (encode c)))
    go (a ∷ b ∷ rest) e s = other_start a b rest (λ p q. named (encodes rest) (rw (p, q) at (sym e)))

-- the number that the digits after U+ write
abbrev pub number : List ℕ → Option ℕ
number [] = None
number (d ∷ ds) = hexadecimal 0 (d ∷ ds)

pub after_prefix : (word digits : List ℕ) → IsUtf8 word → StripsPrefix (FindsTextPrefix (0x55 ∷ 0x2B ∷ [])) word digits →
    (code_named (chars word) ≡ number (chars digits)) × IsUtf8 digits
after_prefix word digits u (n, (two, prefix, boundary), rest, _) =
    let whole : word ≡ 0x55 ∷ 0x2B ∷ digits = prefix ∙ ap (λ t. 0x55 ∷ 0x2B ∷ t) (sym rest) in
    (rw (whole, past_ascii 0x55 (0x2B ∷ digits) (lit< tt), past_ascii 0x2B digits (lit< tt)) (grind arith), rw (rest, two) (IsUtf8-drop word 2 u boundary))

pub plus_first : (digits : List ℕ) → get_or digits 0 0 ≡ 0x2B → number (chars digits) ≡ None
plus_first [] p = absurd (omega arith)
plus_first (d ∷ ds) p = rw (p, past_ascii 0x2B ds (lit< tt)) refl

at_least : (value : ℕ) (ds : List ℕ) → value ≤ digits_value_after 16 value ds
at_least value [] = omega arith
at_least value (d ∷ ds) = omega (arith, at_least (value * 16 + digit_value d) ds)

hexadecimal-is : (value : ℕ) (ds : List ℕ) → value < 2 ^ 32 → SomeIff (hexadecimal value ds) (AllDigits 16 ds × (digits_value_after 16 value ds < 2 ^ 32)) (digits_value_after 16 value ds)
hexadecimal-is value [] l = ((tt, l), refl)
hexadecimal-is value (d ∷ ds) l = grind (arith, nat_tests, at_least (value * 16 + digit_value d) ds, hexadecimal-is (value * 16 + digit_value d) ds)

number-is : (ds : List ℕ) → SomeIff (number ds) (IsNumeral 16 ds × (digits_value 16 ds < 2 ^ 32)) (digits_value 16 ds)
number-is [] = λ p. absurd (omega arith)
number-is (d ∷ ds) = grind (arith, hexadecimal-is 0 (d ∷ ds))

digits_ascii : (ds : List ℕ) → AllDigits 16 ds → IsAscii ds
digits_ascii [] all = IsAscii-nil
digits_ascii (d ∷ ds) all = let low : d < 128 = grind (arith, nat_tests, all.0) in IsAscii-cons d ds low (digits_ascii ds all.1)

-- digits are the same bytes as characters
chars-digits : (bs : List ℕ) → IsUtf8 bs → AllDigits 16 bs ⊎ AllDigits 16 (chars bs) → chars bs ≡ bs
chars-digits bs u (inl all) = chars-IsAscii bs (digits_ascii bs all)
chars-digits bs u (inr all) = sym (encodes-IsAscii (chars bs) (digits_ascii (chars bs) all)) ∙ encodes-chars bs u

pub number_read : {E : Type 0} (digits : List ℕ) (r : Result ℕ E) → IsUtf8 digits → get_or digits 0 0 ≢ 0x2B → ParsesUnsigned 32 16 digits r → result_ok r ≡ number (chars digits)
number_read digits r u p h = grind (arith, rw (without_leading_plus_none digits p) at h, chars-digits digits u, number-is (chars digits))
