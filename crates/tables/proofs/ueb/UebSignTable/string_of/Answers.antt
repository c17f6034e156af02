use Rattle.std.proofs.Common.{◌≡◌, false, option_and_then, sym, ap, ◌∙◌, inl, inr, arith}
use lib.Utf8.{scalar}
use Rattle.std.specs.Option.{option_copied, option_map}
use Rattle.std.specs.List.{slice_get}
use Rattle.cells.specs.Lists.{index_of}
use Rattle.signs.specs.Tables.{Entry}
use Rattle.tables.specs.Ueb.{ueb, ueb_codes}
use Rattle.std.proofs.lemmas.Bool.{cases_Bool}
use Rattle.tables.proofs.UebRows.{by_entry, no_ueb_sign}
use Rattle.tables.proofs.ueb.UebSignTable.string_of.Goals as goal

pub returns-in_err-sign : goal.returns-in_err-sign
returns-in_err-sign c =
    let none : scalar c.args.code ≡ false = elim (cases_Bool (scalar c.args.code)) [ inl t ↦ absurd (c.in_err-sign.ensures.value t) | inr f ↦ f ] in
    ap option_copied c.from_residual.ensures ∙ sym (no_ueb_sign c.args.code none)

pub returns-in_err-number : goal.returns-in_err-number
returns-in_err-number c = let h = by_entry c.args.code in grind arith

pub returns-in_err-listed : goal.returns-in_err-listed
returns-in_err-listed c =
    let number = c.in_ok-number.ensures ∙ ap (λ code. index_of code 0 ueb_codes) c.in_ok-sign.ensures.value.1 in
    ap option_copied c.from_residual-in_err-listed.ensures
    ∙ ap (option_map (λ (e : Entry). e.1)) c.in_err-listed.ensures
    ∙ ap (option_and_then (λ n. option_map (λ (e : Entry). e.1) (slice_get ueb n))) number
    ∙ sym (by_entry c.args.code)

pub returns : goal.returns
returns c =
    let number = c.in_ok-number.ensures ∙ ap (λ code. index_of code 0 ueb_codes) c.in_ok-sign.ensures.value.1 in
    ap (option_map (λ (e : Entry). e.1)) c.in_ok-listed.ensures
    ∙ ap (option_and_then (λ n. option_map (λ (e : Entry). e.1) (slice_get ueb n))) number
    ∙ sym (by_entry c.args.code)
