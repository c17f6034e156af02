use Rattle.std.proofs.Common.{rules, sym, ◌∙◌, arith}
use Rattle.console.proofs.HouseCodes.{one_character, names_none, after_prefix, plus_first, number_read}
use Rattle.console.proofs.house.code_named.Goals as goal

pub returns-in-Ok : goal.returns-in-Ok
returns-in-Ok c = grind (arith, one_character c.args.word.now c.in-Ok.character c.utf8.word)

pub returns-in_err-digits : goal.returns-in_err-digits
returns-in_err-digits c = grind (arith, names_none c.args.word.now c.utf8.word c.in_default.ensures.value c.in_err-digits.ensures.cases)

pub returns-then-starts_with : goal.returns-then-starts_with
returns-then-starts_with c = grind (arith, plus_first c.in_ok-digits.digits.now, after_prefix c.args.word.now c.in_ok-digits.digits.now c.utf8.word c.in_ok-digits.ensures.cases)

pub returns : goal.returns
returns c =
    let digits = c.in_ok-digits.digits.now in
    let after = after_prefix c.args.word.now digits c.utf8.word c.in_ok-digits.ensures.cases in
    c.ok.ensures.value ∙ number_read digits c.from_str_radix.result after.1 (search rules) (search rules) ∙ sym after.0
