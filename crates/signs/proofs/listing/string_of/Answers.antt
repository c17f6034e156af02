use Rattle.std.proofs.Common.{◌≡◌, true, false, rules, tests, option_and_then, sym, ap, ◌∙◌}
use Rattle.std.specs.Option.{option_map}
use Rattle.std.specs.List.{slice_get}
use Rattle.std.proofs.lemmas.Iterator.{first_from_Range}
use Rattle.signs.specs.Listings.{has_code}
use Rattle.signs.specs.Tables.{Entry}
use Rattle.signs.proofs.Tables.{string_numbered}
use Rattle.signs.proofs.listing.string_of.Goals as goal

pub returns-in-None : goal.returns-in-None
returns-in-None g c =
    let es = g.L.Listing.entries c.args.listing.now in
    let code = c.args.code in
    let string = string_numbered es code c.count.result c.find.result c.count.ensures
    (first_from_Range _ _ _ _ (λ i. has_code code (slice_get es i) ≡ true) (λ i. has_code code (slice_get es i) ≡ false) c.find.ensures.ran
    (λ x q k. search (rules, tests)) (λ x q k. search (rules, tests))) in
    sym (string ∙ ap (λ r. option_map (λ (e : Entry). e.1) (option_and_then (slice_get es) r)) c.in-None.is)

pub returns-in_ok-listed-in-Some : goal.returns-in_ok-listed-in-Some
returns-in_ok-listed-in-Some g c =
    let es = g.L.Listing.entries c.args.listing.now in
    let code = c.args.code in
    let string = string_numbered es code c.count.result c.find.result c.count.ensures
    (first_from_Range _ _ _ _ (λ i. has_code code (slice_get es i) ≡ true) (λ i. has_code code (slice_get es i) ≡ false) c.find.ensures.ran
    (λ x q k. search (rules, tests)) (λ x q k. search (rules, tests))) in
    ap (option_map (λ (e : Entry). e.1)) c.in_ok-listed-in-Some.ensures ∙ sym (string ∙ ap (λ r. option_map (λ (e : Entry). e.1) (option_and_then (slice_get es) r)) c.in-Some.is)
