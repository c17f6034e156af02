use Rattle.std.proofs.Common.{sym, ap, ◌∙◌}
use Rattle.std.specs.List.{slice_get}
use Rattle.std.specs.Option.{option_copied, option_map}
use Rattle.cells.specs.Cells.{characters}
use Rattle.cells.proofs.Items.{item_copied}
use Rattle.signs.specs.Listings.{entry_of}
use Rattle.tables.specs.House.{house_strings}
use Rattle.tables.proofs.Laid.{house_past, house_there}
use Rattle.tables.proofs.house_codes.HouseCodesListing.listed.Goals as goal

pub returns-in_err-code : goal.returns-in_err-code
returns-in_err-code c =
    let none = ap (λ codes. slice_get codes c.args.position) (sym c.as_slice.ensures.value) ∙ sym (item_copied _ _ _ c.get.ensures.lookup) ∙ ap option_copied c.in_err-code.was in
    ap (option_map entry_of) c.from_residual.ensures ∙ sym (house_past c.args.self.now.codes.items house_strings c.args.position none)

pub returns : goal.returns
unfolding characters
returns c =
    let code = ap (λ codes. slice_get codes c.args.position) (sym c.as_slice.ensures.value) ∙ sym (item_copied _ _ _ c.get.ensures.lookup) ∙ ap option_copied c.in_ok-code.was in
    let string = sym (item_copied house_strings c.args.position _ c.get-2.ensures.lookup) ∙ ap option_copied c.in_ok-string.was in
    sym (house_there c.args.self.now.codes.items house_strings c.args.position c.in_ok-code.field-0.now c.in_ok-string.string.now code string)
