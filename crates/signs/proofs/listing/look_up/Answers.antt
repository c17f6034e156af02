use Rattle.std.proofs.Common.{◌≡◌, ◌+◌, ℕ, length, rules, ap, ◌∙◌, arith, refl}
use Rattle.std.specs.Option.{option_to_list}
use Rattle.std.specs.List.{slice_get}
use Rattle.std.proofs.lemmas.Iterator.{YieldsList-from_range}
use Rattle.std.proofs.lemmas.Iterator.Consumers.{fold_from_yields_List}
use Rattle.signs.specs.Tables.{look_up, or_match}
use Rattle.signs.specs.declared.table.Match.{Match}
use Rattle.signs.specs.declared.table.Match.TheVariants.{Neither}
use Rattle.signs.proofs.Tables.{look_up_numbered}
use Rattle.signs.proofs.listing.look_up.Goals as goal

pub returns : goal.returns
returns g c =
    let es = g.L.Listing.entries c.args.listing.now in
    let cells = c.args.cells.now in
    fold_from_yields_List _ (λ (m : Match) (n : ℕ). or_match m (look_up (option_to_list (slice_get es n)) cells)) Neither c.fold.result c.fold.ensures.ran
    (YieldsList-from_range 0 c.count.result (length es) refl (omega (arith, c.count.ensures)))
    (λ m n b q k. search rules)
    ∙ look_up_numbered es cells (slice_get es) Neither 0 (λ k l. let e : 0 + k ≡ k = omega arith in ap (slice_get es) e)
