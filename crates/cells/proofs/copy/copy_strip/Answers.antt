use Rattle.std.proofs.Common.{◌≡◌, ◌-◌, ◌*◌, ◌<◌, ◌≤◌, true, [], ◌∷◌, ◌++◌, length, drop, is_some, sym, ap, ◌∙◌, arith}
use Rattle.std.specs.List.{slice_get}
use Rattle.std.proofs.lemmas.List.{take_all}
use Rattle.std.proofs.lemmas.Bool.{and_from, cond-true, lt-ltb, le-leb, false≢true}
use Rattle.cells.specs.Pressing.{if_room, unless_gap}
use Rattle.cells.specs.Refusals.{granted}
use Rattle.cells.specs.declared.strip.Place.TheVariants.{Cell}
use Rattle.cells.proofs.Gaps.{no_gap, cell_found}
use Rattle.cells.proofs.Copies.{place_more, unused_more}
use Rattle.cells.proofs.copy.copy_strip.Goals as goal

pub unreachable-requires : goal.unreachable-requires
unreachable-requires g c =
    let ps = g.S.Strip.places c.args.from.now in
    let h : c.loop-place.place < length ps = omega (arith, c.len-cells.ensures) in
    false≢true (ap is_some c.in_default-cell_at.ensures ∙ no_gap 0 ps c.loop-place.place (sym c.in_default.ensures) h)

pub loop-place-preserved : goal.loop-place-preserved
loop-place-preserved g c =
    let ps = g.S.Strip.places c.args.from.now in
    let i = c.loop-place.place in
    let cell = c.in-Some-cell_at.cell in
    let inv = c.loop-place.invariant in
    let h : i < length ps = omega (arith, c.len-cells.ensures) in
    let room : 0 < g.E.Embosser.room c.loop-place.to = omega (arith, inv.1, c.free.ensures) in
    let yes : c.press.result ≡ true =
    c.press.ensures.answer ∙ and_from _ _ (cell_found (slice_get ps i) cell c.in-Some-cell_at.ensures).1 (lt-ltb 0 _ room) in
    let less : g.E.Embosser.room c.press.new.self ≡ g.E.Embosser.room c.loop-place.to - 1 = c.press.ensures.room ∙ cond-true _ _ _ yes in (
      c.press.ensures.places ∙ cond-true _ _ _ yes ∙ ap (λ p. p ++ Cell cell ∷ []) inv.0 ∙ place_more (g.E.Strip.places c.args.to.now) ps i cell h c.in-Some-cell_at.ensures,
      omega (arith, less, inv.1),
      c.press.ensures.unused ∙ cond-true _ _ _ yes ∙ ap (drop g.E.Embosser.width) inv.2 ∙ unused_more g.E.Embosser.width i (g.E.Embosser.unused c.args.to.now),
    )

pub returns : goal.returns
returns g c =
    let ps = g.S.Strip.places c.args.from.now in
    let inv = c.loop-place.invariant in
    let count : c.len-cells.result ≡ length ps = c.len-cells.ensures in
    let i : c.loop-place.place ≡ length ps = omega (arith, count, c.loop-place.auto.place-end) in
    let fits : length ps ≤ g.E.Embosser.room c.args.to.now = omega (arith, count, c.free.ensures) in
    record {
      answer = ap granted count ∙ sym (cond-true _ _ _ (le-leb (length ps) _ fits)) ∙ ap (λ o. unless_gap o (if_room (g.E.Embosser.room c.args.to.now) (length ps))) c.in_default.ensures;
      places = inv.0 ∙ ap (λ t. g.E.Strip.places c.args.to.now ++ t) (take_all c.loop-place.place ps (omega arith));
      room = omega (arith, inv.1);
      unused = inv.2 ∙ ap (λ n. drop (n * g.E.Embosser.width) (g.E.Embosser.unused c.args.to.now)) i;
    }
