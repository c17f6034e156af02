use Rattle.std.proofs.Common.{◌≡◌, ◌+◌, ◌-◌, ◌≤◌, length, drop, sym, ap, ◌∙◌, arith}
use Rattle.std.proofs.lemmas.List.{drop-drop}
use Rattle.std.proofs.lemmas.Slice.{drop-put_mid}
use Rattle.carriers.proofs.memory.PressedMemory.press.Goals as goal

pub returns-clause-unused : goal.returns-clause-unused
returns-clause-unused c =
    let memory = c.self.inside.bytes.now in
    let end = c.self.inside.end in
    let n = length c.args.group.now in
    let one : end + n - end ≡ n = omega arith in
    let sized : length c.copy_from_slice.new.self ≡ n = ap length c.copy_from_slice.ensures.after in
    drop-put_mid end (end + n - end) memory c.copy_from_slice.new.self (end + n) (omega (arith, one)) (omega (arith, c.self.invariant)) (sized ∙ sym one)
    ∙ sym (drop-drop n end memory) ∙ ap (λ m. drop n m.unused) c.self.view_is
