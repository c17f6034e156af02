use Rattle.std.proofs.Common.{◌≡◌, ◌-◌, ◌*◌, ◌++◌, take, drop}
use Rattle.cells.proofs.copy.copy_strip.Given as goal

-- so many places of the strip are pressed
abbrev pub invariant-loop-place : goal.invariant-loop-place
invariant-loop-place g l =
    (g.E.Strip.places l.to ≡ g.E.Strip.places l.initial.to ++ take l.place (g.S.Strip.places l.from))
    × (g.E.Embosser.room l.to ≡ g.E.Embosser.room l.initial.to - l.place)
    × (g.E.Embosser.unused l.to ≡ drop (l.place * g.E.Embosser.width) (g.E.Embosser.unused l.initial.to))
