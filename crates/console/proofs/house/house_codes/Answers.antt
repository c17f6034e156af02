use Rattle.std.proofs.Common.{arith}
use Rattle.console.proofs.HouseCodes.{next_part, empty_part, no_code, one_code}
use Rattle.console.proofs.house.house_codes.Goals as goal

pub loop-word-preserved-then-is_empty : goal.loop-word-preserved-then-is_empty
loop-word-preserved-then-is_empty c =
    grind (arith, empty_part, next_part c.loop-word.word-iterator c.next.new.self c.in-Some.word c.loop-word.invariant.0 c.in-Some.ensures.steps)

pub returns-in_default : goal.returns-in_default
returns-in_default c =
    grind (arith, no_code, next_part c.loop-word.word-iterator c.next.new.self c.in-Some.word c.loop-word.invariant.0 c.in-Some.ensures.steps)

pub loop-word-preserved : goal.loop-word-preserved
loop-word-preserved c =
    grind (arith, one_code, next_part c.loop-word.word-iterator c.next.new.self c.in-Some.word c.loop-word.invariant.0 c.in-Some.ensures.steps)
