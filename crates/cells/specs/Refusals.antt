-- The answers of calls that may refuse: a count, or the number of the refusal and its value.
use Rattle.std.specs.Prelude.{ℕ, Ok, Err, Result}
use Rattle.cells.specs.declared.refusal.CopyRefusal.{CopyRefusal}
use Rattle.cells.specs.declared.refusal.CopyRefusal.TheVariants.{NoRoomFor, SpoiltAt}

pub data Answer : Type 0 where
  granted : ℕ → Answer
  refused : (number value : ℕ) → Answer

-- 9 with the cells needed, 10 with the place
abbrev pub refusal : CopyRefusal → Answer
refusal (NoRoomFor cells) = refused 9 cells
refusal (SpoiltAt place) = refused 10 place

abbrev pub told : Result ℕ CopyRefusal → Answer
told (Ok cells) = granted cells
told (Err r) = refusal r
