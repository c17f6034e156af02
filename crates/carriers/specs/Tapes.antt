-- Memory that is pressed from its front.
use Rattle.std.specs.Prelude.{ℕ, List}

-- the bytes of the cells pressed, and those behind them
pub record Memory : Type 0 where
  pub pressed : List ℕ
  pub unused : List ℕ
