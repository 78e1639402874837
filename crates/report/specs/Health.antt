-- A cube of boards as the mathematics sees it: its dimension, which boards work, which links count as faulty.
use Rattle.std.specs.Prelude.{ℕ, Bool}

pub record Cube : Type 0 where
  pub dim : ℕ
  pub works : ℕ → Bool
  pub cut : ℕ → ℕ → Bool
