-- A sweep number as a person types it.
use Rattle.std.specs.Prelude.{ℕ, ◌+◌, ◌-◌, ◌*◌, Bool, true, ◌&&◌, cond, List, [], ◌∷◌, leb, ltb, length, Option, Some, None}

-- every byte is a decimal digit
unfoldable pub digits : List ℕ → Bool
digits [] = true
digits (b ∷ bs) = (leb 48 b && leb b 57) && digits bs

-- the number that digits write after those that wrote x
unfoldable pub value : ℕ → List ℕ → ℕ
value x [] = x
value x (b ∷ bs) = value (10 * x + (b - 48)) bs

-- the sweep that a text names: at least one digit, nothing else, and at most 65,535
unfoldable pub sweep_in : List ℕ → Option ℕ
unfolding digits value
sweep_in text = cond (ltb 0 (length text) && (digits text && leb (value 0 text) 65535)) (Some (value 0 text)) None
