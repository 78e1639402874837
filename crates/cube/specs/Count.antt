-- What is said of the dimensions 1 to n: the word with these bits, how many, and whether any.
use Rattle.std.specs.Prelude.{ℕ, zero, suc, ◌+◌, ◌*◌, ◌^◌, Bool, true, false, ◌&&◌, ◌||◌, cond, eqb}

-- 1 for true, 0 for false
abbrev pub one : Bool → ℕ
one true = 1
one false = 0

-- the number whose bit i is p i, for i from 1 to n
unfoldable pub pack : (ℕ → Bool) → ℕ → ℕ
pack p zero = 0
pack p (suc n) = pack p n + one (p (suc n)) * 2 ^ n

-- how many i from 1 to n have p i
unfoldable pub count : (ℕ → Bool) → ℕ → ℕ
count p zero = 0
count p (suc n) = count p n + one (p (suc n))

-- some i from 1 to n has p i
unfoldable pub any : (ℕ → Bool) → ℕ → Bool
any p zero = false
any p (suc n) = any p n || p (suc n)

-- the i from 1 to n that has p i and r others below it with p, rank 0 being the lowest; 0 where there is none
unfoldable pub ranked : (ℕ → Bool) → ℕ → ℕ → ℕ
unfolding count
ranked p r zero = 0
ranked p r (suc n) = cond (p (suc n) && eqb (count p n) r) (suc n) (ranked p r n)
