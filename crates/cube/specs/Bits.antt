-- Numbers seen as bits. Dimension 1 is the lowest bit, and there is no dimension 0.
use Rattle.std.specs.Prelude.{ℕ, zero, suc, ◌/◌, ◌%◌, ◌^◌, Bool, false, ◌&&◌, cond, eqb, leb}
use Rattle.std.specs.Int.Bits.{bit_xor}
use Rattle.std.specs.Int.Count.{ones}

-- the bit of weight 2^(i−1)
unfoldable pub bit : ℕ → ℕ → Bool
bit x zero = false
bit x (suc i) = eqb (x / 2 ^ i % 2) 1

-- the weight of dimension i, 2^(i−1)
unfoldable pub place : ℕ → ℕ
place zero = 0
place (suc i) = 2 ^ i

-- the neighbour along dimension i; of a relative address, the address with dimension i crossed
unfoldable pub flip : ℕ → ℕ → ℕ
unfolding place
flip a i = bit_xor a (place i)

-- how many bits are one
abbrev pub weight : ℕ → ℕ
weight x = ones x

-- a number with dimension i crossed; outside 1 to 10 the same number back
unfoldable pub crossed : ℕ → ℕ → ℕ
unfolding flip
crossed x i = cond (leb 1 i && leb i 10) (flip x i) x
