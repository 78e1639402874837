-- The pick: which of the dimensions offered a message takes.
use Rattle.std.specs.Prelude.{ℕ, zero, suc, ◌%◌, Option, Some, None}
use Rattle.std.specs.Int.Count.{ones}
use Rattle.cube.specs.Bits.{bit, weight}
use Rattle.cube.specs.Count.{ranked}

-- the dimension that a pick takes: of the c dimensions offered, the one of rank (pick mod c), rank 0 the lowest
unfoldable pub taken : ℕ → ℕ → ℕ → ℕ
unfolding ranked bit ones
taken n mask pick = ranked (bit mask) (pick % weight mask) n

-- the dimension that a number names; 0 names none
abbrev pub named : ℕ → Option ℕ
named zero = None
named (suc i) = Some (suc i)
