-- The bits that the boards hold, read off lent vectors, which may be wrong.
use Rattle.std.specs.Prelude.{ℕ, zero, suc, Bool, true, ◌&&◌, cond, List, leb, get_or}
use Rattle.cube.specs.Bits.{bit}
use Rattle.cube.specs.Count.{pack}
use Rattle.report.specs.Report.{cut, sized, within}
use Rattle.safety.specs.Safety.{registered}

-- bit k of a vector; bit 0 is 1
unfoldable pub held : ℕ → ℕ → Bool
unfolding bit
held w zero = true
held w (suc k) = bit w (suc k)

-- own bit k of node a
unfoldable pub own : List ℕ → ℕ → ℕ → Bool
unfolding held
own vectors k a = held (get_or vectors a 0) k

-- a list has one entry for each node of a cube of dimension n, at most 10, and a is one of them
unfoldable pub fits : ℕ → List ℕ → ℕ → Bool
unfolding sized within
fits n xs a = leb n 10 && (sized n xs && within n a)

-- the mask of the dimensions along which bit k, at most 16, is registered at a; where that can't be read, none
unfoldable pub heard : ℕ → List ℕ → List ℕ → ℕ → ℕ → ℕ
unfolding fits registered own pack
heard n links vectors a k = cond (fits n links a && (sized n vectors && leb k 16)) (pack (registered (cut links) (own vectors k) a) n) 0
