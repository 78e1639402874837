-- Wu's two routing rules in a cube of dimension n, by the links that are cut and the bits that the boards hold.
use Rattle.std.specs.Prelude.{ℕ, zero, suc, ◌+◌, Bool, true, false, not, ◌&&◌}
use Rattle.cube.specs.Bits.{bit}
use Rattle.cube.specs.Count.{pack}
use Rattle.cube.specs.Reply.{Reply, refused, accepted}
use Rattle.safety.specs.Safety.{registered}

-- dimension i is among dims, and a's neighbour along it has its bit, as registered at a
unfoldable pub borne : (ℕ → ℕ → Bool) → (ℕ → Bool) → ℕ → ℕ → ℕ → Bool
unfolding bit registered
borne cut bits dims a i = bit dims i && registered cut bits a i

-- the mask of those dimensions
unfoldable pub offer : ℕ → (ℕ → ℕ → Bool) → (ℕ → Bool) → ℕ → ℕ → ℕ
unfolding borne pack
offer n cut bits dims a = pack (borne cut bits dims a) n

-- the mask of the spare dimensions of a relative address: those up to n that are not its one bits
unfoldable pub spare : ℕ → ℕ → ℕ
unfolding bit pack
spare n nav = pack (λ i. not (bit nav i)) n

-- an acceptance: its kind, the mask of the dimensions offered, and the hops
pub data Choice : Type 0 where
  home : Choice
  assured lent detour : (mask hops : ℕ) → Choice

-- the mask of an acceptance
abbrev pub mask_of : Choice → ℕ
mask_of home = 0
mask_of (assured mask h) = mask
mask_of (lent mask h) = mask
mask_of (detour mask h) = mask

-- its hops
abbrev pub hops_of : Choice → ℕ
hops_of home = 0
hops_of (assured mask h) = h
hops_of (lent mask h) = h
hops_of (detour mask h) = h

-- By the source's own bit H, the masks P and Q, and H: assured or lent by P, else the detour by Q.
unfoldable pub choose : Bool → ℕ → ℕ → ℕ → Reply Choice
choose true zero q h = refused 8
choose true (suc p) q h = accepted (assured (suc p) h)
choose false (suc p) q h = accepted (lent (suc p) h)
choose false zero (suc q) h = accepted (detour (suc q) (h + 2))
choose false zero zero h = refused 7

-- The rule at source s for a destination at distance H. P: the preferred dimensions whose neighbour has registered bit H−1.
-- Q: the spare dimensions whose neighbour has registered bit H+1.
unfoldable pub at_source : ℕ → (ℕ → ℕ → Bool) → (ℕ → ℕ → Bool) → ℕ → ℕ → ℕ → Reply Choice
unfolding choose offer spare
at_source n cut bits s nav zero = accepted home
at_source n cut bits s nav (suc h) =
    choose (bits (suc h) s) (offer n cut (bits h) nav s) (offer n cut (bits (suc (suc h))) (spare n nav) s) (suc h)

-- an answer at a later node: the message has arrived, or may go along the dimensions of a mask
pub data Next : Type 0 where
  arrived : Next
  onward : (mask : ℕ) → Next

-- by the mask P
unfoldable pub proceed : ℕ → Reply Next
proceed zero = refused 9
proceed (suc p) = accepted (onward (suc p))

-- The rule at a later node a at distance H from the destination. P as at a source.
unfoldable pub at_node : ℕ → (ℕ → ℕ → Bool) → (ℕ → ℕ → Bool) → ℕ → ℕ → ℕ → Reply Next
unfolding proceed offer
at_node n cut bits a nav zero = accepted arrived
at_node n cut bits a nav (suc h) = proceed (offer n cut (bits h) nav a)
