-- One hop of a message, over the bits of Definition 1.
use mathlib.Core.Path.{◌≡◌, refl, ap, sym, ◌∙◌}
use mathlib.Core.Bool.{true, false, true≢false}
use Prim.Native.Nat.{ℕ, zero, suc, ◌+◌, ◌^◌, ◌<◌}
use native.Mathlib.Omega.{arith}
use borrow.Author.Tests.{not-true}
use lib.Bits.{bit_xor, xor_self, xor_zero_r}
use Rattle.cube.specs.Bits.{bit, flip, weight}
use Rattle.cube.proofs.Bits.{flip_lt}
use Rattle.cube.proofs.Count.{weight_le, weight_off, weight_on, weight_zero, xor_twice, xor_crossed}
use Rattle.report.specs.Health.{Cube}
use Rattle.safety.specs.Safety.{safe, vectors}
use Rattle.held.specs.Held.{own}
use Rattle.safety.proofs.Safety.{safe_works}
use Rattle.held.proofs.Held.{own_safe}
use Rattle.rules.specs.Rules.{offer, spare}
use Rattle.rules.proofs.Rules.{offer_each, spare_bit}

-- a message for d at board a, with its relative address
pub record At (C : Cube) (d a nav : ℕ) : Type 0 where
  pub size : 0 < C.dim
  pub node : a < 2 ^ C.dim
  pub near : nav < 2 ^ C.dim
  pub address : bit_xor a nav ≡ d
  pub there : C.works d ≡ true

-- under way: the board has its own bit of its distance
pub record UnderWay (C : Cube) (d a nav : ℕ) : Type 0 where
  pub at : At C d a nav
  pub bears : safe C (weight nav) a ≡ true

-- a good hop along i, for a message with so many hops left
pub record Hopped (C : Cube) (d a nav left i : ℕ) : Type 0 where
  pub sound : C.cut a i ≡ false
  pub way : UnderWay C d (flip a i) (flip nav i)
  pub fewer : left ≡ suc (weight (flip nav i))
  -- the board that it leaves is under way only from farther off
  pub behind : (r : ℕ) → UnderWay C d a r → weight (flip nav i) < weight r

module _ {C : Cube} {d a nav : ℕ} (m : At C d a nav) where
  -- the relative address is the exclusive or of the board and the destination
  pub address_of : nav ≡ bit_xor a d
  address_of = sym (xor_twice a nav) ∙ ap (bit_xor a) m.address

  -- it is 0 at the destination and nowhere else
  pub home_of_zero : nav ≡ 0 → a ≡ d
  home_of_zero z = sym (xor_zero_r a) ∙ ap (bit_xor a) (sym z) ∙ m.address

  pub zero_of_home : a ≡ d → nav ≡ 0
  zero_of_home e = address_of ∙ ap (bit_xor a) (sym e) ∙ xor_self a

  -- a neighbour with its own bit of its distance is under way
  under_way : (j : ℕ) → j < C.dim → own (vectors C) (weight (flip nav (suc j))) (flip a (suc j)) ≡ true
      → UnderWay C d (flip a (suc j)) (flip nav (suc j))
  under_way j l e =
      record {
        at =
            record {
              size = m.size;
              node = node;
              near = near;
              address = xor_crossed a nav (suc j) ∙ m.address;
              there = m.there;
            };
        bears = sym (own_safe C _ (flip a (suc j)) (weight_le C.dim (flip nav (suc j)) near) node) ∙ e;
      }
    where
      node : flip a (suc j) < 2 ^ C.dim
      node = flip_lt C.dim a (suc j) m.node l

      near : flip nav (suc j) < 2 ^ C.dim
      near = flip_lt C.dim nav (suc j) m.near l

-- a board under way works: it is the destination, or has a bit from 1 set
pub works_of : {C : Cube} {d a nav : ℕ} → UnderWay C d a nav → C.works a ≡ true
works_of {C} {d} {a} {nav} u = go (weight nav) refl u.bears
  where
    go : (k : ℕ) → weight nav ≡ k → safe C k a ≡ true → C.works a ≡ true
    go zero w s = ap C.works (home_of_zero u.at (weight_zero C.dim nav u.at.near w)) ∙ u.at.there
    go (suc k) w s = safe_works C k a s

module _ {C : Cube} {d a nav k : ℕ} (m : At C d a nav) (w : weight nav ≡ suc k) where
  -- a board has one relative address
  same_weight : (r : ℕ) → UnderWay C d a r → weight r ≡ suc k
  same_weight r u = ap weight (address_of u.at ∙ sym (address_of m)) ∙ w

  -- a hop along a preferred dimension offered
  pub preferred_hop : (i : ℕ) → bit (offer C.dim C.cut (own (vectors C) k) nav a) i ≡ true → Hopped C d a nav (suc k) i
  preferred_hop =
      offer_each C.dim C.cut (own (vectors C) k) nav a (Hopped C d a nav (suc k)) (λ j l e s h.
      let f : weight (flip nav (suc j)) ≡ k = omega (arith, weight_off C.dim nav j m.near l e) in
      record { sound = s; way = under_way m j l (rw f h); fewer = omega arith; behind = λ r u. omega (arith, same_weight r u) })

  -- a hop along a spare dimension offered, from a board that lacks its own bit of its distance
  pub spare_hop : safe C (suc k) a ≡ false → (i : ℕ) → bit (offer C.dim C.cut (own (vectors C) (suc (suc k))) (spare C.dim nav) a) i ≡ true
      → Hopped C d a nav (suc k + 2) i
  spare_hop lacks =
      offer_each C.dim C.cut (own (vectors C) (suc (suc k))) (spare C.dim nav) a (Hopped C d a nav (suc k + 2)) (λ j l e s h.
      let off : bit nav (suc j) ≡ false = not-true _ (sym (spare_bit C.dim nav j l) ∙ e) in
      let f : weight (flip nav (suc j)) ≡ suc (suc k) = weight_on C.dim nav j m.near l off ∙ ap suc w in
      record {
        sound = s;
        way = under_way m j l (rw f h);
        fewer = omega arith;
        behind = λ r u. absurd (true≢false (sym u.bears ∙ ap (λ (x : ℕ). safe C x a) (same_weight r u) ∙ lacks));
      })
