-- The laws of the masks that the routing rules offer.
use mathlib.Core.Path.{◌≡◌, refl, ap, ap₂, sym, subst, ◌∙◌}
use mathlib.Core.Bool.{Bool, true, false, not, ◌&&◌, and-eq-true_iff}
use Prim.Native.Nat.{ℕ, zero, suc, ◌+◌, ◌-◌, ◌^◌, ◌≤◌, ◌<◌}
use native.Mathlib.Numerals.{add-one}
use native.Mathlib.Omega.{arith}
use borrow.Author.Tests.{not-true}
use Rattle.cube.specs.Bits.{bit, flip, weight}
use Rattle.cube.proofs.Bits.{flip_lt}
use Rattle.cube.proofs.Count.{pack_lt, bit_pack, pack_each, pack_find, pack_some, pack_not, pack_own, weight_le, weight_on}
use Rattle.cube.specs.Reply.{accepted}
use Rattle.cube.proofs.Reply.{refused_accepted}
use Rattle.report.specs.Health.{Cube}
use Rattle.safety.specs.Safety.{registered, safe, vectors}
use Rattle.held.specs.Held.{own}
use Rattle.safety.proofs.Safety.{safe_preferred}
use Rattle.held.proofs.Held.{own_safe}
use Rattle.rules.specs.Rules.{borne, offer, spare, Choice, hops_of, home, assured, lent, detour, choose, at_source, onward, proceed, at_node}

-- what holds of each dimension among dims whose link is sound and whose neighbour has its bit holds of each dimension offered
pub offer_each : (n : ℕ) (cut : ℕ → ℕ → Bool) (bits : ℕ → Bool) (dims a : ℕ) (P : ℕ → Type 0)
    → ((j : ℕ) → j < n → bit dims (suc j) ≡ true → cut a (suc j) ≡ false → bits (flip a (suc j)) ≡ true → P (suc j))
    → (i : ℕ) → bit (offer n cut bits dims a) i ≡ true → P i
unfolding offer borne registered
offer_each n cut bits dims a P each =
    pack_each (borne cut bits dims a) n P (λ j l e.
    let among = (and-eq-true_iff (bit dims (suc j)) (registered cut bits a (suc j))).0 e in
    let has = (and-eq-true_iff (not (cut a (suc j))) (bits (flip a (suc j)))).0 among.1 in
    each j l among.0 (not-true _ has.0) has.1)

-- a mask has no dimension above n
pub offer_lt : (n : ℕ) (cut : ℕ → ℕ → Bool) (bits : ℕ → Bool) (dims a : ℕ) → offer n cut bits dims a < 2 ^ n
unfolding offer
offer_lt n cut bits dims a = pack_lt (borne cut bits dims a) n

-- a mask that is not 0 offers some dimension
pub offer_find : (n : ℕ) (cut : ℕ → ℕ → Bool) (bits : ℕ → Bool) (dims a : ℕ) → 0 < offer n cut bits dims a
    → (i : ℕ) × (bit (offer n cut bits dims a) i ≡ true)
unfolding offer
offer_find n cut bits dims a h =
    let (i, l, e) = pack_find (borne cut bits dims a) n h in
    (suc i, bit_pack (borne cut bits dims a) n i l ∙ e)

-- over Fill's table a board with its own bit of its distance offers some preferred dimension
pub offer_pos : (C : Cube) (k a nav : ℕ) → 0 < C.dim → a < 2 ^ C.dim → nav < 2 ^ C.dim → weight nav ≡ suc k → safe C (suc k) a ≡ true
    → 0 < offer C.dim C.cut (own (vectors C) k) nav a
unfolding offer borne registered
offer_pos C k a nav h ha hn w e =
    let (i, l, u, v) = safe_preferred C k a nav h hn w e in
    let low : k ≤ C.dim = omega (arith, weight_le C.dim nav hn) in
    pack_some (borne C.cut (own (vectors C) k) nav a) C.dim i l
    (ap₂ ◌&&◌ u (ap (λ (b : Bool). not (C.cut a (suc i)) && b) (own_safe C k (flip a (suc i)) low (flip_lt C.dim a (suc i) ha l)) ∙ v))

-- a spare dimension is not a one bit of the relative address
pub spare_bit : (n nav i : ℕ) → i < n → bit (spare n nav) (suc i) ≡ not (bit nav (suc i))
unfolding spare
spare_bit n nav i h = bit_pack (λ j. not (bit nav j)) n i h

-- the spare dimensions are all but the one bits, as the machine takes them away
pub spare_rest : (n nav : ℕ) → nav < 2 ^ n → spare n nav ≡ 2 ^ n - 1 - nav
unfolding spare
spare_rest n nav h = omega (arith, pack_not (bit nav) n, pack_own nav n h)

-- ---- the rule at the source, case by case

-- with its own bit and P not empty a source is assured
pub choose_assured : (p q h : ℕ) → (p ≡ 0 → ⊥) → choose true p q h ≡ accepted (assured p h)
unfolding choose
choose_assured zero q h nz = absurd (nz refl)
choose_assured (suc p) q h nz = refl

-- without it, and P not empty, the route is lent
pub choose_lent : (p q h : ℕ) → (p ≡ 0 → ⊥) → choose false p q h ≡ accepted (lent p h)
unfolding choose
choose_lent zero q h nz = absurd (nz refl)
choose_lent (suc p) q h nz = refl

-- with P empty and Q not, it is a detour
pub choose_detour : (q h : ℕ) → (q ≡ 0 → ⊥) → choose false 0 q h ≡ accepted (detour q (h + 2))
unfolding choose
choose_detour zero h nz = absurd (nz refl)
choose_detour (suc q) h nz = refl

-- at a distance that is not 0
pub source_away : (n : ℕ) (cut bits : ℕ → ℕ → Bool) (s nav h : ℕ) → (h ≡ 0 → ⊥)
    → at_source n cut bits s nav h ≡ choose (bits h s) (offer n cut (bits (h - 1)) nav s) (offer n cut (bits (h + 1)) (spare n nav) s) h
unfolding at_source
source_away n cut bits s nav zero nz = absurd (nz refl)
source_away n cut bits s nav (suc h) nz =
    let e : suc h - 1 ≡ h = omega arith in rw (e, add-one)

-- a spare dimension offered leaves room for a hop more
pub detour_room : (n : ℕ) (cut : ℕ → ℕ → Bool) (bits : ℕ → Bool) (nav a : ℕ) → nav < 2 ^ n → 0 < offer n cut bits (spare n nav) a → weight nav < n
detour_room n cut bits nav a hn h =
    let (i, e) = offer_find n cut bits (spare n nav) a h in
    offer_each n cut bits (spare n nav) a (λ (x : ℕ). weight nav < n)
    (λ j l s k b.
    let on = weight_on n nav j hn l (not-true _ (sym (spare_bit n nav j l) ∙ s)) in
    omega (arith, on, weight_le n (flip nav (suc j)) (flip_lt n nav (suc j) hn l)))
    i e

accepts : (x c : Choice) (m : ℕ) → accepted x ≡ accepted c → hops_of x ≤ m → hops_of c ≤ m
accepts x c m e h = let z : x ≡ c = cc in subst (λ (y : Choice). hops_of y ≤ m) z h

-- no source is promised more than n + 1 hops
pub source_hops : (n : ℕ) (cut bits : ℕ → ℕ → Bool) (s nav h : ℕ) (c : Choice) → nav < 2 ^ n → weight nav ≡ h
    → at_source n cut bits s nav h ≡ accepted c → hops_of c ≤ n + 1
unfolding at_source choose
source_hops n cut bits s nav zero c hn w e = accepts home c (n + 1) e (omega arith)
source_hops n cut bits s nav (suc h) c hn w e =
    go (bits (suc h) s) (offer n cut (bits h) nav s) (offer n cut (bits (suc (suc h))) (spare n nav) s) (detour_room n cut (bits (suc (suc h))) nav s hn) e
  where
    low : suc h ≤ n
    low = omega (arith, weight_le n nav hn)

    go : (t : Bool) (p q : ℕ) → (0 < q → weight nav < n) → choose t p q (suc h) ≡ accepted c → hops_of c ≤ n + 1
    go true zero q room k = absurd (refused_accepted 8 c k)
    go true (suc p) q room k = accepts (assured (suc p) (suc h)) c (n + 1) k (omega (arith, low))
    go false (suc p) q room k = accepts (lent (suc p) (suc h)) c (n + 1) k (omega (arith, low))
    go false zero (suc q) room k = accepts (detour (suc q) (suc h + 2)) c (n + 1) k (omega (arith, room (omega arith)))
    go false zero zero room k = absurd (refused_accepted 7 c k)

-- ---- the rule at a later node

pub proceed_some : (p : ℕ) → (p ≡ 0 → ⊥) → proceed p ≡ accepted (onward p)
unfolding proceed
proceed_some zero nz = absurd (nz refl)
proceed_some (suc p) nz = refl

pub node_away : (n : ℕ) (cut bits : ℕ → ℕ → Bool) (a nav h : ℕ) → (h ≡ 0 → ⊥)
    → at_node n cut bits a nav h ≡ proceed (offer n cut (bits (h - 1)) nav a)
unfolding at_node
node_away n cut bits a nav zero nz = absurd (nz refl)
node_away n cut bits a nav (suc h) nz =
    let e : suc h - 1 ≡ h = omega arith in rw e
