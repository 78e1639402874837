-- The laws of what boards hold: over Fill's table it is Definition 1, and what is read off any vectors.
use mathlib.Core.Path.{◌≡◌, refl, ap, sym, ◌∙◌}
use mathlib.Core.Bool.{Bool, true, false, and-eq-true_iff}
use mir.Val.{bool_byte}
use mathlib.Core.List.{List}
use Prim.Native.Nat.{ℕ, zero, suc, ◌+◌, ◌*◌, ◌/◌, ◌%◌, ◌^◌, ◌≤◌, ◌<◌}
use native.Mathlib.Numerals.{add-one, one-add}
use native.Mathlib.Omega.{arith}
use borrow.Author.Tests.{le-leb, eq-eqb, ne_eqb, lt-ltb, leb-true, ltb-true, eqb-true}
use lib.Dec.{eqb}
use lib.Pow.{shr-shr}
use lib.ListN.{length, get_or-eq_default}
use Rattle.cube.specs.Bits.{bit, flip}
use Rattle.report.specs.Report.{cut}
use Rattle.cube.specs.Count.{one, pack}
use Rattle.cube.proofs.Count.{one_is, one_bit_next}
use Rattle.cube.proofs.Bits.{bit_zero, bit_high, flip_lt}
use Rattle.report.specs.Health.{Cube}
use Rattle.safety.specs.Safety.{registered, safe, vectors}
use Rattle.held.specs.Held.{held, own, fits, heard}
use Rattle.safety.proofs.Safety.{bit_vector, get_or_vectors}

-- over Fill's table the own bits are those of Definition 1
pub own_safe : (C : Cube) (k a : ℕ) → k ≤ C.dim → a < 2 ^ C.dim → own (vectors C) k a ≡ safe C k a
unfolding own safe
own_safe C zero a hk ha = refl
own_safe C (suc k) a hk ha = ap (λ (w : ℕ). bit w (suc k)) (get_or_vectors C a ha) ∙ bit_vector C a k hk

-- ---- what is read off any vectors

-- a word of 16 bits holds none above 16
pub held_high : (w k : ℕ) → w < 2 ^ 16 → 16 < k → held w k ≡ false
unfolding held
held_high w zero h l = absurd (omega arith)
held_high w (suc k) h l = bit_high w 16 (suc k) h l

-- a node past the end holds what the word 0 does
pub own_past : (vectors : List ℕ) (k a : ℕ) → length vectors ≤ a → own vectors k a ≡ held 0 k
unfolding own
own_past vectors k a h = ap (λ (w : ℕ). held w k) (get_or-eq_default vectors 0 h)

-- where the slices are of the cube's size the mask is that of the registered bits
pub heard_at : (n : ℕ) (links vectors : List ℕ) (a k : ℕ) → n ≤ 10 → length links ≡ 2 ^ n → length vectors ≡ 2 ^ n → a < 2 ^ n → k ≤ 16
    → heard n links vectors a k ≡ pack (registered (cut links) (own vectors k) a) n
unfolding heard fits
heard_at n links vectors a k hn hl hv ha hk =
    rw (le-leb n 10 hn, eq-eqb (length links) (2 ^ n) hl, eq-eqb (length vectors) (2 ^ n) hv, lt-ltb a (2 ^ n) ha, le-leb k 16 hk)

-- the test of sizes passes
pub fits_of : (n : ℕ) (xs : List ℕ) (a : ℕ) → n ≤ 10 → length xs ≡ 2 ^ n → a < 2 ^ n → fits n xs a ≡ true
unfolding fits
fits_of n xs a hn hl ha = rw (le-leb n 10 hn, eq-eqb (length xs) (2 ^ n) hl, lt-ltb a (2 ^ n) ha)

-- past a test of `fits` that passed the sizes are known
pub fits_at : (n : ℕ) (xs : List ℕ) (a : ℕ) (t : Bool) → t ≡ fits n xs a → t ≡ true → (n ≤ 10) × (a < 2 ^ n) × (length xs ≡ 2 ^ n)
unfolding fits
fits_at n xs a t r e =
    let p = (and-eq-true_iff _ _).0 (sym r ∙ e) in
    let q = (and-eq-true_iff _ _).0 p.1 in
    (leb-true n 10 p.0, ltb-true a (2 ^ n) q.1, eqb-true (length xs) (2 ^ n) q.0)

-- a bit of a vector as the machine reads it, with bit 0 put below the others
pub held_digit : (w k : ℕ) → (w * 2 + 1) / 2 ^ k % 2 ≡ one (held w k)
unfolding held
held_digit w zero = omega arith
held_digit w (suc k) =
    ap (λ (x : ℕ). x % 2)
    (ap (λ (j : ℕ). (w * 2 + 1) / 2 ^ j) (sym (one-add k)) ∙ sym (shr-shr (w * 2 + 1) 1 k) ∙ ap (λ (x : ℕ). x / 2 ^ k) (let e : (w * 2 + 1) / 2 ^ 1 ≡ w = omega arith in e))
    ∙ (rw add-one at (one_bit_next w k))

-- a bit below 32 as the machine names it
pub held_mod : (w k r : ℕ) → k < 32 → r ≡ one (held w (k % 32)) → r ≡ one (held w k)
held_mod w k r h e = e ∙ ap (λ (j : ℕ). one (held w j)) (let m : k % 32 ≡ k = omega arith in m)

-- a truth value as the machine's number
pub byte_one : (b : Bool) → bool_byte b ≡ one b
byte_one true = refl
byte_one false = refl

pub byte_small : (b : Bool) → bool_byte b ≤ 1
byte_small true = omega arith
byte_small false = omega arith

-- a bit below 32 as a truth value
pub held_is : (w k r : ℕ) → k < 32 → r ≡ one (held w (k % 32)) → eqb r 1 ≡ held w k
held_is w k r h e = ap (λ (x : ℕ). eqb x 1) (held_mod w k r h e) ∙ one_is (held w k)

-- the word 0 has bit 0 alone
pub held_none : (k : ℕ) → held 0 k ≡ eqb k 0
unfolding held
held_none zero = refl
held_none (suc k) = bit_zero (suc k) ∙ sym (ne_eqb (suc k) 0 (λ e. omega arith))

-- a node and its neighbours lie in slices of the cube's size
pub reach : (n : ℕ) (links : List ℕ) (a i : ℕ) → (n ≤ 10) × (a < 2 ^ n) × (length links ≡ 2 ^ n) → i < n → (i < 16) × (a < length links) × (flip a (suc i) < length links)
reach n links a i p l = (omega (arith, p.0), rw p.2 p.1, rw p.2 (flip_lt n a (suc i) p.1 (omega arith)))
