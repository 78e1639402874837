-- The laws of single bits: of an exclusive or, of a remainder, of a power, of a neighbour.
-- std has laws of its `bit_at`, which counts from 0, and `bit` from 1: a bridge between them would be as long.
use mathlib.Core.Path.{◌≡◌, refl, ap, sym, ◌∙◌}
use mathlib.Core.Bool.{Bool, true, false, not, xor, false≢true, ◌&&◌, ◌||◌, and-false}
use Prim.Native.Nat.{ℕ, zero, suc, min, max, ◌+◌, ◌*◌, ◌-◌, ◌/◌, ◌%◌, ◌^◌, ◌≤◌, ◌<◌}
use native.Mathlib.Nat.{div-eq_of_lt, lt_of_lt_of_le, div_self, mul-mod_left}
use native.Mathlib.Omega.{arith}
use mathlib.Core.Logic.{⊎_elim}
use borrow.Author.Tests.{le-leb, lt-leb}
use lib.Dec.{eqb}
use Rattle.std.proofs.lemmas.Bool.{cases_lt}
use Rattle.std.proofs.lemmas.Nat.{one_shl}
use lib.Bits.{bit_xor, bit_and, bit_or, differ, and_step, and_shr, or_step, or_shr, xor_step, xor_shr, xor_lt, xor_zero_r}
use lib.Pow.{pow_pos, pow_mono, pow-lt, pow-add, field, mod-mod-pow}
use Rattle.cube.specs.Bits.{bit, place, flip, crossed}

-- an operation on digits, by what it makes of 0 and 1
digit_by : (f : ℕ → ℕ → ℕ) (g : Bool → Bool → Bool)
    → eqb (f 0 0) 1 ≡ g false false → eqb (f 0 1) 1 ≡ g false true → eqb (f 1 0) 1 ≡ g true false → eqb (f 1 1) 1 ≡ g true true
    → (u v : ℕ) → u < 2 → v < 2 → eqb (f u v) 1 ≡ g (eqb u 1) (eqb v 1)
digit_by f g oo oi io ii zero zero hu hv = oo
digit_by f g oo oi io ii zero (suc zero) hu hv = oi
digit_by f g oo oi io ii zero (suc (suc v)) hu hv = absurd (omega arith)
digit_by f g oo oi io ii (suc zero) zero hu hv = io
digit_by f g oo oi io ii (suc zero) (suc zero) hu hv = ii
digit_by f g oo oi io ii (suc zero) (suc (suc v)) hu hv = absurd (omega arith)
digit_by f g oo oi io ii (suc (suc u)) v hu hv = absurd (omega arith)

-- the bits of what an operation makes digit by digit
bit_by : (op f : ℕ → ℕ → ℕ) (g : Bool → Bool → Bool) → ((a b k : ℕ) → op a b / 2 ^ k ≡ op (a / 2 ^ k) (b / 2 ^ k)) → ((a b : ℕ) → op a b % 2 ≡ f (a % 2) (b % 2))
    → ((u v : ℕ) → u < 2 → v < 2 → eqb (f u v) 1 ≡ g (eqb u 1) (eqb v 1)) → false ≡ g false false → (a b i : ℕ) → bit (op a b) i ≡ g (bit a i) (bit b i)
unfolding bit
bit_by op f g shr digit same none a b zero = none
bit_by op f g shr digit same none a b (suc i) =
    ap (λ (x : ℕ). eqb (x % 2) 1) (shr a b i)
    ∙ ap (λ (x : ℕ). eqb x 1) (digit (a / 2 ^ i) (b / 2 ^ i))
    ∙ same (a / 2 ^ i % 2) (b / 2 ^ i % 2) (omega arith) (omega arith)

differ_lt : (u v : ℕ) → u < 2 → v < 2 → differ u v < 2
differ_lt zero v hu hv = hv
differ_lt (suc u) zero hu hv = hu
differ_lt (suc u) (suc v) hu hv = differ_lt u v (omega arith) (omega arith)

xor_digit : (a b : ℕ) → bit_xor a b % 2 ≡ differ (a % 2) (b % 2)
xor_digit a b = omega (arith, xor_step a b, differ_lt (a % 2) (b % 2) (omega arith) (omega arith))

pub bit_of_xor : (a b i : ℕ) → bit (bit_xor a b) i ≡ xor (bit a i) (bit b i)
unfolding xor
bit_of_xor = bit_by bit_xor differ xor xor_shr xor_digit (digit_by differ xor refl refl refl refl) refl

and_digit : (a b : ℕ) → bit_and a b % 2 ≡ min (a % 2) (b % 2)
and_digit a b = omega (arith, and_step a b)

pub bit_of_and : (a b i : ℕ) → bit (bit_and a b) i ≡ (bit a i && bit b i)
bit_of_and = bit_by bit_and min ◌&&◌ and_shr and_digit (digit_by min ◌&&◌ refl refl refl refl) refl

or_digit : (a b : ℕ) → bit_or a b % 2 ≡ max (a % 2) (b % 2)
or_digit a b = omega (arith, or_step a b)

pub bit_of_or : (a b i : ℕ) → bit (bit_or a b) i ≡ (bit a i || bit b i)
bit_of_or = bit_by bit_or max ◌||◌ or_shr or_digit (digit_by max ◌||◌ refl refl refl refl) refl

-- the lower bits of a remainder by a power are the number's own
pub bit_mod : (x n i : ℕ) → i ≤ n → bit (x % 2 ^ n) i ≡ bit x i
unfolding bit
bit_mod x n zero h = refl
bit_mod x n (suc i) h = ap (λ (d : ℕ). eqb d 1) (digit (n - suc i) n (omega arith))
  where
    digit : (j m : ℕ) → m ≡ j + 1 + i → x % 2 ^ m / 2 ^ i % 2 ≡ x / 2 ^ i % 2
    digit j m e = rw e (ap (λ (y : ℕ). y % 2) (field x (j + 1) i) ∙ mod-mod-pow (x / 2 ^ i) j 1)

-- a number below 2^n has no bit above n
pub bit_high : (x n i : ℕ) → x < 2 ^ n → n < i → bit x i ≡ false
unfolding bit
bit_high x n zero h l = refl
bit_high x n (suc i) h l = ap (λ (d : ℕ). eqb (d % 2) 1) (div-eq_of_lt (lt_of_lt_of_le h (pow_mono {i = n} {j = i} (omega arith))))

pub bit_zero : (i : ℕ) → bit 0 i ≡ false
unfolding bit
bit_zero zero = refl
bit_zero (suc i) = ap (λ (d : ℕ). eqb (d % 2) 1) (div-eq_of_lt (pow_pos i))

-- a number with a bit set is not 0
pub bit_pos : (x i : ℕ) → bit x i ≡ true → 0 < x
bit_pos zero i e = absurd (false≢true (sym (bit_zero i) ∙ e))
bit_pos (suc x) i e = omega arith

pub bit_place : (i : ℕ) → bit (place (suc i)) (suc i) ≡ true
unfolding bit place
bit_place i = ap (λ (d : ℕ). eqb (d % 2) 1) (div_self (pow_pos i))

pub bit_place_other : (i j : ℕ) → (j ≡ i → ⊥) → bit (place i) j ≡ false
unfolding place
bit_place_other zero j ne = bit_zero j
bit_place_other (suc i) j ne = ⊎_elim above below (cases_lt i j)
  where
    below : j ≤ i → bit (2 ^ i) j ≡ false
    below h =
        sym (bit_mod (2 ^ i) j j (omega arith))
        ∙ ap (λ (x : ℕ). bit (2 ^ x % 2 ^ j) j) (let e : i ≡ i - j + j = omega arith in e)
        ∙ ap (λ (x : ℕ). bit (x % 2 ^ j) j) (pow-add 2 (i - j) j)
        ∙ ap (λ (x : ℕ). bit x j) (mul-mod_left (2 ^ (i - j)) (2 ^ j))
        ∙ bit_zero j

    above : i < j → bit (2 ^ i) j ≡ false
    above h = bit_high (2 ^ i) (suc i) j (pow-lt {i = i} {j = suc i} (omega arith)) (omega (arith, ne))

-- the weight of a dimension as the machine shifts it
pub place_shift : (i : ℕ) → 1 ≤ i → i ≤ 16 → 1 * 2 ^ (i - 1) % 65536 ≡ place i
unfolding place
place_shift zero l h = absurd (omega arith)
place_shift (suc i) l h =
    ap (λ (x : ℕ). 1 * 2 ^ x % 65536) (let e : suc i - 1 ≡ i = omega arith in e) ∙ one_shl i 16 h

-- crossing changes its own bit
pub bit_flip : (a i : ℕ) → bit (flip a (suc i)) (suc i) ≡ not (bit a (suc i))
unfolding flip xor
bit_flip a i = bit_of_xor a (place (suc i)) (suc i) ∙ ap (xor (bit a (suc i))) (bit_place i) ∙ turn (bit a (suc i))
  where
    turn : (b : Bool) → xor b true ≡ not b
    turn true = refl
    turn false = refl

-- and no other
pub bit_flip_other : (a i j : ℕ) → (j ≡ i → ⊥) → bit (flip a i) j ≡ bit a j
unfolding flip xor
bit_flip_other a i j ne = bit_of_xor a (place i) j ∙ ap (xor (bit a j)) (bit_place_other i j ne) ∙ keep (bit a j)
  where
    keep : (b : Bool) → xor b false ≡ b
    keep true = refl
    keep false = refl

-- a neighbour is a node of the same cube
pub flip_lt : (n a i : ℕ) → a < 2 ^ n → i ≤ n → flip a i < 2 ^ n
unfolding flip place
flip_lt n a zero ha hi = xor_lt n a 0 ha (pow_pos n)
flip_lt n a (suc i) ha hi = xor_lt n a (2 ^ i) ha (pow-lt {i = i} {j = n} hi)

-- crossing as the machine does it
pub flip_next : (a i w : ℕ) → i < w → bit_xor a (1 * 2 ^ i % 2 ^ w) ≡ flip a (suc i)
unfolding flip place
flip_next a i w h = ap (bit_xor a) (one_shl i w h)

-- a bit as the machine tests it
pub bit_shift : (x i : ℕ) → 1 ≤ i → eqb (x / 2 ^ (i - 1) % 2) 1 ≡ bit x i
unfolding bit
bit_shift x zero l = absurd (omega arith)
bit_shift x (suc i) l = ap (λ (j : ℕ). eqb (x / 2 ^ j % 2) 1) (let e : suc i - 1 ≡ i = omega arith in e)

-- within 1 to 10, and at 0, crossing is flipping
pub crossed_flip : (x i : ℕ) → i ≤ 10 → crossed x i ≡ flip x i
unfolding crossed flip place
crossed_flip x zero h = sym (xor_zero_r x)
crossed_flip x (suc i) h = rw (le-leb 1 (suc i) (omega arith), le-leb (suc i) 10 h)

-- below dimension 1 and above 10 nothing is crossed
pub crossed_low : (x i : ℕ) → i < 1 → x ≡ crossed x i
unfolding crossed
crossed_low x i h = simp (lt-leb 1 i h)

pub crossed_high : (x i : ℕ) → 10 < i → x ≡ crossed x i
unfolding crossed
crossed_high x i h = simp (lt-leb i 10 h, and-false)
