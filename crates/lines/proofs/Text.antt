-- The laws of numbers and lines as bytes: which digits a number has, and how long each text is.
use mathlib.Core.Path.{◌≡◌, refl, ap, sym, ◌∙◌}
use mathlib.Core.Bool.{Bool, true, false, cond}
use mathlib.Core.List.{List, [], ◌∷◌, ◌++◌}
use mathlib.Core.Logic.{⊎_elim}
use Prim.Native.Nat.{ℕ, zero, suc, ◌+◌, ◌-◌, ◌*◌, ◌/◌, ◌%◌, ◌^◌, ◌≤◌, ◌<◌}
use native.Mathlib.Nat.{pow-le-pow_right, eq-or-lt_of_le}
use native.Mathlib.Numerals.{add-one}
use native.Mathlib.Omega.{arith, by_contra}
use borrow.Author.Tests.{lt-ltb, le-ltb, ltb-false}
use lib.Dec.{ltb}
use lib.ListN.{length, length-append}
use Rattle.io.specs.Digits.{last_digits, hex_digit_ascii, IsDigitCount}
use Rattle.lines.specs.Text.{tens, decimal, valued, titled, joined}

-- ---- numbers

tens_mono : (i j : ℕ) → i ≤ j → 10 ^ i ≤ 10 ^ j
tens_mono i j h = pow-le-pow_right {n = 10} (omega arith) {i = i} {j = j} h

tens_fewest : (m n k : ℕ) → k ≤ m → n < 10 ^ suc k → (0 < k → 10 ^ k ≤ n) → tens m n ≡ k
unfolding tens
tens_fewest zero n k h below above = omega arith
tens_fewest (suc m) n k h below above =
    ⊎_elim
    (λ (e : k ≡ suc m). rw (le-ltb n (10 ^ suc m) (rw (← e) (above (omega arith)))) (sym e))
    (λ (l : k < suc m). rw (lt-ltb n (10 ^ suc m) (omega (arith, tens_mono (suc k) (suc m) l))) (tens_fewest m n k (omega arith) below above))
    (eq-or-lt_of_le h)

-- the fewest digits that hold a number are those of `decimal`
pub decimal_fewest : (n k : ℕ) → n < 10 ^ 20 → IsDigitCount 10 1 n k → last_digits 10 k n ≡ decimal n
unfolding decimal
decimal_fewest n zero h f = absurd (omega (arith, f.0))
decimal_fewest n (suc k) h f = ap (λ (j : ℕ). last_digits 10 (suc j) n) (sym (tens_fewest 19 n k few f.1 above))
  where
    above : 0 < k → 10 ^ k ≤ n
    above l = let e : suc k - 1 ≡ k = omega arith in rw e at (f.2 (omega arith))

    few : k ≤ 19
    few = by_contra k 19 (λ l. omega (arith, above (omega arith), tens_mono 20 k l))

length_digits : (k n : ℕ) → length (last_digits 10 k n) ≡ k
length_digits zero n = refl
length_digits (suc k) n = length-append (last_digits 10 k (n / 10)) (hex_digit_ascii (n % 10) ∷ []) ∙ ap (λ (j : ℕ). j + 1) (length_digits k (n / 10)) ∙ add-one k

tens_le : (m n k : ℕ) → n < 10 ^ suc k → tens m n ≤ k
unfolding tens
tens_le zero n k h = omega arith
tens_le (suc m) n k h = go (ltb n (10 ^ suc m)) refl (tens_le m n k h)
  where
    go : (b : Bool) → ltb n (10 ^ suc m) ≡ b → tens m n ≤ k → cond b (tens m n) (suc m) ≤ k
    go true e below = below
    go false e below = by_contra (suc m) k (λ l. omega (arith, ltb-false n (10 ^ suc m) e, tens_mono (suc k) (suc m) l))

-- a number below 10^k has at most k digits, and one at least
pub length_decimal : (n k : ℕ) → n < 10 ^ suc k → length (decimal n) ≤ suc k
unfolding decimal
length_decimal n k h = omega (arith, length_digits (suc (tens 19 n)) n, tens_le 19 n k h)

-- ---- lines

pub length_titled : (word : List ℕ) (m k : ℕ) → m < 10 ^ suc k → length (titled word m) ≤ length word + (k + 3)
unfolding titled valued
length_titled word m k h = simp length-append (omega (arith, length_decimal m k h))

-- ---- texts one after the other

pub joined_next : (f : ℕ → List ℕ) (k : ℕ) → joined f (k + 1) ≡ joined f k ++ f k
unfolding joined
joined_next f k = rw add-one

pub joined_cong : (f g : ℕ → List ℕ) (k : ℕ) → ((i : ℕ) → i < k → f i ≡ g i) → joined f k ≡ joined g k
unfolding joined
joined_cong f g zero h = refl
joined_cong f g (suc k) h = rw (joined_cong f g k (λ i l. h i (omega arith)), h k (omega arith))

-- texts of at most w bytes each
pub length_joined : (f : ℕ → List ℕ) (w k : ℕ) → ((i : ℕ) → i < k → length (f i) ≤ w) → length (joined f k) ≤ w * k
unfolding joined
length_joined f w zero h = omega arith
length_joined f w (suc k) h = omega (arith, length-append (joined f k) (f k), length_joined f w k (λ i l. h i (omega arith)), h k (omega arith))
