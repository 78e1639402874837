-- The laws of a word's lowest bit: without it every rank is one lower, and the zeros below it tell which it is.
use mathlib.Core.Path.{◌≡◌, refl, ap, sym, ◌∙◌}
use mathlib.Core.Bool.{Bool, true, false, cond, ◌&&◌, and-false, and-true, and_self}
use mathlib.Core.Logic.{⊎_elim}
use Prim.Native.Nat.{ℕ, zero, suc, ◌+◌, ◌*◌, ◌-◌, ◌/◌, ◌%◌, ◌^◌, ◌≤◌, ◌<◌}
use native.Mathlib.Nat.{mod-lt, mod-one, eq-zero-or-pos}
use native.Mathlib.Numerals.{add-one, one-add}
use native.Mathlib.Omega.{arith}
use borrow.Author.Tests.{lt-ltb}
use lib.Bits.{bit_and}
use lib.Dec.{eqb, ltb, eqb-zero-suc, eqb-suc-suc}
use lib.Count.{ones, ones_in, under, count_trailing_zeros}
use lib.Pow.{pow_pos, ones_lt, split, high, shr-shr, mod-pow-add}
use Rattle.cube.specs.Bits.{bit, weight}
use Rattle.cube.specs.Count.{one, count, any, ranked}
use Rattle.cube.proofs.Bits.{bit_of_and}
use Rattle.cube.proofs.Count.{any_count, count_mono, weight_count, weight_pos, ranked_found, ranked_none}

-- q is p without the lowest i that has p: those are left that have one below them
abbrev Stripped : (p q : ℕ → Bool) → Type 0
Stripped p q = (i : ℕ) → q (suc i) ≡ (p (suc i) && any p i)

count_stripped : (p q : ℕ → Bool) (n : ℕ) → Stripped p q → count q n ≡ count p n - 1
unfolding count
count_stripped p q zero h = refl
count_stripped p q (suc n) h = rw (h n, any_count p n, count_stripped p q n h) (go (p (suc n)) (count p n))
  where
    go : (b : Bool) (c : ℕ) → c - 1 + one (b && ltb 0 c) ≡ c + one b - 1
    go true zero = refl
    go true (suc c) = rw (lt-ltb 0 (suc c) (omega arith)) (omega arith)
    go false c = omega arith

-- without the lowest every rank is one lower
ranked_stripped : (p q : ℕ → Bool) (r n : ℕ) → Stripped p q → ranked q r n ≡ ranked p (suc r) n
unfolding ranked
ranked_stripped p q r zero h = refl
ranked_stripped p q r (suc n) h = rw (h n, any_count p n, count_stripped p q n h, ranked_stripped p q r n h) (go (p (suc n)) (count p n))
  where
    go : (b : Bool) (c : ℕ)
        → cond ((b && ltb 0 c) && eqb (c - 1) r) (suc n) (ranked p (suc r) n) ≡ cond (b && eqb c (suc r)) (suc n) (ranked p (suc r) n)
    go true zero = rw (eqb-zero-suc r)
    go true (suc c) = let e : suc c - 1 ≡ c = omega arith in rw (lt-ltb 0 (suc c) (omega arith), eqb-suc-suc c r, e)
    go false c = refl

-- where the first n digits are 0 no bit up to n is set
count_zero : (x n : ℕ) → x % 2 ^ n ≡ 0 → count (bit x) n ≡ 0
unfolding ones ones_in
count_zero x n e = sym (weight_count x n) ∙ ap weight e

-- of two numbers in a row one is even
one_even : (q : ℕ) → (eqb (suc q % 2) 1 && eqb (q % 2) 1) ≡ false
one_even q = go (suc q % 2) (q % 2) (omega arith)
  where
    go : (d e : ℕ) → d + e ≡ 1 → (eqb d 1 && eqb e 1) ≡ false
    go zero e h = refl
    go (suc zero) zero h = refl
    go (suc zero) (suc e) h = absurd (omega arith)
    go (suc (suc d)) e h = absurd (omega arith)

-- a word and the number before it have every bit of the word in common but the lowest
bit_strip : (x : ℕ) → Stripped (bit x) (bit (bit_and x (x - 1)))
unfolding bit
bit_strip x i = bit_of_and x (x - 1) (suc i) ∙ ⊎_elim first later (eq-zero-or-pos (x % 2 ^ i))
  where
    Same : Type 0
    Same = (bit x (suc i) && bit (x - 1) (suc i)) ≡ (bit x (suc i) && any (bit x) i)

    borrowed : (q : ℕ) → x ≡ q * 2 ^ i → (eqb (q % 2) 1 && eqb ((x - 1) / 2 ^ i % 2) 1) ≡ false
    borrowed zero e = refl
    borrowed (suc q) e =
        let less : x - 1 ≡ q * 2 ^ i + (2 ^ i - 1) = omega (arith, e, pow_pos i) in
        rw (less, high q i (ones_lt i)) (one_even q)

    first : x % 2 ^ i ≡ 0 → Same
    first e = borrowed (x / 2 ^ i) (omega (arith, split x i)) ∙ sym (rw (any_count (bit x) i, count_zero x i e) (and-false (bit x (suc i))))

    later : 0 < x % 2 ^ i → Same
    later l =
        let less : x - 1 ≡ x / 2 ^ i * 2 ^ i + (x % 2 ^ i - 1) = omega (arith, split x i) in
        let same : (x - 1) / 2 ^ i ≡ x / 2 ^ i = ap (λ (y : ℕ). y / 2 ^ i) less ∙ high (x / 2 ^ i) i (omega (arith, mod-lt x (pow_pos i))) in
        rw (same, any_count (bit x) i, sym (weight_count x i), lt-ltb 0 (weight (x % 2 ^ i)) (weight_pos i (x % 2 ^ i) (mod-lt x (pow_pos i)) l))
        (and_self (bit x (suc i)) ∙ sym (and-true (bit x (suc i))))

-- as a loop strips it that has r to go, and then j
pub ranked_strip : (x r j n : ℕ) → r ≡ suc j → ranked (bit (bit_and x (x - 1))) j n ≡ ranked (bit x) r n
ranked_strip x r j n e = rw e (ranked_stripped (bit x) (bit (bit_and x (x - 1))) j n (bit_strip x))

-- ---- the zeros below it

-- as many digits are 0, and the next is not
trailing : (w x : ℕ) → (x % 2 ^ count_trailing_zeros w x ≡ 0) × (count_trailing_zeros w x < w → x / 2 ^ count_trailing_zeros w x % 2 ≡ 1)
unfolding count_trailing_zeros
trailing zero x = (mod-one x, λ h. absurd (omega arith))
trailing (suc w) x = go (x % 2) (count_trailing_zeros w (x / 2)) refl (trailing w (x / 2))
  where
    go : (d t : ℕ) → x % 2 ≡ d → (x / 2 % 2 ^ t ≡ 0) × (t < w → x / 2 / 2 ^ t % 2 ≡ 1)
        → (x % 2 ^ under d t ≡ 0) × (under d t < suc w → x / 2 ^ under d t % 2 ≡ 1)
    go zero t e (clear, set) = (rw (sym (add-one t)) (omega (arith, mod-pow-add x t 1)), λ h. rw (sym (one-add t), sym (shr-shr x 1 t)) (set (omega arith)))
    go (suc d) t e rest = (mod-one x, λ h. omega arith)

count_below : (w x : ℕ) → count (bit x) (count_trailing_zeros w x) ≡ 0
count_below w x = count_zero x (count_trailing_zeros w x) (trailing w x).0

-- rank 0 is the lowest of a word of w bits
pub lowest : (w x r n : ℕ) → r ≡ 0 → count_trailing_zeros w x < n → n ≤ w → ranked (bit x) r n ≡ count_trailing_zeros w x + 1
unfolding bit
lowest w x r n e h l =
    rw (e, add-one) (ranked_found (bit x) 0 n (count_trailing_zeros w x) h (ap (λ (d : ℕ). eqb d 1) ((trailing w x).1 (omega arith))) (count_below w x))

-- where it lies past n there is none of any rank
pub lowest_none : (w x r n : ℕ) → n ≤ count_trailing_zeros w x → ranked (bit x) r n ≡ 0
lowest_none w x r n h = ranked_none (bit x) r n (omega (arith, count_mono (bit x) n (count_trailing_zeros w x) h, count_below w x))
