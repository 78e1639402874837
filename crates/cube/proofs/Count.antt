-- The laws of `pack`, `count`, `any`, `ranked` and `weight`. "For i from 1 to n" is said of `suc i` with i below n.
use mathlib.Core.Path.{◌≡◌, refl, ap, ap₂, sym, ◌∙◌}
use mathlib.Core.Bool.{Bool, true, false, not, cond, ◌&&◌, ◌||◌, and-false, and_comm, or-true, or-false, true≢false, false≢true}
use mathlib.Core.Logic.{⊎_elim}
use Prim.Native.Nat.{ℕ, zero, suc, ◌+◌, ◌*◌, ◌-◌, ◌/◌, ◌%◌, ◌^◌, ◌≤◌, ◌<◌}
use native.Mathlib.Nat.{mod-eq_of_lt, mod-one, mod-lt, le_trans, le_of_eq, lt_of_le_of_lt, add-zero, eq-zero-or-pos, pow-succ', add-mul, mul_assoc}
use native.Mathlib.Numerals.{add-one, one-add}
use native.Mathlib.Omega.{arith}
use borrow.Author.Tests.{lt-ltb, eq-eqb, ne_eqb, eqb-true, eqb-false}
use lib.Bits.{bit_xor, bit_and, and_le_l, xor_comm, xor_assoc, xor_self, xor_zero_r}
use lib.Dec.{eqb, ltb}
use lib.Count.{ones, ones_cat}
use lib.Pow.{pow_pos, pow-lt, high, low, mod-pow-add}
use Rattle.cube.specs.Bits.{bit, place, flip, weight}
use Rattle.cube.specs.Count.{one, pack, count, any, ranked}
use Rattle.std.proofs.lemmas.Bool.{cases_lt, cases_eq}
use Rattle.cube.proofs.Bits.{bit_of_and, bit_shift, bit_zero, bit_mod, bit_high, bit_flip, bit_flip_other, flip_lt}

pub one_le : (b : Bool) → one b ≤ 1
one_le true = omega arith
one_le false = omega arith

-- a digit by whether it is 1
pub one_eqb : (d : ℕ) → d < 2 → one (eqb d 1) ≡ d
one_eqb zero h = refl
one_eqb (suc zero) h = refl
one_eqb (suc (suc d)) h = absurd (omega arith)

-- and what it is of, by that test
pub one_is : (b : Bool) → eqb (one b) 1 ≡ b
one_is true = refl
one_is false = refl

-- a bit as a number, as the machine takes it
pub one_bit : (x i : ℕ) → 1 ≤ i → x / 2 ^ (i - 1) % 2 ≡ one (bit x i)
one_bit x i l = sym (one_eqb (x / 2 ^ (i - 1) % 2) (omega arith)) ∙ ap one (bit_shift x i l)

pub one_bit_next : (x i : ℕ) → x / 2 ^ i % 2 ≡ one (bit x (i + 1))
one_bit_next x i = ap (λ (j : ℕ). x / 2 ^ j % 2) (let e : i ≡ i + 1 - 1 = omega arith in e) ∙ one_bit x (i + 1) (omega arith)

-- a digit or nothing is at most 1
pub unless_le : (m x : ℕ) → x ≤ 1 → (1 - m) * x ≤ 1
unless_le m zero h = omega arith
unless_le m (suc zero) h = omega arith
unless_le m (suc (suc x)) h = absurd (omega arith)

-- a bit, but 0 where another is set
pub one_unless : (m b : Bool) → (1 - one m) * one b ≡ one (not m && b)
one_unless true true = refl
one_unless true false = refl
one_unless false true = refl
one_unless false false = refl

eqb_one : (b : Bool) → eqb (one b % 2) 1 ≡ b
eqb_one true = refl
eqb_one false = refl

one_times : (b : Bool) (x : ℕ) → one b * x ≤ x
one_times true x = omega arith
one_times false x = omega arith

-- a bit as the machine shifts it to place k, in a word of w bits
pub one_shift : (b : Bool) (k w : ℕ) → k < w → one b * 2 ^ k % 2 ^ w ≡ one b * 2 ^ k
one_shift b k w h = mod-eq_of_lt (lt_of_le_of_lt (one_times b (2 ^ k)) (pow-lt {i = k} {j = w} h))

-- ---- pack

pub pack_lt : (p : ℕ → Bool) (n : ℕ) → pack p n < 2 ^ n
unfolding pack
pack_lt p zero = omega arith
pack_lt p (suc n) = omega (arith, pack_lt p n, one_times (p (suc n)) (2 ^ n), pow-succ' 2 n)

pub pack_cong : (p q : ℕ → Bool) (n : ℕ) → ((i : ℕ) → i < n → p (suc i) ≡ q (suc i)) → pack p n ≡ pack q n
unfolding pack
pack_cong p q zero h = refl
pack_cong p q (suc n) h = ap₂ (λ (x : ℕ) (b : Bool). x + one b * 2 ^ n) (pack_cong p q n (λ i l. h i (omega arith))) (h n (omega arith))

-- A mask that a loop packs from dimension n down to dimension i + 1: what is to come below it makes up the word.
abbrev pub PackedTo : (ℕ → Bool) → ℕ → ℕ → ℕ → Type 0
PackedTo p n i mask = pack p n ≡ pack p i + mask * 2 ^ i

-- one dimension more
pub packed_more : (p : ℕ → Bool) (n i mask x : ℕ) → 0 < i → PackedTo p n i mask → x ≡ one (p (suc (i - 1))) → PackedTo p n (i - 1) (mask * 2 + x)
unfolding pack
packed_more p n zero mask x h e d = absurd (omega arith)
packed_more p n (suc i) mask x h e d =
    let j : suc i - 1 ≡ i = omega arith in
    let digit : pack p (suc i) ≡ pack p i + x * 2 ^ i = ap (λ (y : ℕ). pack p i + y * 2 ^ i) (sym (rw j at d)) in
    let twice : mask * 2 ^ suc i ≡ mask * (2 * 2 ^ i) = ap (λ (y : ℕ). mask * y) (let t : 2 ^ suc i ≡ 2 * 2 ^ i = omega arith in t) in
    rw (j, add-mul (mask * 2) x (2 ^ i), mul_assoc mask 2 (2 ^ i)) (omega (arith, e, digit, twice))

pub packed_all : (p : ℕ → Bool) (n mask : ℕ) → PackedTo p n 0 mask → mask ≡ pack p n
unfolding pack
packed_all p n mask e = omega arith

-- the bits of a packed word
pub bit_pack : (p : ℕ → Bool) (n i : ℕ) → i < n → bit (pack p n) (suc i) ≡ p (suc i)
unfolding pack bit
bit_pack p zero i h = absurd (omega arith)
bit_pack p (suc n) i h = ⊎_elim (λ (l : i < n). lower l (bit_pack p n i l)) top (cases_lt i n)
  where
    swap : pack p n + one (p (suc n)) * 2 ^ n ≡ one (p (suc n)) * 2 ^ n + pack p n
    swap = omega arith

    lower : i < n → bit (pack p n) (suc i) ≡ p (suc i) → bit (pack p n + one (p (suc n)) * 2 ^ n) (suc i) ≡ p (suc i)
    lower l e =
        sym (bit_mod (pack p n + one (p (suc n)) * 2 ^ n) n (suc i) l)
        ∙ ap (λ (x : ℕ). bit x (suc i)) (ap (λ (x : ℕ). x % 2 ^ n) swap ∙ low (one (p (suc n))) n (pack_lt p n))
        ∙ e

    top : n ≤ i → bit (pack p n + one (p (suc n)) * 2 ^ n) (suc i) ≡ p (suc i)
    top l =
        let e : i ≡ n = omega arith in
        rw e (ap (λ (x : ℕ). eqb (x % 2) 1) (ap (λ (x : ℕ). x / 2 ^ n) swap ∙ high (one (p (suc n))) n (pack_lt p n)) ∙ eqb_one (p (suc n)))

-- the word with the bits of x is x below 2^n
pub pack_bit : (x n : ℕ) → pack (bit x) n ≡ x % 2 ^ n
unfolding pack bit
pack_bit x zero = sym (mod-one x)
pack_bit x (suc n) =
    omega (
      arith,
      pack_bit x n,
      mod-pow-add x 1 n,
      ap (λ (k : ℕ). x % 2 ^ k) (one-add n),
      ap (λ (d : ℕ). d * 2 ^ n) (one_eqb (x / 2 ^ n % 2) (omega arith)),
    )

pub pack_own : (x n : ℕ) → x < 2 ^ n → pack (bit x) n ≡ x
pack_own x n h = pack_bit x n ∙ mod-eq_of_lt h

-- two words below 2^n with the same bits are equal
pub bit_ext : (x y n : ℕ) → x < 2 ^ n → y < 2 ^ n → ((i : ℕ) → i < n → bit x (suc i) ≡ bit y (suc i)) → x ≡ y
bit_ext x y n hx hy h = sym (pack_own x n hx) ∙ pack_cong (bit x) (bit y) n h ∙ pack_own y n hy

-- the word with those bits that another word has too
pub pack_and : (p : ℕ → Bool) (x n : ℕ) → bit_and (pack p n) x ≡ pack (λ i. bit x i && p i) n
pack_and p x n =
    bit_ext (bit_and (pack p n) x) (pack (λ i. bit x i && p i) n) n (lt_of_le_of_lt (and_le_l (pack p n) x) (pack_lt p n)) (pack_lt (λ i. bit x i && p i) n)
    (λ i l. bit_of_and (pack p n) x (suc i) ∙ ap (λ (b : Bool). b && bit x (suc i)) (bit_pack p n i l) ∙ and_comm (p (suc i)) (bit x (suc i)) ∙ sym (bit_pack (λ i. bit x i && p i) n i l))

-- the word with the other bits
pub pack_not : (p : ℕ → Bool) (n : ℕ) → pack p n + pack (λ i. not (p i)) n ≡ 2 ^ n - 1
unfolding pack
pack_not p zero = refl
pack_not p (suc n) = omega (arith, pack_not p n, shared (p (suc n)), pow_pos n)
  where
    shared : (b : Bool) → one b * 2 ^ n + one (not b) * 2 ^ n ≡ 2 ^ n
    shared true = omega arith
    shared false = omega arith

-- a packed word is 0 exactly where no bit is set
pub pack_zero : (p : ℕ → Bool) (n : ℕ) → ((i : ℕ) → i < n → p (suc i) ≡ false) → pack p n ≡ 0
unfolding pack
pack_zero p zero h = refl
pack_zero p (suc n) h = ap₂ (λ (x : ℕ) (b : Bool). x + one b * 2 ^ n) (pack_zero p n (λ i l. h i (omega arith))) (h n (omega arith)) ∙ let z : 0 + 0 * 2 ^ n ≡ 0 = omega arith in z

pub pack_none : (p : ℕ → Bool) (n : ℕ) → pack p n ≡ 0 → (i : ℕ) → i < n → p (suc i) ≡ false
pack_none p n e i h = sym (bit_pack p n i h) ∙ ap (λ (x : ℕ). bit x (suc i)) e ∙ bit_zero (suc i)

pub pack_some : (p : ℕ → Bool) (n i : ℕ) → i < n → p (suc i) ≡ true → 0 < pack p n
pack_some p n i h e = ⊎_elim (λ (z : pack p n ≡ 0). absurd (true≢false (sym e ∙ pack_none p n z i h))) (λ l. l) (eq-zero-or-pos (pack p n))

-- what holds of each i from 1 to n with p holds of each bit that is set
pub pack_each : (p : ℕ → Bool) (n : ℕ) (P : ℕ → Type 0) → ((j : ℕ) → j < n → p (suc j) ≡ true → P (suc j))
    → (i : ℕ) → bit (pack p n) i ≡ true → P i
unfolding bit
pack_each p n P each zero e = absurd (false≢true e)
pack_each p n P each (suc j) e =
    ⊎_elim (λ (l : j < n). each j l (sym (bit_pack p n j l) ∙ e))
    (λ (l : n ≤ j). absurd (false≢true (sym (bit_high (pack p n) n (suc j) (pack_lt p n) (omega arith)) ∙ e)))
    (cases_lt j n)

-- a packed word that is not 0 has a bit set
pub pack_find : (p : ℕ → Bool) (n : ℕ) → 0 < pack p n → (i : ℕ) × (i < n) × (p (suc i) ≡ true)
unfolding pack
pack_find p zero h = absurd (omega arith)
pack_find p (suc n) h = go (p (suc n)) refl (pack_find p n)
  where
    Found : ℕ → Type 0
    Found m = (i : ℕ) × (i < m) × (p (suc i) ≡ true)

    more : Found n → Found (suc n)
    more (i, l, e) = (i, omega arith, e)

    go : (b : Bool) → p (suc n) ≡ b → (0 < pack p n → Found n) → Found (suc n)
    go true e rest = (n, omega arith, e)
    go false e rest = more (rest (omega (arith, ap (λ (b : Bool). one b * 2 ^ n) e)))

-- ---- count

pub count_cong : (p q : ℕ → Bool) (n : ℕ) → ((i : ℕ) → i < n → p (suc i) ≡ q (suc i)) → count p n ≡ count q n
unfolding count
count_cong p q zero h = refl
count_cong p q (suc n) h = ap₂ (λ (x : ℕ) (b : Bool). x + one b) (count_cong p q n (λ i l. h i (omega arith))) (h n (omega arith))

pub count_le : (p : ℕ → Bool) (n : ℕ) → count p n ≤ n
unfolding count
count_le p zero = omega arith
count_le p (suc n) = omega (arith, count_le p n, one_le (p (suc n)))

-- one dimension more, as a loop counts it
pub count_more : (p : ℕ → Bool) (i s x : ℕ) → s ≡ count p i → x ≡ one (p (suc i)) → s + x ≡ count p (i + 1)
unfolding count
count_more p i s x e d = rw add-one (ap₂ ◌+◌ e d)

one_not : (b : Bool) → one b + one (not b) ≡ 1
one_not true = refl
one_not false = refl

pub count_not : (p : ℕ → Bool) (n : ℕ) → count p n + count (λ i. not (p i)) n ≡ n
unfolding count
count_not p zero = refl
count_not p (suc n) = omega (arith, count_not p n, one_not (p (suc n)))

one_none : (b : Bool) → one b ≡ 0 → b ≡ false
one_none true e = absurd (omega arith)
one_none false e = refl

-- where the count is 0 no i has p
pub count_none : (p : ℕ → Bool) (n : ℕ) → count p n ≡ 0 → (i : ℕ) → i < n → p (suc i) ≡ false
unfolding count
count_none p zero e i h = absurd (omega arith)
count_none p (suc n) e i h = ⊎_elim (λ (l : i < n). count_none p n (omega arith) i l) last (cases_lt i n)
  where
    last : n ≤ i → p (suc i) ≡ false
    last l = let same : i ≡ n = omega arith in rw same (one_none (p (suc n)) (omega arith))

-- some i has p exactly where the count is not 0
pub any_count : (p : ℕ → Bool) (n : ℕ) → any p n ≡ ltb 0 (count p n)
unfolding any count
any_count p zero = refl
any_count p (suc n) = go (any_count p n) (p (suc n))
  where
    go : any p n ≡ ltb 0 (count p n) → (b : Bool) → (any p n || b) ≡ ltb 0 (count p n + one b)
    go ih true = or-true (any p n) ∙ sym (lt-ltb 0 (count p n + 1) (omega arith))
    go ih false = or-false (any p n) ∙ ih ∙ ap (ltb 0) (sym (add-zero (count p n)))

-- of two sets of dimensions that together count more than n, some dimension is in both
pub both : (p q : ℕ → Bool) (n : ℕ) → n < count p n + count q n → (i : ℕ) × (i < n) × (p (suc i) ≡ true) × (q (suc i) ≡ true)
unfolding count
both p q zero h = absurd (omega arith)
both p q (suc n) h = go (p (suc n)) (q (suc n)) refl refl (both p q n)
  where
    Found : ℕ → Type 0
    Found m = (i : ℕ) × (i < m) × (p (suc i) ≡ true) × (q (suc i) ≡ true)

    more : Found n → Found (suc n)
    more (i, l, u, v) = (i, omega arith, u, v)

    go : (a b : Bool) → p (suc n) ≡ a → q (suc n) ≡ b → (n < count p n + count q n → Found n) → Found (suc n)
    go true true u v rest = (n, omega arith, u, v)
    go true false u v rest = more (rest (omega (arith, ap one u, ap one v)))
    go false true u v rest = more (rest (omega (arith, ap one u, ap one v)))
    go false false u v rest = more (rest (omega (arith, ap one u, ap one v)))

-- one dimension less
pub count_drop : (p q : ℕ → Bool) (n i : ℕ) → i < n → p (suc i) ≡ true → q (suc i) ≡ false
    → ((j : ℕ) → (j ≡ i → ⊥) → p (suc j) ≡ q (suc j)) → count p n ≡ suc (count q n)
unfolding count
count_drop p q zero i h ep eq same = absurd (omega arith)
count_drop p q (suc n) i h ep eq same = ⊎_elim last (λ (ne : n ≡ i → ⊥). earlier ne (count_drop p q n i (omega (arith, ne)) ep eq same)) (cases_eq n i)
  where
    last : n ≡ i → count p n + one (p (suc n)) ≡ suc (count q n + one (q (suc n)))
    last e =
        omega (
          arith,
          count_cong p q n (λ j l. same j (λ w. omega arith)),
          ap one (ap (λ (j : ℕ). p (suc j)) e ∙ ep),
          ap one (ap (λ (j : ℕ). q (suc j)) e ∙ eq),
        )

    earlier : (n ≡ i → ⊥) → count p n ≡ suc (count q n) → count p n + one (p (suc n)) ≡ suc (count q n + one (q (suc n)))
    earlier ne ih = omega (arith, ap one (same n ne))

-- more dimensions count no less
pub count_mono : (p : ℕ → Bool) (i n : ℕ) → i ≤ n → count p i ≤ count p n
unfolding count
count_mono p i zero h = le_of_eq (ap (count p) (let e : i ≡ 0 = omega arith in e))
count_mono p i (suc n) h =
    ⊎_elim (λ (l : i < suc n). le_trans (count_mono p i n (omega arith)) (omega arith))
    (λ (l : suc n ≤ i). le_of_eq (ap (count p) (let e : i ≡ suc n = omega arith in e))) (cases_lt i (suc n))

-- ---- ranked

pub ranked_le : (p : ℕ → Bool) (r n : ℕ) → ranked p r n ≤ n
unfolding ranked
ranked_le p r zero = omega arith
ranked_le p r (suc n) = go (p (suc n) && eqb (count p n) r) (ranked_le p r n)
  where
    go : (b : Bool) → ranked p r n ≤ n → cond b (suc n) (ranked p r n) ≤ suc n
    go true h = omega arith
    go false h = omega arith

-- the dimension that has r others below it
pub ranked_found : (p : ℕ → Bool) (r n i : ℕ) → i < n → p (suc i) ≡ true → count p i ≡ r → ranked p r n ≡ suc i
unfolding ranked count
ranked_found p r zero i h e k = absurd (omega arith)
ranked_found p r (suc n) i h e k = ⊎_elim (λ (l : i < n). lower l (ranked_found p r n i l e k)) top (cases_lt i n)
  where
    top : n ≤ i → cond (p (suc n) && eqb (count p n) r) (suc n) (ranked p r n) ≡ suc i
    top l = let s : i ≡ n = omega arith in rw (sym s, e, eq-eqb (count p i) r k)

    lower : i < n → ranked p r n ≡ suc i → cond (p (suc n) && eqb (count p n) r) (suc n) (ranked p r n) ≡ suc i
    lower l ih = rw (ne_eqb (count p n) r (λ (w : count p n ≡ r). omega (arith, count_mono p (suc i) n l, ap one e)), and-false) ih

-- with no more than r of them there is none
pub ranked_none : (p : ℕ → Bool) (r n : ℕ) → count p n ≤ r → ranked p r n ≡ 0
unfolding ranked count
ranked_none p r zero h = refl
ranked_none p r (suc n) h = go (p (suc n)) refl (ranked_none p r n (omega arith))
  where
    go : (b : Bool) → p (suc n) ≡ b → ranked p r n ≡ 0 → cond (b && eqb (count p n) r) (suc n) (ranked p r n) ≡ 0
    go true e ih = rw (ne_eqb (count p n) r (λ (w : count p n ≡ r). omega (arith, ap one e))) ih
    go false e ih = ih

-- with more than r of them it is one of them
pub ranked_in : (p : ℕ → Bool) (r n : ℕ) → r < count p n → p (ranked p r n) ≡ true
unfolding ranked count
ranked_in p r zero h = absurd (omega arith)
ranked_in p r (suc n) h = go (p (suc n)) (eqb (count p n) r) refl refl (ranked_in p r n)
  where
    go : (b t : Bool) → p (suc n) ≡ b → eqb (count p n) r ≡ t → (r < count p n → p (ranked p r n) ≡ true)
        → p (cond (b && t) (suc n) (ranked p r n)) ≡ true
    go true true e k rest = e
    go true false e k rest = rest (omega (arith, ap one e, eqb-false (count p n) r k))
    go false t e k rest = rest (omega (arith, ap one e))

-- ---- weight

ones_digit : (d : ℕ) → d < 2 → ones d ≡ one (eqb d 1)
unfolding ones
ones_digit zero h = refl
ones_digit (suc zero) h = refl
ones_digit (suc (suc d)) h = absurd (omega arith)

pub weight_count : (x n : ℕ) → weight (x % 2 ^ n) ≡ count (bit x) n
unfolding bit count ones
weight_count x zero = ap ones (mod-one x)
weight_count x (suc n) =
    ap ones (ap (λ (k : ℕ). x % 2 ^ k) (sym (one-add n)) ∙ mod-pow-add x 1 n)
    ∙ ones_cat n (x / 2 ^ n % 2) (x % 2 ^ n) (mod-lt x (pow_pos n))
    ∙ omega (arith, weight_count x n, ones_digit (x / 2 ^ n % 2) (omega arith))

-- the weight of a number below 2^n
pub weight_below : (n x : ℕ) → x < 2 ^ n → weight x ≡ count (bit x) n
weight_below n x h = ap weight (sym (mod-eq_of_lt h)) ∙ weight_count x n

pub weight_le : (n x : ℕ) → x < 2 ^ n → weight x ≤ n
weight_le n x h = omega (arith, weight_below n x h, count_le (bit x) n)

elsewhere : (x i j : ℕ) → (j ≡ i → ⊥) → bit (flip x (suc i)) (suc j) ≡ bit x (suc j)
elsewhere x i j ne = bit_flip_other x (suc i) (suc j) (λ e. ne (omega arith))

-- crossing a dimension that is set makes it one less
pub weight_off : (n x i : ℕ) → x < 2 ^ n → i < n → bit x (suc i) ≡ true → weight x ≡ suc (weight (flip x (suc i)))
weight_off n x i hx hi e =
    weight_below n x hx
    ∙ count_drop (bit x) (bit (flip x (suc i))) n i hi e (bit_flip x i ∙ ap not e) (λ j ne. sym (elsewhere x i j ne))
    ∙ ap suc (sym (weight_below n (flip x (suc i)) (flip_lt n x (suc i) hx hi)))

-- crossing one that isn't makes it one more
pub weight_on : (n x i : ℕ) → x < 2 ^ n → i < n → bit x (suc i) ≡ false → weight (flip x (suc i)) ≡ suc (weight x)
weight_on n x i hx hi e =
    weight_below n (flip x (suc i)) (flip_lt n x (suc i) hx hi)
    ∙ count_drop (bit (flip x (suc i))) (bit x) n i hi (bit_flip x i ∙ ap not e) e (elsewhere x i)
    ∙ ap suc (sym (weight_below n x hx))

-- only 0 weighs nothing
pub weight_zero : (n x : ℕ) → x < 2 ^ n → weight x ≡ 0 → x ≡ 0
weight_zero n x hx e = bit_ext x 0 n hx (pow_pos n) (λ i l. count_none (bit x) n (sym (weight_below n x hx) ∙ e) i l ∙ sym (bit_zero (suc i)))

pub weight_pos : (n x : ℕ) → x < 2 ^ n → 0 < x → 0 < weight x
weight_pos n x hx h = ⊎_elim (λ (z : weight x ≡ 0). absurd (omega (arith, weight_zero n x hx z))) (λ l. l) (eq-zero-or-pos (weight x))

-- the weight by the test that a relative address is 0
pub weight_none : (x : ℕ) → eqb x 0 ≡ true → weight x ≡ 0
unfolding ones
weight_none x e = ap weight (eqb-true x 0 e)

pub weight_some : (n x : ℕ) → x < 2 ^ n → eqb x 0 ≡ false → 0 < weight x
weight_some n x h e = weight_pos n x h (omega (arith, eqb-false x 0 e))

-- ---- relative addresses

-- a node with its relative address names the destination, and with the destination its relative address
pub xor_twice : (a x : ℕ) → bit_xor a (bit_xor a x) ≡ x
xor_twice a x = sym (xor_assoc a a x) ∙ ap (λ (y : ℕ). bit_xor y x) (xor_self a)

-- crossing a dimension twice goes back
pub flip_twice : (a i : ℕ) → flip (flip a i) i ≡ a
unfolding flip
flip_twice a i = xor_assoc a (place i) (place i) ∙ ap (bit_xor a) (xor_self (place i)) ∙ xor_zero_r a

-- a node and its relative address, both with one dimension crossed, name the same destination
pub xor_crossed : (a r i : ℕ) → bit_xor (flip a i) (flip r i) ≡ bit_xor a r
unfolding flip
xor_crossed a r i = xor_assoc a (place i) (flip r i) ∙ ap (bit_xor a) (xor_comm (place i) (flip r i) ∙ flip_twice r i)
