-- The laws of what a report says of its boards and links.
use mathlib.Core.Path.{◌≡◌, refl, ap, ap₂, sym, ◌∙◌}
use mathlib.Core.Bool.{true, false, ◌&&◌, ◌||◌, and-false, or_comm, and-eq-true_iff}
use mathlib.Core.List.{List, [], ◌∷◌}
use mathlib.Core.Logic.{⊎_elim}
use Prim.Native.Nat.{ℕ, zero, suc, min, ◌^◌, ◌≤◌, ◌<◌}
use native.Mathlib.Nat.{lt_of_lt_of_le}
use native.Mathlib.Omega.{arith}
use borrow.Author.Tests.{lt-ltb, le-ltb, leb-true, ltb-true}
use lib.Bits.{bit_or, or_lt}
use lib.Dec.{leb, ltb}
use lib.Pow.{pow_mono, pow_pos}
use lib.ListN.{length, get_or, get_or-eq_default}
use Rattle.std.specs.List.{list_all}
use Rattle.cube.specs.Bits.{bit, flip}
use Rattle.cube.specs.Count.{pack}
use Rattle.cube.proofs.Bits.{bit_zero, bit_of_or}
use Rattle.cube.proofs.Count.{pack_own, pack_cong, bit_pack, flip_twice}
use Rattle.std.proofs.lemmas.Bool.{cases_lt}
use Rattle.report.specs.Class.{class_of, is_working}
use Rattle.report.specs.Report.{works, joint, cut, SeenFromBothEnds, narrow, dimension}

-- a node past the end is not working
pub works_past : (status : List ℕ) (a : ℕ) → length status ≤ a → works status a ≡ false
unfolding works class_of
works_past status a h = ap (λ (b : ℕ). is_working (class_of b)) (get_or-eq_default status 0 h)

-- ---- links

-- two words of 16 bits taken together
pub joint_word : (own other : ℕ) → own < 2 ^ 16 → other < 2 ^ 16 → bit_or own other ≡ pack (joint own other) 16
unfolding joint
joint_word own other h l =
    sym (pack_own (bit_or own other) 16 (or_lt 16 own other h l))
    ∙ pack_cong (bit (bit_or own other)) (joint own other) 16 (λ i m. bit_of_or own other (suc i))

-- whether a link counts as faulty is read off the words of its ends taken together
pub cut_joint : (links : List ℕ) (a i : ℕ) → i < 16 → bit (pack (joint (get_or links a 0) (get_or links (flip a (suc i)) 0)) 16) (suc i) ≡ cut links a (suc i)
unfolding cut
cut_joint links a i h = bit_pack (joint (get_or links a 0) (get_or links (flip a (suc i)) 0)) 16 i h

-- a link is faulty seen from one end exactly when it is seen from the other
pub cut_other_end : SeenFromBothEnds
unfolding cut joint
cut_other_end links a i =
    ap (λ (b : ℕ). bit (get_or links (flip a i) 0) i || bit (get_or links b 0) i) (flip_twice a i) ∙ or_comm (bit (get_or links (flip a i) 0) i) (bit (get_or links a 0) i)

-- ---- link words

-- a word of 16 bits is below 2^n exactly if it is below the lesser of 2^n and 2^16
pub word_limit : (n w : ℕ) → w < 2 ^ 16 → ltb w (2 ^ n) ≡ ltb w (2 ^ min n 16)
word_limit n w h = ⊎_elim small large (cases_lt n 16)
  where
    small : n < 16 → ltb w (2 ^ n) ≡ ltb w (2 ^ min n 16)
    small l = ap (λ (k : ℕ). ltb w (2 ^ k)) (let e : n ≡ min n 16 = omega arith in e)

    large : 16 ≤ n → ltb w (2 ^ n) ≡ ltb w (2 ^ min n 16)
    large l =
        lt-ltb w (2 ^ n) (lt_of_lt_of_le h (pow_mono {i = 16} {j = n} l))
        ∙ sym (lt-ltb w (2 ^ 16) h)
        ∙ ap (λ (k : ℕ). ltb w (2 ^ k)) (let e : 16 ≡ min n 16 = omega arith in e)

-- words below 2^n make a narrow list
pub narrow_of : (n : ℕ) (ws : List ℕ) → ((k : ℕ) → k < length ws → get_or ws k 0 < 2 ^ n) → narrow n ws ≡ true
unfolding narrow
narrow_of n [] all = refl
narrow_of n (w ∷ ws) all = rw (lt-ltb w (2 ^ n) (all 0 (omega arith)), narrow_of n ws (λ k l. all (suc k) (omega arith)))

-- one word that isn't makes a list that isn't narrow
pub wide_of : (n : ℕ) (ws : List ℕ) (k : ℕ) → k < length ws → 2 ^ n ≤ get_or ws k 0 → narrow n ws ≡ false
unfolding narrow
wide_of n [] k h l = absurd (omega arith)
wide_of n (w ∷ ws) zero h l = rw (le-ltb w (2 ^ n) l)
wide_of n (w ∷ ws) (suc k) h l = rw (wide_of n ws k (omega arith) l, and-false)

-- every word of a narrow list is below 2^n
pub narrow_each : (n : ℕ) (ws : List ℕ) → narrow n ws ≡ true → (k : ℕ) → get_or ws k 0 < 2 ^ n
unfolding narrow
narrow_each n [] e k = pow_pos n
narrow_each n (w ∷ ws) e zero = ltb-true w (2 ^ n) ((and-eq-true_iff (ltb w (2 ^ n)) (narrow n ws)).0 e).0
narrow_each n (w ∷ ws) e (suc k) = narrow_each n ws ((and-eq-true_iff (ltb w (2 ^ n)) (narrow n ws)).0 e).1 k

-- where every word is 0, no link counts as faulty
pub cut_none : (links : List ℕ) → narrow 0 links ≡ true → (a i : ℕ) → cut links a i ≡ false
unfolding cut joint
cut_none links e a i = ap₂ ◌||◌ (unmarked a) (unmarked (flip a i))
  where
    unmarked : (b : ℕ) → bit (get_or links b 0) i ≡ false
    unmarked b = ap (λ (w : ℕ). bit w i) (let z : get_or links b 0 ≡ 0 = omega (arith, narrow_each 0 links e b) in z) ∙ bit_zero i

-- ---- acceptable reports

-- a dimension is from 1 to 10
pub dimension_range : (n : ℕ) → dimension n ≡ true → (1 ≤ n) × (n ≤ 10)
unfolding dimension
dimension_range n e = let t = (and-eq-true_iff (leb 1 n) (leb n 10)).0 e in (leb-true 1 n t.0, leb-true n 10 t.1)

-- a list is narrow if all its words are below the lesser of 2^n and 2^16, and only then
pub narrow_all : (n : ℕ) (ws : List ℕ) → ((k : ℕ) → get_or ws k 0 < 2 ^ 16) → list_all (λ w. ltb w (2 ^ min n 16)) ws ≡ narrow n ws
unfolding narrow
narrow_all n [] fits = refl
narrow_all n (w ∷ ws) fits = ap₂ ◌&&◌ (sym (word_limit n w (fits 0))) (narrow_all n ws (λ k. fits (suc k)))
