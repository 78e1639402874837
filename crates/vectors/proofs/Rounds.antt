-- The laws of Fill's rounds: in the midst of round k the boards below j have bits 1 to k + 1, the others bits 1 to k.
use mathlib.Core.Path.{◌≡◌, refl, ap, ap₂, sym, ◌∙◌}
use mathlib.Core.Bool.{Bool, true, ◌&&◌}
use mathlib.Core.Logic.{⊎_elim}
use mathlib.Core.List.{List, ◌++◌}
use Rattle.std.proofs.lemmas.List.{take_at, take-replicate}
use Prim.Native.Nat.{ℕ, zero, suc, ◌+◌, ◌-◌, ◌*◌, ◌%◌, ◌^◌, ◌≤◌, ◌<◌}
use native.Mathlib.Nat.{le_trans, le_of_eq}
use native.Mathlib.Omega.{arith}
use lib.Dec.{eqb, ltb}
use borrow.Author.Tests.{lt-ltb, le-ltb}
use mir.Val.{bool_byte}
use lib.ListN.{length, get_or, take, set, length-set, replicate, length-replicate, get_or-replicate, get_or-eq_default}
use lib.Seq.{get_or-set_same, get_or-set_other}
use Rattle.cube.specs.Bits.{bit, flip}
use Rattle.cube.specs.Count.{one, pack, count}
use Rattle.cube.specs.Table.{table}
use Rattle.std.proofs.lemmas.Bool.{cases_lt, cases_eq}
use Rattle.cube.proofs.Bits.{flip_lt}
use Rattle.cube.proofs.Count.{one_le, one_eqb, one_is, bit_pack, pack_lt, pack_cong, pack_zero, one_shift}
use Rattle.cube.proofs.Table.{length_table, get_or_table, table_ext}
use Rattle.report.specs.Health.{Cube}
use Rattle.report.specs.Report.{Report, works, cut, cube, narrow}
use Rattle.report.proofs.Laws.{cut_none}
use Rattle.safety.specs.Safety.{registered, supported, safe, bits_of, vector, vectors}
use Rattle.held.specs.Held.{own}
use Rattle.vectors.specs.Rounds.{up_to, after, digit, shown, Digits, faults, all_faults, masked, known}
use Rattle.safety.proofs.Safety.{recurrence, supported_cong, safe_cong, too_few, enough}

pub record Midst (C : Cube) (k j : ℕ) (vs : List ℕ) : Type 0 where
  pub long : length vs ≡ 2 ^ C.dim
  pub below : (b : ℕ) → b < j → get_or vs b 0 ≡ up_to C (suc k) b
  pub above : (b : ℕ) → j ≤ b → b < 2 ^ C.dim → get_or vs b 0 ≡ up_to C k b

pub midst_start : (C : Cube) (k : ℕ) (vs : List ℕ) → vs ≡ after C k → Midst C k 0 vs
unfolding after
midst_start C k vs e =
    record {
      long = ap length e ∙ length_table (up_to C k) (2 ^ C.dim);
      below = λ b h. absurd (omega arith);
      above = λ b h l. ap (λ (xs : List ℕ). get_or xs b 0) e ∙ get_or_table (up_to C k) (2 ^ C.dim) b l;
    }

pub midst_end : (C : Cube) (k j : ℕ) (vs : List ℕ) → length vs ≤ j → Midst C k j vs → vs ≡ after C (suc k)
unfolding after
midst_end C k j vs h m = table_ext (up_to C (suc k)) (2 ^ C.dim) vs m.long (λ b l. m.below b (omega (arith, m.long)))

-- one board more
pub midst_step : (C : Cube) (k j : ℕ) (vs : List ℕ) → Midst C k j vs → j < 2 ^ C.dim → (w : ℕ) → w ≡ up_to C (suc k) j → Midst C k (j + 1) (set vs j w)
midst_step C k j vs m h w e =
    record {
      long = length-set vs j w ∙ m.long;
      below = λ b l. ⊎_elim (λ (s : b ≡ j). ap (λ (x : ℕ). get_or (set vs j w) x 0) s ∙ get_or-set_same vs j w 0 (omega (arith, m.long)) ∙ e ∙ ap (up_to C (suc k)) (sym s))
          (λ (ne : b ≡ j → ⊥). get_or-set_other vs j b w 0 ne ∙ m.below b (omega (arith, ne))) (cases_eq b j);
      above = λ b l g. get_or-set_other vs j b w 0 (λ s. omega arith) ∙ m.above b (omega arith) g;
    }

pub up_to_lt : (C : Cube) (k a : ℕ) → up_to C k a < 2 ^ k
unfolding up_to
up_to_lt C k a = pack_lt (bits_of C a) k

-- what the board j is given in its turn
pub midst_word : (C : Cube) (k j : ℕ) (vs : List ℕ) → Midst C k j vs → j < 2 ^ C.dim → k < 16 → (b : ℕ)
    → b ≡ one (safe C (suc k) j) → get_or vs j 0 + b * 2 ^ k % 65536 ≡ up_to C (suc k) j
unfolding up_to pack bits_of
midst_word C k j vs m l w b e =
    ap₂ ◌+◌ (m.above j (omega arith) l)
    (ap (λ (x : ℕ). x * 2 ^ k % 65536) e ∙ one_shift (safe C (suc k) j) k 16 w)

-- before the first round no bit is set
pub after_none : (C : Cube) → replicate (2 ^ C.dim) 0 ≡ after C 0
unfolding after up_to pack
after_none C =
    table_ext (up_to C 0) (2 ^ C.dim) (replicate (2 ^ C.dim) 0) (length-replicate (2 ^ C.dim) 0)
    (λ i l. get_or-replicate (2 ^ C.dim) i 0 0 l)

-- after the last round all vectors stand
pub after_all : (C : Cube) → after C C.dim ≡ vectors C
unfolding after up_to vectors vector
after_all C = refl

-- ---- the bytes that show the last bit

-- a byte of 1 or 0 is the digit of the bit that it shows
pub shown_digit : (bytes : List ℕ) → Digits bytes → (a : ℕ) → get_or bytes a 0 ≡ one (shown bytes a)
unfolding shown
shown_digit bytes d a = sym (one_eqb (get_or bytes a 0) (omega (arith, d a)))

-- the bytes that show a bit of the vectors
pub digits_of : (vs : List ℕ) (k m : ℕ) → Digits (table (digit vs k) m)
unfolding digit
digits_of vs k m a = ⊎_elim inside past (cases_lt a m)
  where
    inside : a < m → get_or (table (digit vs k) m) a 0 ≤ 1
    inside l = le_trans (le_of_eq (get_or_table (digit vs k) m a l)) (one_le (own vs k a))

    past : m ≤ a → get_or (table (digit vs k) m) a 0 ≤ 1
    past l = omega (arith, get_or-eq_default (table (digit vs k) m) 0 (le_trans (le_of_eq (length_table (digit vs k) m)) l))

shown_of : (vs : List ℕ) (k m a : ℕ) → a < m → shown (table (digit vs k) m) a ≡ own vs k a
unfolding shown digit
shown_of vs k m a l = ap (λ (x : ℕ). eqb x 1) (get_or_table (digit vs k) m a l) ∙ one_is (own vs k a)

-- after k rounds the own bit k is that of Definition 1
after_own : (C : Cube) (k b : ℕ) → b < 2 ^ C.dim → own (after C k) k b ≡ safe C k b
unfolding own safe after up_to bits_of
after_own C zero b h = refl
after_own C (suc k) b h =
    ap (λ (w : ℕ). bit w (suc k)) (get_or_table (up_to C (suc k)) (2 ^ C.dim) b h) ∙ bit_pack (bits_of C b) (suc k) k (omega arith)

-- the next bit by the bytes that show the last is that of Definition 1
pub shown_next : (C : Cube) (k : ℕ) (vs bytes : List ℕ) → vs ≡ after C k → bytes ≡ table (digit vs k) (2 ^ C.dim) → 0 < C.dim
    → (a : ℕ) → a < 2 ^ C.dim → (C.works a && supported C (shown bytes) (suc k) a) ≡ safe C (suc k) a
shown_next C k vs bytes ev eb h a l =
    ap (λ (b : Bool). C.works a && b)
    (supported_cong C (shown bytes) (safe C k) (suc k) a (λ i w. same (flip a (suc i)) (flip_lt C.dim a (suc i) l w)))
    ∙ sym (recurrence C k a h)
  where
    same : (b : ℕ) → b < 2 ^ C.dim → shown bytes b ≡ safe C k b
    same b m = ap (λ (xs : List ℕ). shown xs b) eb ∙ shown_of vs k (2 ^ C.dim) b m ∙ ap (λ (xs : List ℕ). own xs k b) ev ∙ after_own C k b m

-- the next bit as the machine tells it by the sum
pub bit_by_sum : (C : Cube) (bits : ℕ → Bool) (k a s : ℕ) → s ≡ count (registered C.cut bits a) C.dim → bool_byte (ltb (C.dim - (k + 1)) s) ≡ one (supported C bits (suc k) a)
unfolding supported
bit_by_sum C bits k a s e =
    ⊎_elim (λ (h : C.dim - (k + 1) < s). ap bool_byte (lt-ltb _ _ h) ∙ sym (ap one (enough C bits (suc k) a (omega arith))))
    (λ (h : s ≤ C.dim - (k + 1)). ap bool_byte (le-ltb _ _ h) ∙ sym (ap one (too_few C bits (suc k) a (omega arith))))
    (cases_lt (C.dim - (k + 1)) s)

-- before the first round every byte is 1
pub digits_first : (vs : List ℕ) (m : ℕ) → replicate m 1 ≡ table (digit vs 0) m
unfolding digit own
digits_first vs m = table_ext (digit vs 0) m (replicate m 1) (length-replicate m 1) (λ i l. get_or-replicate m i 1 0 l)

-- ---- the masks of faulty links

-- a mask has just the links that count as faulty
masked_faults : (n : ℕ) (links : List ℕ) (a i : ℕ) → a < 2 ^ n → i < n → masked (get_or (all_faults n links) a 0) a (suc i) ≡ cut links a (suc i)
unfolding masked all_faults faults
masked_faults n links a i l m =
    ap (λ (w : ℕ). bit w (suc i)) (get_or_table (faults n links) (2 ^ n) a l) ∙ bit_pack (cut links a) n i m

-- room for 2^n nodes in a longer array
pub room : (x n m k : ℕ) → m ≡ 2 ^ n → 2 ^ n ≤ k → take m (replicate k x) ≡ replicate (2 ^ n) x
room x n m k e h = take-replicate m k x (omega arith) ∙ ap (λ (j : ℕ). replicate j x) e

pub length_faults : (n : ℕ) (links : List ℕ) → length (all_faults n links) ≡ 2 ^ n
unfolding all_faults
length_faults n links = length_table (faults n links) (2 ^ n)

-- and the masks that were written there, as they are lent again
pub lent_again : (n m : ℕ) (links masks rest : List ℕ) → m ≡ 2 ^ n → masks ≡ all_faults n links → take m (masks ++ rest) ≡ all_faults n links
lent_again n m links masks rest h e = take_at masks rest m (ap length e ∙ length_faults n links ∙ sym h) ∙ e

-- where no word marks a link, every mask is empty
pub faults_none : (n : ℕ) (links : List ℕ) → narrow 0 links ≡ true → replicate (2 ^ n) 0 ≡ all_faults n links
unfolding all_faults faults
faults_none n links e =
    table_ext (faults n links) (2 ^ n) (replicate (2 ^ n) 0) (length-replicate (2 ^ n) 0)
    (λ a l. get_or-replicate (2 ^ n) a 0 0 l ∙ sym (pack_zero (cut links a) n (λ i m. cut_none links e a (suc i))))

-- over the masks the rounds give what the report says
pub after_known : (R : Report) → after (known R (all_faults R.dim R.links)) R.dim ≡ after (cube R) R.dim
unfolding after up_to bits_of known cube
after_known R =
    let n = R.dim in
    let K : Cube = known R (all_faults n R.links) in
    let C : Cube = cube R in
    table_ext (up_to C n) (2 ^ n) (table (up_to K n) (2 ^ n)) (length_table (up_to K n) (2 ^ n))
    (λ a l. get_or_table (up_to K n) (2 ^ n) a l
    ∙ pack_cong (bits_of K a) (bits_of C a) n
    (λ i m. safe_cong n (works R.status) (λ b. masked (get_or (all_faults n R.links) b 0) b) (cut R.links) (omega arith) (masked_faults n R.links) (suc i) a l))
