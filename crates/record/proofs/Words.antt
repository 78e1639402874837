-- The laws of link words as pairs of bytes, and of bytes that are copied.
use mathlib.Core.Path.{◌≡◌, refl, sym, ap, ◌∙◌}
use mathlib.Core.Bool.{Bool, false, ◌&&◌, and-true, and-false, and_assoc}
use mathlib.Core.List.{List, [], ◌∷◌}
use mathlib.Core.Logic.{⊎_elim}
use Prim.Native.Nat.{ℕ, zero, suc, ◌+◌, ◌*◌, ◌/◌, ◌^◌, ◌<◌, ◌≤◌}
use native.Mathlib.Omega.{arith}
use borrow.Author.Tests.{lt-ltb, le-ltb}
use lib.Bits.{bit_or, or_lt, or_add_and, and_le_l, and_le_r}
use lib.Pow.{pow_pos}
use lib.Dec.{ltb}
use lib.ListN.{length, get_or, drop}
use lib.Seq.{get_or-take, get_or-drop}
use Rattle.std.specs.List.{fold}
use Rattle.std.specs.Simd.{first_chunks}
use Rattle.cube.specs.Table.{table}
use Rattle.std.proofs.lemmas.Bool.{cases_lt}
use Rattle.cube.proofs.Table.{written, table_ext, written_none, written_next, written_all}
use Rattle.report.specs.Report.{narrow}
use Rattle.record.specs.Open.{word, n_in, link_in, links_in}
use Rattle.record.specs.Words.{words_in}

-- ---- one mask of all

-- the bits that a list of pairs marks, those of m among them
abbrev pub marking : ℕ → List ℕ → ℕ
marking m pair = bit_or m (word pair 0)

left_le : (a b : ℕ) → a ≤ bit_or a b
left_le a b = omega (arith, or_add_and a b, and_le_r a b)

right_le : (a b : ℕ) → b ≤ bit_or a b
right_le a b = omega (arith, or_add_and a b, and_le_l a b)

-- a mask is below 2^n if both parts are
both_below : (n a b : ℕ) → ltb (bit_or a b) (2 ^ n) ≡ ltb a (2 ^ n) && ltb b (2 ^ n)
both_below n a b = ⊎_elim below above (cases_lt (bit_or a b) (2 ^ n))
  where
    below : bit_or a b < 2 ^ n → ltb (bit_or a b) (2 ^ n) ≡ ltb a (2 ^ n) && ltb b (2 ^ n)
    below h =
        rw (lt-ltb (bit_or a b) (2 ^ n) h, lt-ltb a (2 ^ n) (omega (arith, left_le a b)), lt-ltb b (2 ^ n) (omega (arith, right_le a b)))
        refl

    beyond : b < 2 ^ n → 2 ^ n ≤ bit_or a b → ltb a (2 ^ n) ≡ false
    beyond l h = ⊎_elim (λ k. absurd (let z = or_lt n a b k l in omega arith)) (λ k. le-ltb a (2 ^ n) k) (cases_lt a (2 ^ n))

    above : 2 ^ n ≤ bit_or a b → ltb (bit_or a b) (2 ^ n) ≡ ltb a (2 ^ n) && ltb b (2 ^ n)
    above h =
        ⊎_elim
        (λ l. rw (le-ltb (bit_or a b) (2 ^ n) h, beyond l h) refl)
        (λ l. rw (le-ltb (bit_or a b) (2 ^ n) h, le-ltb b (2 ^ n) l, and-false) refl)
        (cases_lt b (2 ^ n))

from_mask : (n m : ℕ) (pairs : List (List ℕ)) → ltb (fold marking m pairs) (2 ^ n) ≡ ltb m (2 ^ n) && narrow n (words_in pairs)
unfolding narrow words_in
from_mask n m [] = sym (and-true (ltb m (2 ^ n)))
from_mask n m (pair ∷ pairs) =
    from_mask n (marking m pair) pairs
    ∙ ap (λ (t : Bool). t && narrow n (words_in pairs)) (both_below n m (word pair 0))
    ∙ and_assoc (ltb m (2 ^ n)) (ltb (word pair 0) (2 ^ n)) (narrow n (words_in pairs))

-- the words are narrow if the mask of all is below 2^n, and only then
pub narrow_mask : (n : ℕ) (pairs : List (List ℕ)) (m top : ℕ) → m ≡ fold marking 0 pairs → top ≡ 2 ^ n → ltb m top ≡ narrow n (words_in pairs)
narrow_mask n pairs m top e f = rw (e, f) (from_mask n 0 pairs ∙ ap (λ (t : Bool). t && narrow n (words_in pairs)) (lt-ltb 0 (2 ^ n) (pow_pos n)))

-- ---- a table that is stored in turn

-- after the last store a list that is the table is all there
all_written :
    (f : ℕ → ℕ) (n : ℕ) (old new all : List ℕ) (k : ℕ) →
    all ≡ table f n →
    length old ≡ n →
    k ≡ length old →
    new ≡ written f old k →
    new ≡ all
all_written f n old new all k whole sized last e = written_all f old new k last e ∙ ap (table f) sized ∙ sym whole

-- ---- the words as a table

-- the number of a pair, by its place
abbrev pub number_at : List (List ℕ) → ℕ → ℕ
number_at pairs a = word (get_or pairs a []) 0

length_words : (pairs : List (List ℕ)) → length (words_in pairs) ≡ length pairs
unfolding words_in
length_words [] = refl
length_words (pair ∷ pairs) = ap suc (length_words pairs)

get_or_words : (pairs : List (List ℕ)) (a : ℕ) → a < length pairs → get_or (words_in pairs) a 0 ≡ number_at pairs a
unfolding words_in
get_or_words [] a h = absurd (omega arith)
get_or_words (pair ∷ pairs) zero h = refl
get_or_words (pair ∷ pairs) (suc a) h = get_or_words pairs a (omega arith)

-- they are the table of the pairs' numbers
words_table : (pairs : List (List ℕ)) → words_in pairs ≡ table (number_at pairs) (length pairs)
words_table pairs = table_ext (number_at pairs) (length pairs) (words_in pairs) (length_words pairs) (get_or_words pairs)

-- after the last store they are all there
pub words_written :
    (pairs : List (List ℕ)) (old new : List ℕ) (k : ℕ) →
    length old ≡ length pairs →
    k ≡ length old →
    new ≡ written (number_at pairs) old k →
    new ≡ words_in pairs
words_written pairs old new k sized last e = all_written (number_at pairs) (length pairs) old new (words_in pairs) k (words_table pairs) sized last e

-- ---- bytes that are copied

-- a byte of a list, by its place
abbrev pub byte_at : List ℕ → ℕ → ℕ
byte_at bytes a = get_or bytes a 0

-- after the last store they are all there
pub bytes_written :
    (bytes old new : List ℕ) (k : ℕ) →
    length old ≡ length bytes →
    k ≡ length old →
    new ≡ written (byte_at bytes) old k →
    new ≡ bytes
bytes_written bytes old new k sized last e =
    let all = table_ext (byte_at bytes) (length bytes) bytes refl (λ a h. refl) in
    all_written (byte_at bytes) (length bytes) old new bytes k all sized last e

-- what the check applies where words or bytes are stored in turn
pub ruleset in_turn = (written_none, written_next)

-- ---- the bytes in pairs

word_drop : (m : ℕ) (bytes : List ℕ) (i : ℕ) → word (drop m bytes) i ≡ word bytes (m + i)
unfolding word
word_drop m bytes i =
    let e : m + (i + 1) ≡ m + i + 1 = omega arith in
    rw (get_or-drop m bytes i 0, get_or-drop m bytes (i + 1) 0, e) refl

length_pairs : (k : ℕ) (bytes : List ℕ) → length (words_in (first_chunks 2 k bytes)) ≡ k
unfolding words_in
length_pairs zero bytes = refl
length_pairs (suc k) bytes = ap suc (length_pairs k (drop 2 bytes))

get_or_pairs : (k : ℕ) (bytes : List ℕ) (a : ℕ) → a < k → get_or (words_in (first_chunks 2 k bytes)) a 0 ≡ word bytes (2 * a)
unfolding words_in word
get_or_pairs zero bytes a h = absurd (omega arith)
get_or_pairs (suc k) bytes zero h = rw (get_or-take 2 bytes 0 0 (omega arith), get_or-take 2 bytes 1 0 (omega arith)) refl
get_or_pairs (suc k) bytes (suc a) h =
    let e : 2 + 2 * a ≡ 2 * suc a = omega arith in
    get_or_pairs k (drop 2 bytes) a (omega arith) ∙ word_drop 2 bytes (2 * a) ∙ ap (word bytes) e

-- a record with that many nodes
module _ (bytes : List ℕ) (nodes : ℕ) (counted : nodes ≡ 2 ^ n_in bytes) where
  -- what follows its status bytes
  abbrev after : List ℕ
  after = drop nodes (drop 5 bytes)

  link_there : (a : ℕ) → word after (2 * a) ≡ link_in bytes a
  unfolding link_in
  link_there a =
      let e : 5 + (nodes + 2 * a) ≡ 5 + 2 ^ n_in bytes + 2 * a = omega (arith, counted) in
      word_drop nodes (drop 5 bytes) (2 * a) ∙ word_drop 5 bytes (nodes + 2 * a) ∙ ap (word bytes) e

  links_there : words_in (first_chunks 2 nodes after) ≡ links_in bytes
  unfolding links_in
  links_there =
      table_ext (link_in bytes) (2 ^ n_in bytes) (words_in (first_chunks 2 nodes after))
      (length_pairs nodes after ∙ counted)
      (λ a h. get_or_pairs nodes after a (omega (arith, counted)) ∙ link_there a)

  -- in pairs it is the link words
  pub words_read :
      (words : List ℕ) (pairs : List (List ℕ)) →
      words ≡ drop nodes (drop 5 bytes) →
      length words / 2 ≡ nodes →
      pairs ≡ first_chunks 2 (length words / 2) words →
      words_in pairs ≡ links_in bytes
  words_read words pairs same half e = ap words_in (e ∙ rw (half, same) refl) ∙ links_there
