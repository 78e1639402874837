-- When nothing refuses a message before the rules.
use mathlib.Core.Path.{◌≡◌, ap, sym, ◌∙◌}
use mathlib.Core.Logic.{◌⊎◌, inl, inr, ⊎_elim}
use mathlib.Core.Bool.{Bool, true, not, cond, ◌&&◌, and-eq-true_iff}
use mathlib.Core.List.{List}
use Prim.Native.Nat.{ℕ, ◌≤◌, ◌<◌, ◌^◌}
use native.Mathlib.Omega.{arith}
use borrow.Author.Tests.{not-false, eqb-true, ltb-true, lt-ltb, le-ltb}
use lib.Bits.{bit_xor, xor_lt}
use lib.Dec.{ltb}
use lib.ListN.{length}
use Rattle.std.proofs.lemmas.Bool.{cases_lt}
use Rattle.cube.proofs.Count.{xor_twice}
use Rattle.cube.proofs.Reply.{passed, refusal_le}
use Rattle.report.specs.Report.{Report, cube, dimension, sized, all_sized, within}
use Rattle.rules.specs.Refusals.{decide_refusal, hop_refusal}

-- what is tested at node a for destination d; b is the destination, or the relative address
pub record Clear (R : Report) (vectors : List ℕ) (a b d : ℕ) : Type 0 where
  pub dim : dimension R.dim ≡ true
  pub sizes : all_sized R vectors ≡ true
  pub node : a < 2 ^ R.dim
  pub other : b < 2 ^ R.dim
  pub here : (cube R).works a ≡ true
  pub there : (cube R).works d ≡ true

-- a relative address lies in the cube exactly if what lies at it from a node does
inside : (n a nav : ℕ) → (within n a && within n nav) ≡ (within n a && within n (bit_xor a nav))
unfolding within
inside n a nav = ⊎_elim node none (cases_lt a (2 ^ n))
  where
    same : a < 2 ^ n → nav < 2 ^ n ⊎ 2 ^ n ≤ nav → ltb nav (2 ^ n) ≡ ltb (bit_xor a nav) (2 ^ n)
    same h (inl l) = lt-ltb nav (2 ^ n) l ∙ sym (lt-ltb (bit_xor a nav) (2 ^ n) (xor_lt n a nav h l))
    same h (inr g) = le-ltb nav (2 ^ n) g ∙ sym (le-ltb (bit_xor a nav) (2 ^ n) (⊎_elim
        (λ (l : bit_xor a nav < 2 ^ n). let back : nav < 2 ^ n = (rw (xor_twice a nav) at (xor_lt n a (bit_xor a nav) h l)) in absurd (omega (arith, back, g)))
        (λ (k : 2 ^ n ≤ bit_xor a nav). k)
        (cases_lt (bit_xor a nav) (2 ^ n))))

    node : a < 2 ^ n → (ltb a (2 ^ n) && ltb nav (2 ^ n)) ≡ (ltb a (2 ^ n) && ltb (bit_xor a nav) (2 ^ n))
    node h = ap (λ (t : Bool). ltb a (2 ^ n) && t) (same h (cases_lt nav (2 ^ n)))

    none : 2 ^ n ≤ a → (ltb a (2 ^ n) && ltb nav (2 ^ n)) ≡ (ltb a (2 ^ n) && ltb (bit_xor a nav) (2 ^ n))
    none h = rw (le-ltb a (2 ^ n) h)

module _ (R : Report) (vectors : List ℕ) where
  module _ (a b d : ℕ) where
    -- both jobs' lists are this chain
    chain : ℕ
    chain =
        cond (not (dimension R.dim)) 1
        (cond (not (all_sized R vectors)) 2
        (cond (not (within R.dim a && within R.dim b)) 4 (cond (not ((cube R).works a)) 5 (cond (not ((cube R).works d)) 6 0))))

    passes : chain ≡ 0 → Clear R vectors a b d
    unfolding chain within
    passes e =
        let t1 = passed _ _ _ e in
        let t2 = passed _ _ _ t1.1 in
        let t4 = passed _ _ _ t2.1 in
        let t5 = passed _ _ _ t4.1 in
        let t6 = passed _ _ _ t5.1 in
        let nodes = (and-eq-true_iff (within R.dim a) (within R.dim b)).0 (not-false _ t4.0) in
        record {
          dim = not-false _ t1.0;
          sizes = not-false _ t2.0;
          node = ltb-true _ _ nodes.0;
          other = ltb-true _ _ nodes.1;
          here = not-false _ t5.0;
          there = not-false _ t6.0;
        }

    at_most : chain ≤ 6
    unfolding chain
    at_most =
        refusal_le (not (dimension R.dim)) 1 _ 6 (omega arith)
        (refusal_le (not (all_sized R vectors)) 2 _ 6 (omega arith)
        (refusal_le (not (within R.dim a && within R.dim b)) 4 _ 6 (omega arith)
        (refusal_le (not ((cube R).works a)) 5 _ 6 (omega arith) (refusal_le (not ((cube R).works d)) 6 0 6 (omega arith) (omega arith)))))

    -- the link words and the vectors are as many as the nodes
    pub clear_lengths : Clear R vectors a b d → (length R.links ≡ 2 ^ R.dim) × (length vectors ≡ 2 ^ R.dim)
    unfolding all_sized sized
    clear_lengths c =
        let lent = (and-eq-true_iff (sized R.dim R.links) (sized R.dim vectors)).0 ((and-eq-true_iff (sized R.dim R.status) (sized R.dim R.links && sized R.dim vectors)).0 c.sizes).1 in
        (eqb-true _ _ lent.0, eqb-true _ _ lent.1)

  -- where Decide refuses nothing, every test passes
  pub decide_clear : (s d : ℕ) → decide_refusal R vectors s d ≡ 0 → Clear R vectors s d d
  unfolding decide_refusal chain
  decide_clear s d e = passes s d d e

  -- the numbers from 7 are the rule's
  pub decide_refusal_le : (s d : ℕ) → decide_refusal R vectors s d ≤ 6
  unfolding decide_refusal chain
  decide_refusal_le s d = at_most s d d

  -- so at Hop
  pub hop_clear : (a nav : ℕ) → hop_refusal R vectors a nav ≡ 0 → Clear R vectors a nav (bit_xor a nav)
  unfolding hop_refusal chain
  hop_clear a nav e = passes a nav (bit_xor a nav) e

  -- and where every test passes, nothing is refused
  pub decide_none : (s d : ℕ) → Clear R vectors s d d → decide_refusal R vectors s d ≡ 0
  unfolding decide_refusal
  decide_none s d c = rw (c.dim, c.sizes, lt-ltb s (2 ^ R.dim) c.node, lt-ltb d (2 ^ R.dim) c.other, c.here, c.there)

  pub hop_none : (a nav : ℕ) → Clear R vectors a nav (bit_xor a nav) → hop_refusal R vectors a nav ≡ 0
  unfolding hop_refusal
  hop_none a nav c = rw (c.dim, c.sizes, lt-ltb a (2 ^ R.dim) c.node, lt-ltb nav (2 ^ R.dim) c.other, c.here, c.there)

  -- Hop's tests are Decide's for the destination that lies at the relative address
  pub hop_as_decide : (a nav : ℕ) → hop_refusal R vectors a nav ≡ decide_refusal R vectors a (bit_xor a nav)
  unfolding hop_refusal decide_refusal
  hop_as_decide a nav =
      ap (λ (t : Bool). cond (not (dimension R.dim)) 1
      (cond (not (all_sized R vectors)) 2
      (cond (not t) 4 (cond (not ((cube R).works a)) 5 (cond (not ((cube R).works (bit_xor a nav))) 6 0)))))
      (inside R.dim a nav)
