-- The refusals of a log: each record's in turn, and what holds where there is none.
use mathlib.Core.Path.{◌≡◌, refl, sym, ap, ◌∙◌}
use mathlib.Core.Bool.{Bool, true, false, not, cond, ◌&&◌, and-eq-true_iff}
use mathlib.Core.List.{List, [], ◌∷◌, ◌++◌}
use Prim.Native.Nat.{ℕ, ◌*◌, ◌^◌, ◌<◌}
use native.Mathlib.Omega.{arith}
use lib.Dec.{eqb, ltb}
use lib.ListN.{length, take, drop, length-take}
use borrow.Author.Tests.{eqb-true, ltb-true, ne_eqb, not-false}
use Rattle.cube.specs.Reply.{refusal}
use Rattle.cube.proofs.Reply.{passed}
use Rattle.report.specs.Report.{dimension, sized, within}
use Rattle.record.specs.Open.{word}
use Rattle.log_rules.specs.Log.{records, node_in, well_formed}
use Rattle.log_rules.specs.Refresh.{tests, log_refusal}
use Rattle.log_rules.specs.Sound.{sound}
use Rattle.log_rules.proofs.Records.{records_none, records_cons, records_append}

-- a record that isn't well formed is refused by 11, whatever its node
pub malformed : (n : ℕ) (r : List ℕ) → well_formed r ≡ false → refusal (tests n (r ∷ [])) ≡ 11
unfolding tests refusal
malformed n r e = rw e

-- one that is well formed is refused by 12 where the cube lacks its node, and not at all where it has it
pub by_node : (n : ℕ) (r : List ℕ) → well_formed r ≡ true → refusal (tests n (r ∷ [])) ≡ cond (not (within n (node_in r))) 12 0
unfolding tests refusal
by_node n r e = rw e

-- the first of two numbers that is not 0
abbrev pub first : ℕ → ℕ → ℕ
first m later = cond (eqb m 0) later m

-- a record's refusal, or that of later ones
refuse_step : (b c : Bool) (x y z : ℕ) → x ≡ first y z → cond b 11 (cond c 12 x) ≡ first (cond b 11 (cond c 12 y)) z
refuse_step true c x y z e = refl
refuse_step false true x y z e = refl
refuse_step false false x y z e = e

pub tests_append : (n : ℕ) (rs ss : List (List ℕ)) → refusal (tests n (rs ++ ss)) ≡ first (refusal (tests n rs)) (refusal (tests n ss))
unfolding tests refusal
tests_append n [] ss = refl
tests_append n (r ∷ rs) ss = refuse_step (not (well_formed r)) (not (within n (node_in r))) _ _ _ (tests_append n rs ss)

-- the first record's refusal is handed out
pub refuse_record : (n : ℕ) (r : List ℕ) (rs : List (List ℕ)) → (refusal (tests n (r ∷ [])) ≡ 0 → ⊥) → refusal (tests n (r ∷ rs)) ≡ refusal (tests n (r ∷ []))
refuse_record n r rs some = tests_append n (r ∷ []) rs ∙ rw (ne_eqb (refusal (tests n (r ∷ []))) 0 some)

-- or, where it has none, that of the later ones
pub pass_record : (n : ℕ) (r : List ℕ) (rs : List (List ℕ)) → refusal (tests n (r ∷ [])) ≡ 0 → refusal (tests n (r ∷ rs)) ≡ refusal (tests n rs)
pass_record n r rs none = tests_append n (r ∷ []) rs ∙ rw none

-- a log's refusal hangs on that of its records
pub refusal_by_tests : (n : ℕ) (log other status : List ℕ) → refusal (tests n (records log)) ≡ refusal (tests n (records other)) → log_refusal n log status ≡ log_refusal n other status
unfolding log_refusal refusal
refusal_by_tests n log other status e = ap (λ (m : ℕ). cond (not (dimension n)) 1 (cond (not (sized n status)) 2 m)) e

-- a log in two parts
pub log_refusal_append :
    (n k : ℕ) (log more status : List ℕ) →
    length log ≡ 8 * k →
    log_refusal n (log ++ more) status ≡ first (log_refusal n log status) (log_refusal n more status)
unfolding log_refusal refusal
log_refusal_append n k log more status e =
    rw (records_append k log more e, tests_append n (records log) (records more))
    (go (not (dimension n)) (not (sized n status)))
  where
    go : (b c : Bool) →
        cond b 1 (cond c 2 (first (refusal (tests n (records log))) (refusal (tests n (records more)))))
        ≡ first (cond b 1 (cond c 2 (refusal (tests n (records log))))) (cond b 1 (cond c 2 (refusal (tests n (records more)))))
    go true c = refl
    go false true = refl
    go false false = refl

-- where nothing is refused, the records are not, and the status bytes are 2^n
pub no_refusal : (n : ℕ) (log status : List ℕ) → log_refusal n log status ≡ 0 → (length status ≡ 2 ^ n) × (refusal (tests n (records log)) ≡ 0)
unfolding log_refusal refusal sized
no_refusal n log status e =
    let p = passed (not (dimension n)) 0 _ e in
    let q = passed (not (sized n status)) 1 _ p.1 in
    (eqb-true (length status) (2 ^ n) (not-false _ q.0), q.1)

-- the record that comes next, and those after it
module _ (n : ℕ) (rest row more : List ℕ) (next : records rest ≡ row ∷ records more) where
  pub refuse_next : (m : ℕ) → m ≡ refusal (tests n (row ∷ [])) → (m ≡ 0 → ⊥) → m ≡ refusal (tests n (records rest))
  refuse_next m here some = here ∙ sym (ap (λ (rs : List (List ℕ)). refusal (tests n rs)) next ∙ refuse_record n row (records more) (λ e. some (here ∙ e)))

  pub pass_next : 0 ≡ refusal (tests n (row ∷ [])) → refusal (tests n (records more)) ≡ refusal (tests n (records rest))
  pass_next here = sym (ap (λ (rs : List (List ℕ)). refusal (tests n rs)) next ∙ pass_record n row (records more) (sym here))

-- no record at the end
pub pass_end : (n : ℕ) (rest : List ℕ) → length rest ≡ 0 → refusal (tests n (records rest)) ≡ 0
unfolding tests refusal
pass_end n rest h = rw (records_none rest h)

-- records that aren't refused are sound
pub sound_of : (n : ℕ) (rs : List (List ℕ)) → refusal (tests n rs) ≡ 0 → sound (2 ^ n) rs ≡ true
unfolding tests refusal sound well_formed within
sound_of n [] none = refl
sound_of n (r ∷ rs) none =
    let p = passed (not (well_formed r)) 10 _ none in
    let q = passed (not (within n (node_in r))) 11 _ p.1 in
    let whole = ((and-eq-true_iff (eqb (length r) 8) (eqb (word r 0) 6 && eqb (word r 2) 2)).0 (not-false _ p.0)).0 in
    rw (whole, not-false (ltb (node_in r) (2 ^ n)) q.0, sound_of n rs q.1)

-- the next record of a sound log is whole and has its node, and the rest is sound
pub sound_next :
    (nodes : ℕ) (rest row more : List ℕ) →
    records rest ≡ row ∷ records more →
    sound nodes (records rest) ≡ true →
    (node_in row < nodes) × (sound nodes (records more) ≡ true)
unfolding sound
sound_next nodes rest row more next s =
    let t : sound nodes (row ∷ records more) ≡ true = sym (ap (sound nodes) next) ∙ s in
    let p = (and-eq-true_iff (eqb (length row) 8 && ltb (node_in row) nodes) (sound nodes (records more))).0 t in
    let q = (and-eq-true_iff (eqb (length row) 8) (ltb (node_in row) nodes)).0 p.0 in
    (ltb-true (node_in row) nodes q.1, p.1)

-- and no part of a record follows the last
pub sound_end : (nodes : ℕ) (rest : List ℕ) → length rest < 8 → sound nodes (records rest) ≡ true → length rest ≡ 0
unfolding sound
sound_end nodes [] short s = refl
sound_end nodes (x ∷ xs) short s =
    let r = take 8 (x ∷ xs) in
    let rs = records (drop 8 (x ∷ xs)) in
    let t : sound nodes (r ∷ rs) ≡ true = sym (ap (sound nodes) (records_cons (x ∷ xs) (omega arith))) ∙ s in
    let p = (and-eq-true_iff (eqb (length r) 8 && ltb (node_in r) nodes) (sound nodes rs)).0 t in
    let q = (and-eq-true_iff (eqb (length r) 8) (ltb (node_in r) nodes)).0 p.0 in
    absurd (omega (arith, eqb-true (length r) 8 q.0, length-take 8 (x ∷ xs)))
