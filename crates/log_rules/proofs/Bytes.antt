-- The laws of status bytes: the younger of two, and what records say one after another.
use mathlib.Core.Path.{◌≡◌, refl, sym, ap, ◌∙◌}
use mathlib.Core.Bool.{Bool, true, false, not, cond}
use mathlib.Core.List.{List, [], ◌∷◌, ◌++◌}
use mathlib.Core.Logic.{⊎_elim}
use Prim.Native.Nat.{ℕ, zero, suc, ◌+◌, ◌-◌, ◌%◌, ◌≤◌, ◌<◌, min}
use native.Mathlib.Omega.{arith}
use borrow.Author.Tests.{leb-true, leb-false, le-leb, lt-leb, eq-eqb, ne_eqb}
use lib.Dec.{leb}
use lib.ListN.{length, get_or, set}
use lib.Seq.{get_or-set_same, get_or-set_other}
use Rattle.std.proofs.lemmas.Bool.{cases_eq}
use Rattle.record.specs.Open.{word}
use Rattle.log_rules.specs.Log.{node_in, age, ahead, usable, ages, age_byte, least, status_byte}
use Rattle.log_rules.specs.Refresh.{younger}

-- of two that are not 0, the lower
pub younger_min : (b c : ℕ) → 0 < b → 0 < c → younger b c ≡ min b c
unfolding younger
younger_min zero c h l = absurd (omega arith)
younger_min (suc b) zero h l = absurd (omega arith)
younger_min (suc b) (suc c) h l = refl

pub younger_none : (b : ℕ) → younger b 0 ≡ b
unfolding younger
younger_none zero = refl
younger_none (suc b) = refl

pub none_younger : (b : ℕ) → younger 0 b ≡ b
unfolding younger
none_younger b = refl

younger_comm : (b c : ℕ) → younger b c ≡ younger c b
younger_comm zero c = rw (none_younger, younger_none)
younger_comm (suc b) zero = rw (none_younger, younger_none)
younger_comm (suc b) (suc c) = rw (younger_min (suc b) (suc c) (omega arith) (omega arith), younger_min (suc c) (suc b) (omega arith) (omega arith)) (omega arith)

pub younger_assoc : (b c d : ℕ) → younger (younger b c) d ≡ younger b (younger c d)
younger_assoc zero c d = rw (none_younger c, none_younger (younger c d))
younger_assoc (suc b) zero d = rw (younger_none (suc b), none_younger d)
younger_assoc (suc b) (suc c) zero = rw (younger_none (suc c), younger_none (younger (suc b) (suc c)))
younger_assoc (suc b) (suc c) (suc d) =
    rw (
      younger_min (suc b) (suc c) (omega arith) (omega arith),
      younger_min (suc c) (suc d) (omega arith) (omega arith),
      younger_min (min (suc b) (suc c)) (suc d) (omega arith) (omega arith),
      younger_min (suc b) (min (suc c) (suc d)) (omega arith) (omega arith),
    )
    (omega arith)

-- the order of two later ones makes no difference
pub younger_swap : (b c d : ℕ) → younger b (younger c d) ≡ younger c (younger b d)
younger_swap b c d = sym (younger_assoc b c d) ∙ ap (λ (x : ℕ). younger x d) (younger_comm b c) ∙ younger_assoc c b d

-- the byte of an age
age_byte_lem : (x : ℕ) → age_byte x ≡ min (x + 1) 253
unfolding age_byte
age_byte_lem x = go (leb x 252) refl
  where
    go : (t : Bool) → leb x 252 ≡ t → cond t (x + 1) 253 ≡ min (x + 1) 253
    go true e = omega (arith, leb-true x 252 e)
    go false e = omega (arith, leb-false x 252 e)

-- a wrapping subtraction gives the age
pub age_wraps : (sweep : ℕ) (r : List ℕ) → word r 4 < 65536 → (sweep + (65536 - word r 4)) % 65536 ≡ age sweep r
unfolding age
age_wraps sweep r h = omega arith

-- the byte of an age from the future, and of any other
pub byte_ahead : (x : ℕ) → 32768 ≤ x → cond (leb 32768 x) 0 (age_byte x) ≡ 0
byte_ahead x h = rw (le-leb 32768 x h)

pub byte_aged : (x : ℕ) → x < 32768 → cond (leb 32768 x) 0 (age_byte x) ≡ min (x + 1) 253
byte_aged x h = rw (lt-leb 32768 x h) (age_byte_lem x)

-- what a record says of its own node
own_byte : (sweep : ℕ) (r : List ℕ) → status_byte (ages sweep (node_in r) (r ∷ [])) ≡ cond (leb 32768 (age sweep r)) 0 (age_byte (age sweep r))
unfolding ages usable ahead status_byte least
own_byte sweep r = rw (eq-eqb (node_in r) (node_in r) refl) (go (leb 32768 (age sweep r)))
  where
    go : (t : Bool) → status_byte (cond (not t) (age sweep r ∷ []) []) ≡ cond t 0 (age_byte (age sweep r))
    go true = refl
    go false = refl

-- one age more
status_byte_cons : (x : ℕ) (xs : List ℕ) → status_byte (x ∷ xs) ≡ younger (age_byte x) (status_byte xs)
unfolding status_byte least
status_byte_cons x [] = sym (younger_none (age_byte x))
status_byte_cons x (y ∷ ys) =
    age_byte_lem (min x (least y ys)) ∙ omega (arith, age_byte_lem x, age_byte_lem (least y ys))
    ∙ sym (younger_min (age_byte x) (age_byte (least y ys)) (omega (arith, age_byte_lem x)) (omega (arith, age_byte_lem (least y ys))))

-- what a record says, and then what later ones say
pub bytes_cons :
    (sweep a : ℕ) (r : List ℕ) (rs : List (List ℕ)) →
    status_byte (ages sweep a (r ∷ rs)) ≡ younger (status_byte (ages sweep a (r ∷ []))) (status_byte (ages sweep a rs))
unfolding ages status_byte least
bytes_cons sweep a r rs = go (usable sweep a r)
  where
    go : (u : Bool) →
        status_byte (cond u (age sweep r ∷ ages sweep a rs) (ages sweep a rs))
        ≡ younger (status_byte (cond u (age sweep r ∷ []) [])) (status_byte (ages sweep a rs))
    go true = status_byte_cons (age sweep r) (ages sweep a rs)
    go false = sym (none_younger _)

-- where there is no record, nothing is said
pub bytes_none : (sweep a : ℕ) → status_byte (ages sweep a []) ≡ 0
unfolding ages status_byte
bytes_none sweep a = refl

-- what records say, and then what further ones say
pub bytes_append :
    (sweep a : ℕ) (rs ss : List (List ℕ)) →
    status_byte (ages sweep a (rs ++ ss)) ≡ younger (status_byte (ages sweep a rs)) (status_byte (ages sweep a ss))
bytes_append sweep a [] ss = sym (rw (bytes_none sweep a) (none_younger _))
bytes_append sweep a (r ∷ rs) ss =
    bytes_cons sweep a r (rs ++ ss)
    ∙ rw (bytes_append sweep a rs ss, bytes_cons sweep a r rs)
    (sym (younger_assoc _ _ _))

-- a record of another node says nothing of a
silent : (sweep a : ℕ) (r : List ℕ) → (node_in r ≡ a → ⊥) → status_byte (ages sweep a (r ∷ [])) ≡ 0
unfolding ages usable status_byte
silent sweep a r h = rw (ne_eqb (node_in r) a h)

-- the bytes after a record has spoken for its node
pub put_get_or :
    (sweep : ℕ) (r status : List ℕ) (a : ℕ) →
    a < length status →
    get_or (set status (node_in r) (younger (get_or status (node_in r) 0) (cond (leb 32768 (age sweep r)) 0 (age_byte (age sweep r))))) a 0
    ≡ younger (get_or status a 0) (status_byte (ages sweep a (r ∷ [])))
put_get_or sweep r status a h =
    ⊎_elim
    (λ (e : a ≡ node_in r). rw (e, own_byte) (get_or-set_same status (node_in r) _ 0 (omega arith)))
    (λ (ne : a ≡ node_in r → ⊥).
    get_or-set_other status (node_in r) a _ 0 ne
    ∙ rw (silent sweep a r (λ e. ne (sym e))) (sym (younger_none _)))
    (cases_eq a (node_in r))
