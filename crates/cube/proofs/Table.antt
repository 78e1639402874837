-- The laws of a table: its length and its entries, and of a list whose first places a table takes one by one.
use mathlib.Core.Path.{◌≡◌, refl, sym, ap, ◌∙◌}
use mathlib.Core.List.{List, [], ◌∷◌, ◌++◌, append-nil}
use Prim.Native.Nat.{ℕ, zero, suc, ◌+◌, ◌<◌}
use native.Mathlib.Nat.{add-zero, zero-add}
use native.Mathlib.Numerals.{add-one}
use native.Mathlib.Omega.{arith}
use lib.ListN.{length, get_or, drop, set}
use lib.Seq.{drop-cons, drop-length, append_snoc, set_at, ext_get_or}
use Rattle.cube.specs.Table.{from, table}

length_from : (f : ℕ → ℕ) (a k : ℕ) → length (from f a k) ≡ k
unfolding from
length_from f a zero = refl
length_from f a (suc k) = ap suc (length_from f (suc a) k)

get_or_from : (f : ℕ → ℕ) (a k i : ℕ) → i < k → get_or (from f a k) i 0 ≡ f (a + i)
unfolding from
get_or_from f a zero i h = absurd (omega arith)
get_or_from f a (suc k) zero h = rw add-zero
get_or_from f a (suc k) (suc i) h = get_or_from f (suc a) k i (omega arith) ∙ ap f (let e : suc a + i ≡ a + suc i = omega arith in e)

pub length_table : (f : ℕ → ℕ) (k : ℕ) → length (table f k) ≡ k
unfolding table
length_table f k = length_from f 0 k

pub get_or_table : (f : ℕ → ℕ) (k i : ℕ) → i < k → get_or (table f k) i 0 ≡ f i
unfolding table
get_or_table f k i h = get_or_from f 0 k i h ∙ ap f (zero-add i)

-- a list is the table of f if it is as long and has f's entries
pub table_ext : (f : ℕ → ℕ) (k : ℕ) (xs : List ℕ) → length xs ≡ k → ((i : ℕ) → i < k → get_or xs i 0 ≡ f i) → xs ≡ table f k
table_ext f k xs e h =
    ext_get_or 0 xs (table f k) (e ∙ sym (length_table f k)) (λ i l. h i (omega arith) ∙ sym (get_or_table f k i (omega arith)))

from_suc : (f : ℕ → ℕ) (a k : ℕ) → from f a (suc k) ≡ from f a k ++ (f (a + k) ∷ [])
unfolding from
from_suc f a zero = rw add-zero
from_suc f a (suc k) = ap (λ (xs : List ℕ). f a ∷ xs) (from_suc f (suc a) k ∙ ap (λ (i : ℕ). from f (suc a) k ++ (f i ∷ [])) (let e : suc a + k ≡ a + suc k = omega arith in e))

-- one entry more
table_suc : (f : ℕ → ℕ) (k : ℕ) → table f (suc k) ≡ table f k ++ (f k ∷ [])
unfolding table
table_suc f k = from_suc f 0 k ∙ ap (λ (i : ℕ). from f 0 k ++ (f i ∷ [])) (zero-add k)

-- a list after its first k places took the table's entries
abbrev pub written : (ℕ → ℕ) → List ℕ → ℕ → List ℕ
written f xs k = table f k ++ drop k xs

pub written_none : (f : ℕ → ℕ) (xs : List ℕ) → xs ≡ written f xs 0
unfolding table from
written_none f xs = refl

-- after the next store
pub written_next : (f : ℕ → ℕ) (xs ys : List ℕ) (k v : ℕ) → k < length xs → ys ≡ written f xs k → v ≡ f k → set ys k v ≡ written f xs (k + 1)
written_next f xs ys k v h e same =
    rw (e, same, add-one, drop-cons xs k 0 h, table_suc)
    (set_at (table f k) (get_or xs k 0) (drop (suc k) xs) (f k) k (length_table f k) ∙ sym (append_snoc (table f k) (f k) (drop (suc k) xs)))

-- after the last store
pub written_all : (f : ℕ → ℕ) (xs ys : List ℕ) (k : ℕ) → k ≡ length xs → ys ≡ written f xs k → ys ≡ table f (length xs)
written_all f xs ys k h e = e ∙ rw h (ap (λ (zs : List ℕ). table f (length xs) ++ zs) (drop-length xs) ∙ append-nil _)
