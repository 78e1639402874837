-- The laws of Wu's Definition 1: one recurrence gives every bit, and what the table of vectors holds.
use mathlib.Core.Path.{◌≡◌, refl, ap, ap₂, sym, ◌∙◌}
use mathlib.Core.Bool.{Bool, true, false, not, ◌&&◌, and-true}
use Prim.Native.Nat.{ℕ, zero, suc, ◌+◌, ◌-◌, ◌*◌, ◌^◌, ◌≤◌, ◌<◌}
use native.Mathlib.Omega.{arith}
use borrow.Author.Tests.{lt-ltb, le-ltb, le-leb, lt-leb, leb-false, not-true}
use Rattle.std.proofs.lemmas.Bool.{and_parts}
use lib.Dec.{leb, ltb}
use lib.ListN.{get_or}
use Rattle.cube.specs.Bits.{bit, flip, weight}
use Rattle.cube.specs.Count.{one, count, any}
use Rattle.cube.proofs.Bits.{flip_lt}
use Rattle.cube.proofs.Count.{one_unless, any_count, count_cong, count_not, bit_pack, both, weight_below}
use Rattle.cube.proofs.Table.{get_or_table}
use Rattle.report.specs.Health.{Cube}
use Rattle.safety.specs.Safety.{registered, supported, safe, bits_of, vector, vectors, Recurrence}

-- a registered bit as the machine makes it
pub registered_digit : (cut : ℕ → ℕ → Bool) (bits : ℕ → Bool) (a i m h : ℕ) → m ≡ one (cut a i) → h ≡ one (bits (flip a i))
    → (1 - m) * h ≡ one (registered cut bits a i)
unfolding registered
registered_digit cut bits a i m h em eh = ap₂ (λ (x y : ℕ). (1 - x) * y) em eh ∙ one_unless (cut a i) (bits (flip a i))

-- with no link faulty all n are registered at bit 0, and else at most n−1
sound_links : (cut : ℕ → Bool) (n : ℕ) → 0 < n → any cut n ≡ leb (count (λ i. not (cut i) && true) n) (n - 1)
sound_links cut n h = any_count cut n ∙ go (count cut n) (count (λ i. not (cut i) && true) n) refl (sums n)
  where
    sums : (m : ℕ) → count cut m + count (λ i. not (cut i) && true) m ≡ m
    sums m = ap (λ (x : ℕ). count cut m + x) (count_cong (λ i. not (cut i) && true) (λ i. not (cut i)) m (λ i l. and-true (not (cut (suc i))))) ∙ count_not cut m

    go : (c r : ℕ) → count cut n ≡ c → c + r ≡ n → ltb 0 c ≡ leb r (n - 1)
    go zero r e s = le-ltb 0 0 (omega arith) ∙ sym (lt-leb r (n - 1) (omega arith))
    go (suc c) r e s = lt-ltb 0 (suc c) (omega arith) ∙ sym (le-leb r (n - 1) (omega arith))

-- with bit 0 taken as 1, every bit from 1 obeys one recurrence
pub recurrence : Recurrence
unfolding safe supported registered
recurrence C zero a h = ap (λ (b : Bool). C.works a && not b) (sound_links (C.cut a) C.dim h)
recurrence C (suc k) a h = refl

-- bits that agree at a's neighbours support the same
pub supported_cong : (C : Cube) (p q : ℕ → Bool) (k a : ℕ) → ((i : ℕ) → i < C.dim → p (flip a (suc i)) ≡ q (flip a (suc i)))
    → supported C p k a ≡ supported C q k a
unfolding supported registered
supported_cong C p q k a h =
    ap (λ (x : ℕ). not (leb x (C.dim - k)))
    (count_cong (registered C.cut p a) (registered C.cut q a) C.dim (λ i l. ap (λ (b : Bool). not (C.cut a (suc i)) && b) (h i l)))

-- cubes whose links agree have the same bits
pub safe_cong : (n : ℕ) (w : ℕ → Bool) (f g : ℕ → ℕ → Bool) → 0 < n → ((a i : ℕ) → a < 2 ^ n → i < n → f a (suc i) ≡ g a (suc i))
    → (k a : ℕ) → a < 2 ^ n → safe (record { dim = n; works = w; cut = f }) k a ≡ safe (record { dim = n; works = w; cut = g }) k a
unfolding safe supported registered
safe_cong n w f g h same zero a l = refl
safe_cong n w f g h same (suc k) a l =
    let F : Cube = record { dim = n; works = w; cut = f } in
    let G : Cube = record { dim = n; works = w; cut = g } in
    recurrence F k a h
    ∙ ap (λ (x : ℕ). w a && not (leb x (n - suc k)))
    (count_cong (registered f (safe F k) a) (registered g (safe G k) a) n
    (λ i m. ap₂ (λ (c b : Bool). not c && b) (same a i l m) (safe_cong n w f g h same k (flip a (suc i)) (flip_lt n a (suc i) l m))))
    ∙ sym (recurrence G k a h)

-- at most n−k neighbours registered with the bit are too few
pub too_few : (C : Cube) (bits : ℕ → Bool) (k a : ℕ) → count (registered C.cut bits a) C.dim ≤ C.dim - k → supported C bits k a ≡ false
unfolding supported
too_few C bits k a h = ap not (le-leb _ _ h)

-- and more than that are enough
pub enough : (C : Cube) (bits : ℕ → Bool) (k a : ℕ) → C.dim - k < count (registered C.cut bits a) C.dim → supported C bits k a ≡ true
unfolding supported
enough C bits k a h = ap not (lt-leb _ _ h)

-- a board with a bit from 1 set is working
pub safe_works : (C : Cube) (k a : ℕ) → safe C (suc k) a ≡ true → C.works a ≡ true
unfolding safe
safe_works C zero a e = (and_parts (C.works a) _ e).0
safe_works C (suc k) a e = (and_parts (C.works a) _ e).0

-- a board with bit k + 1 set has more than n − (k + 1) neighbours registered with bit k
pub safe_sum : (C : Cube) (k a : ℕ) → 0 < C.dim → safe C (suc k) a ≡ true → C.dim - suc k < count (registered C.cut (safe C k) a) C.dim
unfolding supported
safe_sum C k a h e =
    leb-false _ _ (not-true _ (and_parts (C.works a) _ (sym (recurrence C k a h) ∙ e)).1)

-- a board with its own bit of its distance k + 1 has a preferred neighbour registered with bit k
pub safe_preferred : (C : Cube) (k a nav : ℕ) → 0 < C.dim → nav < 2 ^ C.dim → weight nav ≡ suc k → safe C (suc k) a ≡ true
    → (i : ℕ) × (i < C.dim) × (bit nav (suc i) ≡ true) × (registered C.cut (safe C k) a (suc i) ≡ true)
safe_preferred C k a nav h hn w e =
    both (bit nav) (registered C.cut (safe C k) a) C.dim (omega (arith, weight_below C.dim nav hn, safe_sum C k a h e))

-- ---- the table

-- the bits of a vector
pub bit_vector : (C : Cube) (a k : ℕ) → k < C.dim → bit (vector C a) (suc k) ≡ safe C (suc k) a
unfolding vector bits_of
bit_vector C a k h = bit_pack (bits_of C a) C.dim k h

pub get_or_vectors : (C : Cube) (a : ℕ) → a < 2 ^ C.dim → get_or (vectors C) a 0 ≡ vector C a
unfolding vectors
get_or_vectors C a h = get_or_table (vector C) (2 ^ C.dim) a h
