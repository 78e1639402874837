-- Decide and Hop answer the same where vectors and link words are cut to n bits.
use mathlib.Core.Path.{◌≡◌, refl, ap, ap₂, sym, ◌∙◌}
use mathlib.Core.Bool.{Bool, true, false, not, ◌&&◌, ◌||◌}
use mathlib.Core.List.{List, [], ◌∷◌}
use Prim.Native.Nat.{ℕ, zero, suc, ◌%◌, ◌^◌, ◌≤◌, ◌<◌}
use native.Mathlib.Nat.{zero-mod}
use native.Mathlib.Omega.{arith}
use borrow.Author.Tests.{not-true}
use lib.Bits.{bit_xor, xor_lt}
use lib.ListN.{length, get_or}
use Rattle.cube.specs.Bits.{bit, flip, weight}
use Rattle.cube.specs.Reply.{Reply, unless}
use Rattle.cube.proofs.Bits.{bit_mod, flip_lt}
use Rattle.cube.proofs.Count.{pack_cong, weight_le, weight_on}
use Rattle.report.specs.Report.{cut, cube, all_sized}
use Rattle.safety.specs.Safety.{registered}
use Rattle.held.specs.Held.{held, own}
use Rattle.rules.specs.Refusals.{decide_refusal, hop_refusal}
use Rattle.rules.specs.Rules.{borne, offer, spare, proceed, at_source, at_node}
use Rattle.rules.specs.Decide.{decide}
use Rattle.rules.specs.Hop.{hop}
use Rattle.rules.specs.Unread.{trimmed, HigherUnread}
use Rattle.rules.proofs.Rules.{spare_bit}
use Rattle.rules.proofs.Refusals.{decide_clear, hop_clear}

length_trimmed : (n : ℕ) (ws : List ℕ) → length (trimmed n ws) ≡ length ws
unfolding trimmed
length_trimmed n [] = refl
length_trimmed n (w ∷ ws) = ap suc (length_trimmed n ws)

get_or_trimmed : (n : ℕ) (ws : List ℕ) (a : ℕ) → get_or (trimmed n ws) a 0 ≡ get_or ws a 0 % 2 ^ n
unfolding trimmed
get_or_trimmed n [] a = sym (zero-mod (2 ^ n))
get_or_trimmed n (w ∷ ws) zero = refl
get_or_trimmed n (w ∷ ws) (suc a) = get_or_trimmed n ws a

-- a bit up to n
bit_trimmed : (n : ℕ) (ws : List ℕ) (a i : ℕ) → i ≤ n → bit (get_or (trimmed n ws) a 0) i ≡ bit (get_or ws a 0) i
bit_trimmed n ws a i h = ap (λ (w : ℕ). bit w i) (get_or_trimmed n ws a) ∙ bit_mod (get_or ws a 0) n i h

own_trimmed : (n : ℕ) (vectors : List ℕ) (k a : ℕ) → k ≤ n → own (trimmed n vectors) k a ≡ own vectors k a
unfolding own held
own_trimmed n vectors zero a h = refl
own_trimmed n vectors (suc k) a h = bit_trimmed n vectors a (suc k) h

cut_trimmed : (n : ℕ) (links : List ℕ) (a i : ℕ) → i ≤ n → cut (trimmed n links) a i ≡ cut links a i
unfolding cut
cut_trimmed n links a i h = ap₂ ◌||◌ (bit_trimmed n links a i h) (bit_trimmed n links (flip a i) i h)

-- an offer by what is registered along the dimensions asked for
offer_cong : (n : ℕ) (c d : ℕ → ℕ → Bool) (p q : ℕ → Bool) (dims a : ℕ)
    → ((j : ℕ) → j < n → bit dims (suc j) ≡ true → registered c p a (suc j) ≡ registered d q a (suc j)) → offer n c p dims a ≡ offer n d q dims a
unfolding offer borne
offer_cong n c d p q dims a same = pack_cong (borne c p dims a) (borne d q dims a) n (λ j l. go j l (bit dims (suc j)) refl)
  where
    go : (j : ℕ) → j < n → (b : Bool) → bit dims (suc j) ≡ b → (b && registered c p a (suc j)) ≡ (b && registered d q a (suc j))
    go j l true e = same j l e
    go j l false e = refl

module _ (n : ℕ) (links vectors : List ℕ) where
  -- what is registered of a bit up to n
  heard_trimmed : (k a j : ℕ) → k ≤ n → j < n
      → registered (cut (trimmed n links)) (own (trimmed n vectors) k) a (suc j) ≡ registered (cut links) (own vectors k) a (suc j)
  unfolding registered
  heard_trimmed k a j h l = ap₂ (λ (c b : Bool). not c && b) (cut_trimmed n links a (suc j) (omega arith)) (own_trimmed n vectors k (flip a (suc j)) h)

  offer_trimmed : (k dims a : ℕ) → ((j : ℕ) → j < n → bit dims (suc j) ≡ true → k ≤ n)
      → offer n (cut (trimmed n links)) (own (trimmed n vectors) k) dims a ≡ offer n (cut links) (own vectors k) dims a
  offer_trimmed k dims a h =
      offer_cong n (cut (trimmed n links)) (cut links) (own (trimmed n vectors) k) (own vectors k) dims a (λ j l e. heard_trimmed k a j (h j l e) l)

  source_trimmed : (s nav h : ℕ) → nav < 2 ^ n → weight nav ≡ h
      → at_source n (cut (trimmed n links)) (own (trimmed n vectors)) s nav h ≡ at_source n (cut links) (own vectors) s nav h
  unfolding at_source
  source_trimmed s nav zero hn w = refl
  source_trimmed s nav (suc h) hn w =
      rw (own_trimmed n vectors (suc h) s low, offer_trimmed h nav s (λ j l e. omega (arith, low)), offer_trimmed (suc (suc h)) (spare n nav) s room)
    where
      low : suc h ≤ n
      low = omega (arith, weight_le n nav hn)

      -- a spare dimension leaves room for one bit more
      room : (j : ℕ) → j < n → bit (spare n nav) (suc j) ≡ true → suc (suc h) ≤ n
      room j l e =
          omega (
            arith,
            weight_on n nav j hn l (not-true _ (sym (spare_bit n nav j l) ∙ e)),
            weight_le n (flip nav (suc j)) (flip_lt n nav (suc j) hn l),
          )

  node_trimmed : (a nav h : ℕ) → nav < 2 ^ n → weight nav ≡ h
      → at_node n (cut (trimmed n links)) (own (trimmed n vectors)) a nav h ≡ at_node n (cut links) (own vectors) a nav h
  unfolding at_node
  node_trimmed a nav zero hn w = refl
  node_trimmed a nav (suc h) hn w = ap proceed (offer_trimmed h nav a (λ j l e. omega (arith, weight_le n nav hn)))

-- the rule's answers matter only where nothing refuses
unless_cong : {A : Type 0} (m : ℕ) (x y : Reply A) → (m ≡ 0 → x ≡ y) → unless m x ≡ unless m y
unfolding unless
unless_cong zero x y h = h refl
unless_cong (suc m) x y h = refl

pub higher_unread : HigherUnread
unfolding HigherUnread decide hop decide_refusal hop_refusal all_sized cube
higher_unread R vectors a b = (
  rw (length_trimmed R.dim R.links, length_trimmed R.dim vectors)
      (unless_cong (decide_refusal R vectors a b) _ _ (λ z.
      let k = decide_clear R vectors a b z in
      source_trimmed R.dim R.links vectors a (bit_xor a b) (weight (bit_xor a b)) (xor_lt R.dim a b k.node k.other) refl)),
  rw (length_trimmed R.dim R.links, length_trimmed R.dim vectors)
      (unless_cong (hop_refusal R vectors a b) _ _ (λ z. node_trimmed R.dim R.links vectors a b (weight b) (hop_clear R vectors a b z).other refl)),
)
