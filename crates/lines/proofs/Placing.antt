-- The laws of text put into a buffer: one text after another, and a text that has room.
use mathlib.Core.Path.{◌≡◌, refl, ap, sym, ◌∙◌}
use mathlib.Core.List.{List, [], ◌∷◌, ◌++◌}
use Prim.Native.Nat.{ℕ, suc, ◌+◌, ◌-◌, ◌≤◌, ◌<◌}
use native.Mathlib.Nat.{add-zero}
use native.Mathlib.Numerals.{add-one}
use native.Mathlib.Omega.{arith, min_cases}
use lib.ListN.{length, get_or, take, drop, set, length-append}
use lib.Seq.{sets, sets-eq, length-sets, set_out, take-suc, length-take-le}
use Rattle.io.specs.Counts.{IsPrefixLen}
use Rattle.lines.specs.Put.{Put, Puts}
use Rattle.lines.specs.declared.Page.{Page}

-- past the end nothing is put
sets_out : (l : List ℕ) (i : ℕ) (t : List ℕ) → length l ≤ i → sets l i t ≡ l
sets_out l i [] h = refl
sets_out l i (a ∷ t) h = rw (set_out l i a h) (sets_out l (suc i) t (omega arith))

sets_append : (l : List ℕ) (i : ℕ) (t u : List ℕ) → sets l i (t ++ u) ≡ sets (sets l i t) (i + length t) u
sets_append l i [] u = rw add-zero
sets_append l i (a ∷ t) u =
    sets_append (set l i a) (suc i) t u
    ∙ ap (λ (k : ℕ). sets (sets (set l i a) (suc i) t) k u) (let e : suc i + length t ≡ i + suc (length t) = omega arith in e)

-- what is put leaves the buffer as long as it was
pub put_length : {t old new : List ℕ} {at next : ℕ} → Put t at old new next → length new ≡ length old
put_length {t} {old} {at = at} p = ap length p.stands ∙ length-sets old at t

-- no text
pub put_none : (old : List ℕ) (at : ℕ) → Put [] at old old at
put_none old at = record { after = omega arith; stands = refl }

-- one text after another
pub put_then : {t u old new₁ new₂ : List ℕ} {at next₁ next₂ : ℕ} → Put t at old new₁ next₁ → Put u next₁ new₁ new₂ next₂ → Put (t ++ u) at old new₂ next₂
put_then {t} {u} {old} {new₁} {at = at} {next₁ = next₁} p q =
    record {
      after = omega (arith, p.after, q.after, length-append t u, put_length p);
      stands = q.stands ∙ place ∙ rw p.stands (sym (sets_append old at t u));
    }
  where
    place : sets new₁ next₁ u ≡ sets new₁ (at + length t) u
    place =
        min_cases (length t) (length old - at) (sets new₁ next₁ u ≡ sets new₁ (at + length t) u)
        (λ h e. ap (λ (k : ℕ). sets new₁ k u) (p.after ∙ ap (λ (k : ℕ). at + k) e))
        (λ h e. sets_out new₁ next₁ u (omega (arith, p.after, put_length p)) ∙ sym (sets_out new₁ (at + length t) u (omega (arith, put_length p))))

-- the same of pages
pub puts_none : (page : Page) → Puts [] page page
puts_none page = record { put = put_none page.out.now page.at; same_reference = refl }

pub puts_then : {t u : List ℕ} {old mid new : Page} → Puts t old mid → Puts u mid new → Puts (t ++ u) old new
puts_then p q = record { put = put_then p.put q.put; same_reference = q.same_reference ∙ p.same_reference }

-- the next byte of a word
pub puts_next : (word : List ℕ) (i : ℕ) {old mid new : Page} → i < length word → Puts (take i word) old mid
    → Puts (get_or word i 0 ∷ []) mid new → Puts (take (i + 1) word) old new
puts_next word i h p q = rw (add-one, take-suc word i 0) (puts_then p q)

-- a text at the start of a buffer that has room for it
pub put_whole : {t old new : List ℕ} {r : ℕ} → Put t 0 old new r → length t ≤ length old → IsPrefixLen r new × ((r ≡ length t) × (new ≡ t ++ drop r old))
put_whole {t} {old} {new} {r} p h =
    let size : r ≡ length t = omega (arith, p.after) in
    let end : 0 + length t ≡ r = omega arith in
    let whole : new ≡ t ++ drop r old = p.stands ∙ sets-eq t old 0 (omega arith) ∙ ap (λ (k : ℕ). t ++ drop k old) end in
    let long : r ≤ length new = omega (arith, put_length p) in
    ((long, sym (length-take-le r new long)), (size, whole))

pub puts_whole : {t : List ℕ} {old new : Page} → Puts t old new → old.at ≡ 0 → length t ≤ length old.out.now
    → IsPrefixLen new.at new.out.now × ((new.at ≡ length t) × (new.out.now ≡ t ++ drop new.at old.out.now))
puts_whole p start h = put_whole (rw start at p.put) h
