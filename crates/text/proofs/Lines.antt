-- The laws of a listing's rows and lines: how long they are, and that over Fill's vectors their bits are those of Definition 1.
use mathlib.Core.Path.{◌≡◌, refl, ap, sym, ◌∙◌}
use mathlib.Core.Bool.{Bool}
use mathlib.Core.List.{List, [], ◌∷◌, ◌++◌}
use Prim.Native.Nat.{ℕ, zero, suc, ◌+◌, ◌^◌, ◌≤◌, ◌<◌}
use native.Mathlib.Numerals.{add-one}
use native.Mathlib.Omega.{arith}
use borrow.Author.Tests.{eq-eqb, le-leb}
use lib.ListN.{length, get_or, take, drop, length-append, length-drop}
use lib.Seq.{take_at, take-length, get_or-take, length-take-le}
use Rattle.cube.specs.Count.{one}
use Rattle.cube.specs.Reply.{accepted, refusal}
use Rattle.cube.proofs.Reply.{kept_none, unless_none}
use Rattle.cube.proofs.Table.{length_table}
use Rattle.report.specs.Class.{class_of}
use Rattle.report.specs.Health.{Cube}
use Rattle.report.specs.Report.{Report, report, cube, dimension, sized, all_sized}
use Rattle.report.specs.declared.Class.{Class}
use Rattle.report.specs.declared.Class.TheVariants.{Silent, Working, Late, Down, Empty}
use Rattle.safety.specs.Safety.{bits_of, vector, vectors}
use Rattle.vectors.specs.Fill.{fill_refusal, fill, filled}
use Rattle.held.specs.Held.{own}
use Rattle.held.proofs.Held.{own_safe}
use Rattle.lines.specs.Text.{spell, titled, joined}
use Rattle.lines.specs.Put.{Puts}
use Rattle.lines.specs.declared.Page.{Page}
use Rattle.lines.proofs.Placing.{puts_then}
use Rattle.lines.proofs.Text.{length_decimal, length_titled, joined_cong}
use Rattle.text.specs.Fit.{held_bits, Fits, listed_of}
use Rattle.text.specs.Listing.{spaced, row, line, line_of, cube_text, listed}

-- ---- rows of bits

length_row : (p : ℕ → Bool) (n : ℕ) → length (row p n) ≡ n
unfolding row
length_row p zero = refl
length_row p (suc n) = length-append (row p n) ((48 + one (p (suc n))) ∷ []) ∙ ap (λ (j : ℕ). j + 1) (length_row p n) ∙ add-one n

-- one bit more is put
pub row_put : (p : ℕ → Bool) (k : ℕ) {v : ℕ} {old mid new : Page} → v ≡ one (p (k + 1)) → Puts (row p k) old mid → Puts ((48 + v) ∷ []) mid new → Puts (row p (k + 1)) old new
unfolding row
row_put p k {v} e done q =
    let bit : v ≡ one (p (suc k)) = rw add-one at e in
    rw (add-one, ← bit) (puts_then done q)

-- rows of equal bits
row_cong : (p q : ℕ → Bool) (n : ℕ) → ((k : ℕ) → k < n → p (suc k) ≡ q (suc k)) → row p n ≡ row q n
unfolding row
row_cong p q zero h = refl
row_cong p q (suc n) h = rw (row_cong p q n (λ k l. h k (omega arith)), h n (omega arith))

-- ---- lines

length_spaced : (k : Class) → length (spaced k) ≤ 9
unfolding spaced
length_spaced Silent = omega arith
length_spaced Working = omega arith
length_spaced Late = omega arith
length_spaced Down = omega arith
length_spaced Empty = omega arith

-- a line has at most 14 bytes besides its bits
pub length_line : (n : ℕ) (status : List ℕ) (bits : ℕ → ℕ → Bool) (a : ℕ) → a < 10000 → length (line_of n status bits a) ≤ 14 + n
unfolding line_of line
length_line n status bits a h = simp length-append (omega (arith, length_decimal a 3 h, length_spaced (class_of (get_or status a 0)), length_row (bits a) n))

-- the header of a cube
pub length_header : (n : ℕ) → n ≤ 10 → length (titled (spell "cube") n) ≤ 8
length_header n h = length_titled (spell "cube") n 1 (omega arith)

module _ (R : Report) (fits : Fits R) (vs : List ℕ) where
  -- Fill accepts the report, the vectors having room
  report_fills : 2 ^ R.dim ≤ length vs → fill_refusal R (take (2 ^ R.dim) vs) ≡ 0
  unfolding fill_refusal refusal dimension sized all_sized
  report_fills h =
      rw (
        le-leb 1 R.dim fits.low,
        le-leb R.dim 10 fits.high,
        eq-eqb (length R.status) (2 ^ R.dim) fits.status_size,
        eq-eqb (length R.links) (2 ^ R.dim) fits.links_size,
        eq-eqb (length (take (2 ^ R.dim) vs)) (2 ^ R.dim) (length-take-le (2 ^ R.dim) vs h),
        fits.narrow_links,
      )

  pub fill_accepts : (k : ℕ) → k ≡ 2 ^ R.dim → 2 ^ R.dim ≤ length vs → fill R (take k vs) ≡ accepted tt
  unfolding fill
  fill_accepts k e h = rw e (unless_none _ _ (report_fills h))

  -- what Fill leaves at the start of its room
  pub filled_first : (k : ℕ) (new : List ℕ) → k ≡ 2 ^ R.dim → 2 ^ R.dim ≤ length vs → new ≡ filled R (take k vs)
      → (length vs ≡ length (new ++ drop k vs)) × (take (2 ^ R.dim) (new ++ drop k vs) ≡ vectors (cube R))
  unfolding filled vectors cube
  filled_first k new e h f =
      let full : new ≡ vectors (cube R) = rw e at f ∙ kept_none _ _ _ (report_fills h) in
      let size : length new ≡ 2 ^ R.dim = ap length full ∙ length_table (vector (cube R)) (2 ^ R.dim) in (
        omega (arith, length-append new (drop k vs), length-drop k vs),
        take_at new (drop k vs) (2 ^ R.dim) size ∙ full,
      )

-- a slice of as many places is all taken
pub take_whole : (xs : List ℕ) (k : ℕ) → length xs ≡ k → take k xs ≡ xs
take_whole xs k e = rw (← e) (take-length xs)

module _ (n : ℕ) (status links vs : List ℕ) where
  -- the report at the start of the slices, as the mathematics sees it
  abbrev C : Cube
  C = cube (report n (take (2 ^ n) status) (take (2 ^ n) links))

  module _ (full : take (2 ^ n) vs ≡ vectors C) where
    -- over Fill's vectors the boards hold the bits of Definition 1
    filled_line : (a : ℕ) → a < 2 ^ n → line_of n status (held_bits vs) a ≡ line_of n (take (2 ^ n) status) (bits_of C) a
    unfolding line_of line held_bits bits_of own cube
    filled_line a h =
        let word : get_or vs a 0 ≡ get_or (vectors C) a 0 = sym (get_or-take (2 ^ n) vs a 0 h) ∙ ap (λ (l : List ℕ). get_or l a 0) full in
        rw (get_or-take (2 ^ n) status a 0 h, row_cong (held_bits vs a) (bits_of C a) n (λ k l. rw word (own_safe C (suc k) a (omega arith) h)))

    -- the header and the lines over Fill's vectors are the text of the cube
    pub cube_listed : titled (spell "cube") n ++ joined (line_of n status (held_bits vs)) (2 ^ n) ≡ listed_of (accepted n) status links
    unfolding listed cube_text
    cube_listed = rw (joined_cong (line_of n status (held_bits vs)) (line_of n (take (2 ^ n) status) (bits_of C)) (2 ^ n) filled_line)

-- of a report that Fill accepts it is the whole slices that are listed
module _ (R : Report) (fits : Fits R) where
  whole : report R.dim (take (2 ^ R.dim) R.status) (take (2 ^ R.dim) R.links) ≡ R
  whole = rw (take_whole R.status (2 ^ R.dim) fits.status_size, take_whole R.links (2 ^ R.dim) fits.links_size)

  pub listed_whole : listed_of (accepted R.dim) R.status R.links ≡ listed (accepted R.dim) R.status R.links
  listed_whole = ap (λ (S : Report). listed (accepted R.dim) S.status S.links) whole

  pub report_listed :
      (vs : List ℕ) →
      take (2 ^ R.dim) vs ≡ vectors (cube R) →
      titled (spell "cube") R.dim ++ joined (line_of R.dim R.status (held_bits vs)) (2 ^ R.dim) ≡ listed (accepted R.dim) R.status R.links
  report_listed vs full = cube_listed R.dim R.status R.links vs (rw whole full) ∙ listed_whole
