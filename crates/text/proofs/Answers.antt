-- What Open answers over two slices of 1,024 places, and the text of its answer.
use mathlib.Core.Path.{◌≡◌, refl, sym, ◌∙◌}
use mathlib.Core.Bool.{Bool}
use mathlib.Core.List.{List}
use Prim.Native.Nat.{ℕ, zero, suc, ◌^◌, ◌≤◌, ◌<◌}
use native.Mathlib.Omega.{arith}
use borrow.Author.Tests.{lt-ltb, le-ltb}
use lib.ListN.{length, take, drop, length-append}
use lib.Pow.{pow_mono}
use lib.Seq.{take_at}
use Rattle.cube.specs.Reply.{Reply, refused, accepted}
use Rattle.cube.proofs.Reply.{refused_accepted}
use Rattle.report.specs.Report.{Report, report, cube}
use Rattle.safety.specs.Safety.{bits_of}
use Rattle.record.specs.Open.{n_in, status_in, links_in, open_refusal, opened, status_opened, links_opened}
use Rattle.record.proofs.Fields.{count_status, count_links}
use Rattle.record.proofs.Refusals.{readable, after_reading, after_refusal}
use Rattle.lines.specs.Text.{spell, titled, joined}
use Rattle.lines.proofs.Text.{length_titled, length_joined}
use Rattle.text.specs.Listing.{line_of, cube_text, listed, listing, places}
use Rattle.text.specs.Fit.{Fits, Placed, Fit, listed_of}
use Rattle.text.proofs.Lines.{length_header, length_line, take_whole, listed_whole}

-- what is known of an accepted record: its fields stand at the start of the slices, and Fill accepts them
pub record Read (bytes : List ℕ) (n : ℕ) (status links : List ℕ) : Type 0 where
  pub status_first : take (2 ^ n) status ≡ status_in bytes
  pub links_first : take (2 ^ n) links ≡ links_in bytes
  pub status_room : 2 ^ n ≤ length status
  pub links_room : 2 ^ n ≤ length links
  pub fits : Fits (report n (status_in bytes) (links_in bytes))

pub read : (bytes : List ℕ) (n : ℕ) (status links : List ℕ) → accepted n ≡ opened bytes places places
    → status ≡ status_opened bytes places places → links ≡ links_opened bytes places places → Read bytes n status links
read bytes n status links er es el = go (open_refusal bytes places places) refl
  where
    go : (m : ℕ) → open_refusal bytes places places ≡ m → Read bytes n status links
    go zero e =
        let it = readable bytes places places e in
        let after = after_reading bytes places places e in
        let same : n ≡ n_in bytes = let whole : accepted n ≡ accepted (n_in bytes) = er ∙ sym after.0 in cc in
        let status_first = take_at (status_in bytes) (drop (2 ^ n_in bytes) places) (2 ^ n_in bytes) (count_status bytes (omega (arith, it.size))) in
        let links_first = take_at (links_in bytes) (drop (2 ^ n_in bytes) places) (2 ^ n_in bytes) (count_links bytes) in
        rw (same, es, el, ← after.1.0, ← after.1.1) (record {
          status_first = status_first;
          links_first = links_first;
          status_room = omega (arith, length-append (status_in bytes) (drop (2 ^ n_in bytes) places), count_status bytes (omega (arith, it.size)));
          links_room = omega (arith, length-append (links_in bytes) (drop (2 ^ n_in bytes) places), count_links bytes);
          fits = record {
            low = it.at_least_one;
            high = it.dimensions;
            status_size = count_status bytes (omega (arith, it.size));
            links_size = count_links bytes;
            narrow_links = it.narrow_links;
          };
        })
    go (suc m) e =
        let after = after_refusal bytes places places (suc m) (sym e) (λ z. omega arith) in
        absurd (refused_accepted (suc m) n (after.0 ∙ sym er))

-- the text for over 4,096 bytes
pub too_long : (bytes : List ℕ) → 4096 < length bytes → listing bytes ≡ listed (refused 10) places places
unfolding listing listed
too_long bytes h = rw (lt-ltb 4096 (length bytes) h)

-- the text for bytes that Open refuses
pub not_read : (bytes : List ℕ) (m : ℕ) → length bytes ≤ 4096 → refused m ≡ opened bytes places places → listing bytes ≡ listed (refused m) places places
unfolding listing listed
not_read bytes m h e = rw (le-ltb 4096 (length bytes) h, ← e)

-- bytes that Open reads: Fill accepts the report, and it is the text
pub text_read : (bytes : List ℕ) (n k : ℕ) (status links : List ℕ) → k ≡ 2 ^ n → length bytes ≤ 4096 → accepted n ≡ opened bytes places places
    → Read bytes n status links
    → Fits (report n (take k status) (take k links)) × (listing bytes ≡ listed (accepted n) (take k status) (take k links))
unfolding listing
text_read bytes n k status links e h r it =
    rw (e, it.status_first, it.links_first, le-ltb 4096 (length bytes) h, ← r) (it.fits, refl)

-- the text of a refusal, which has room
pub refused_text : (m : ℕ) → m < 10000000000 → (titled (spell "refused") m ≡ listed (refused m) places places) × (length (listed (refused m) places places) ≤ 24584)
unfolding listed
refused_text m h = (refl, omega (arith, length_titled (spell "refused") m 9 h))

-- the text of a cube has room
pub length_cube : (n : ℕ) (status : List ℕ) (bits : ℕ → ℕ → Bool) → n ≤ 10 → length (cube_text n status bits) ≤ 24584
unfolding cube_text
length_cube n status bits h =
    let nodes = pow_mono {i = n} {j = 10} h in
    omega (
      arith,
      length-append (titled (spell "cube") n) (joined (line_of n status bits) (2 ^ n)),
      length_header n h,
      length_joined (line_of n status bits) 24 (2 ^ n) (λ a l. omega (arith, length_line n status bits a (omega arith))),
    )

-- so of whatever Open answers the text has room
pub length_listed : (reply : Reply ℕ) (status links : List ℕ) → Fit reply status links → length (listed_of reply status links) ≤ 24584
unfolding listed
length_listed (refused m) status links fit = (refused_text m (omega (arith, fit))).1
length_listed (accepted n) status links fit =
    let R = report n (take (2 ^ n) status) (take (2 ^ n) links) in
    length_cube n (take (2 ^ n) status) (bits_of (cube R)) fit.high

-- a report that Fill accepts stands at the start of its own slices
placed : (R : Report) → Fits R → Placed R.dim R.status R.links
placed R fits =
    record {
      low = fits.low;
      high = fits.high;
      status_room = omega (arith, fits.status_size);
      links_room = omega (arith, fits.links_size);
      narrow_links = rw (take_whole R.links (2 ^ R.dim) fits.links_size) fits.narrow_links;
    }

-- so the text of the report has room
pub length_report : (R : Report) → Fits R → length (listed (accepted R.dim) R.status R.links) ≤ 24584
length_report R fits =
    let room = length_listed (accepted R.dim) R.status R.links (placed R fits) in
    rw (listed_whole R fits) at room
