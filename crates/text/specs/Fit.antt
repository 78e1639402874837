-- What the listing's private functions are given: bits as held, and an accepted report.
use Rattle.std.specs.Prelude.{ℕ, ◌^◌, ◌≤◌, ◌<◌, ◌≡◌, Bool, true, List, length, take, Result, Ok, Err}
use Rattle.cube.specs.Reply.{Reply, refused, accepted}
use Rattle.cube.specs.Refusals.{number_in}
use Rattle.cube.specs.declared.refusal.Refusal.{Refusal}
use Rattle.report.specs.Report.{Report, reported, narrow}
use Rattle.report.specs.declared.Report.{Report as Lent}
use Rattle.held.specs.Held.{own}
use Rattle.text.specs.Listing.{listed, listing, places}

-- own bit k of node a as the boards hold it, the node first
unfoldable pub held_bits : List ℕ → ℕ → ℕ → Bool
unfolding own
held_bits vectors a k = own vectors k a

-- a report that Fill accepts
pub record Fits (R : Report) : Type 0 where
  pub low : 1 ≤ R.dim
  pub high : R.dim ≤ 10
  pub status_size : length R.status ≡ 2 ^ R.dim
  pub links_size : length R.links ≡ 2 ^ R.dim
  pub narrow_links : narrow R.dim R.links ≡ true

-- what Open reads of all of standard input: a report that Fill accepts, or a refusal, of which the text tells
abbrev pub Answers : List ℕ → Result Lent Refusal → Type 0
Answers bytes (Ok report) = Fits (reported report) × (listing bytes ≡ listed (accepted report.n) report.status.now report.links.now)
Answers bytes (Err refusal) = listing bytes ≡ listed (refused (number_in refusal)) places places

-- an accepted report of dimension n at the start of two slices
pub record Placed (n : ℕ) (status links : List ℕ) : Type 0 where
  pub low : 1 ≤ n
  pub high : n ≤ 10
  pub status_room : 2 ^ n ≤ length status
  pub links_room : 2 ^ n ≤ length links
  pub narrow_links : narrow n (take (2 ^ n) links) ≡ true

-- what Open answers: an accepted report, or a refusal's number
abbrev pub Fit : Reply ℕ → List ℕ → List ℕ → Type 0
Fit (accepted n) status links = Placed n status links
Fit (refused m) status links = m < 10000

-- the text of an answer, with the report at the start of the slices
abbrev pub listed_of : Reply ℕ → List ℕ → List ℕ → List ℕ
listed_of (accepted n) status links = listed (accepted n) (take (2 ^ n) status) (take (2 ^ n) links)
listed_of (refused m) status links = listed (refused m) status links
