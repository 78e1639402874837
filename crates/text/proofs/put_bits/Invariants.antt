-- `text::put_bits`: the loop keeps that the first k bits are put.
use Rattle.lines.specs.Put.{Puts}
use Rattle.text.specs.Listing.{row}
use Rattle.text.specs.Fit.{held_bits}
use Rattle.text.proofs.put_bits.Given as goal

abbrev pub invariant-loop-k : goal.invariant-loop-k
invariant-loop-k l = Puts (row (held_bits l.vectors l.a.0) l.k) l.initial.page l.page
