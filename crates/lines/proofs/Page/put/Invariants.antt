-- `Page::put`: the loop keeps that the bytes before this one are put.
use Rattle.std.proofs.Common.{take}
use Rattle.lines.specs.Put.{Puts}
use Rattle.lines.proofs.Page.put.Given as goal

abbrev pub invariant-loop-byte : goal.invariant-loop-byte
invariant-loop-byte l = Puts (take l.byte-index l.word) l.initial.self l.self
