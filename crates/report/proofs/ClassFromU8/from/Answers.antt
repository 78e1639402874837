-- The conversion of a status byte meets its contract: each arm is one row of the table of classes.
use native.Mathlib.Omega.{arith}
use borrow.Author.Tests.{le-leb, lt-leb, ne_eqb}
use Rattle.report.specs.Class.{class_of}
use Rattle.report.proofs.ClassFromU8.from.Goals as goal

pub returns-in-0 : goal.returns-in-0
unfolding class_of
returns-in-0 c = rw c.in-0.is

pub returns-in-254 : goal.returns-in-254
unfolding class_of
returns-in-254 c = rw c.in-254.is

pub returns-in-255 : goal.returns-in-255
unfolding class_of
returns-in-255 c = rw c.in-255.is

pub returns-in-1-to-4 : goal.returns-in-1-to-4
unfolding class_of
returns-in-1-to-4 c =
    let b = c.args.byte in
    rw (ne_eqb b 0 (λ e. omega arith), le-leb b 4 (omega arith))

pub returns-in-5-to-253 : goal.returns-in-5-to-253
unfolding class_of
returns-in-5-to-253 c =
    let b = c.args.byte in
    rw (ne_eqb b 0 (λ e. omega arith), lt-leb b 4 (omega arith), le-leb b 253 (omega arith))
