-- `vectors::write_vectors` meets its contract: 32 boards in five dimensions, 1,024 in ten.
use native.Mathlib.Omega.{arith}
use lib.Pow.{pow_mono}
use Rattle.vectors.proofs.write_vectors.Goals as goal

pub in_room-requires : goal.in_room-requires
in_room-requires c = (c.requires, pow_mono {i = c.args.report.now.n} {j = 5} (omega arith), omega arith)

pub in_room-requires-else-report-le5 : goal.in_room-requires-else-report-le5
in_room-requires-else-report-le5 c = (c.requires, pow_mono {i = c.args.report.now.n} {j = 10} c.requires.0, omega arith)
