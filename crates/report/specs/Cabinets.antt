-- Document 01's cabinets to check by.
use Rattle.std.specs.Prelude.{replicate, set}
use Rattle.report.specs.Report.{Report, report}

-- cabinet F: n = 4, no bad links, nodes 3, 4, 6 and 9 down, others byte 1
abbrev pub cabinet_f : Report
cabinet_f = report 4 (set (set (set (set (replicate 16 1) 3 254) 4 254) 6 254) 9 254) (replicate 16 0)

-- cabinet L: n = 4, node 11 down, others byte 1, word of node 12 is 1, word of node 0 is 2
abbrev pub cabinet_l : Report
cabinet_l = report 4 (set (replicate 16 1) 11 254) (set (set (replicate 16 0) 12 1) 0 2)
