-- The class of a board by its status byte.
use Rattle.std.specs.Prelude.{ℕ, Bool, true, false, cond, eqb, leb}
use Rattle.report.specs.declared.Class.{Class}
use Rattle.report.specs.declared.Class.TheVariants.{Silent, Working, Late, Down, Empty}

-- 0 silent, 1 to 4 working, 5 to 253 late, 254 down, 255 empty
unfoldable pub class_of : ℕ → Class
class_of b =
    cond (eqb b 0) Silent
    (cond (leb b 4) Working
    (cond (leb b 253) Late
    (cond (eqb b 254) Down Empty)))

-- only working boards are nonfaulty
abbrev pub is_working : Class → Bool
is_working Silent = false
is_working Working = true
is_working Late = false
is_working Down = false
is_working Empty = false
