-- The listing of a record.
use Rattle.std.specs.Prelude.{ℕ, zero, suc, ◌+◌, ◌^◌, Bool, cond, List, [], ◌∷◌, ◌++◌, ltb, length, get_or, replicate}
use Rattle.cube.specs.Count.{one}
use Rattle.cube.specs.Reply.{Reply, refused, accepted}
use Rattle.report.specs.Class.{class_of}
use Rattle.report.specs.Report.{report, cube}
use Rattle.report.specs.declared.Class.{Class}
use Rattle.report.specs.declared.Class.TheVariants.{Silent, Working, Late, Down, Empty}
use Rattle.safety.specs.Safety.{bits_of}
use Rattle.record.specs.Open.{status_in, links_in, opened}
use Rattle.lines.specs.Text.{spell, decimal, titled, joined}

-- the name of a class
abbrev pub named : Class → List ℕ
named Silent = spell "silent"
named Working = spell "working"
named Late = spell "late"
named Down = spell "down"
named Empty = spell "empty"

-- the name of a class between two spaces
unfoldable pub spaced : Class → List ℕ
spaced class = spell " " ++ (named class ++ spell " ")

-- p 1 to p n as one row of digits
unfoldable pub row : (ℕ → Bool) → ℕ → List ℕ
row p zero = []
row p (suc n) = row p n ++ ((48 + one (p (suc n))) ∷ [])

-- the line of node a: its number, its class, and its bits from 1 to n
unfoldable pub line : ℕ → Class → (ℕ → Bool) → ℕ → List ℕ
line n class bits a = decimal a ++ (spaced class ++ (row bits n ++ spell "\n"))

-- the line of node a, of the class that its status byte gives
unfoldable pub line_of : ℕ → List ℕ → (ℕ → ℕ → Bool) → ℕ → List ℕ
line_of n status bits a = line n (class_of (get_or status a 0)) (bits a) a

-- the header, and the lines of all nodes
unfoldable pub cube_text : ℕ → List ℕ → (ℕ → ℕ → Bool) → List ℕ
unfolding titled joined line_of
cube_text n status bits = titled (spell "cube") n ++ joined (line_of n status bits) (2 ^ n)

-- of an accepted record its cube with the bits of Definition 1, else the refusal
unfoldable pub listed : Reply ℕ → List ℕ → List ℕ → List ℕ
unfolding cube_text titled bits_of cube
listed (accepted n) status links = cube_text n status (bits_of (cube (report n status links)))
listed (refused m) status links = titled (spell "refused") m

-- as many places as the largest cube has nodes
abbrev pub places : List ℕ
places = replicate 1024 0

-- the text for all bytes of standard input: over 4,096 of them are refused by 10, else they are the record
unfoldable pub listing : List ℕ → List ℕ
unfolding listed opened status_in links_in
listing bytes =
    listed (cond (ltb 4096 (length bytes)) (refused 10) (opened bytes places places)) (status_in bytes) (links_in bytes)
