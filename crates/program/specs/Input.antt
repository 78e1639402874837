-- What came of an input, and of the record in it.
use Rattle.std.specs.Prelude.{ℕ, Result, Ok, Err, List, cond, ltb, length, replicate}
use Rattle.cube.specs.Reply.{Reply, refused}
use Rattle.record.specs.Open.{opened}
use Rattle.program.specs.declared.Failed.{Failed}

-- how many bytes came, also before a read that failed
abbrev pub came : Result ℕ Failed → ℕ
came (Ok count) = count
came (Err failed) = failed.count

-- what Open answers to all bytes of an input: over 4,096 of them are refused by 10
unfoldable pub answered : List ℕ → Reply ℕ
unfolding opened
answered bytes = cond (ltb 4096 (length bytes)) (refused 10) (opened bytes (replicate 1024 0) (replicate 1024 0))
