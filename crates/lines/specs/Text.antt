-- Text as a list of bytes: words, decimal numbers, and lines.
use Rattle.std.specs.Prelude.{ℕ, zero, suc, ◌^◌, cond, List, [], ◌∷◌, ◌++◌, ltb}
use Prim.Native.Char.{code}
use Prim.Native.String.{String, [] as none, ◌∷◌ as ◌then◌}
use Rattle.io.specs.Digits.{last_digits}

-- the bytes of a word, in ASCII
abbrev pub spell : String → List ℕ
spell none = []
spell (c then s) = code c ∷ spell s

-- the highest of 10, 100, .. 10^k that is at most n, by its exponent; 0 if none is
unfoldable pub tens : ℕ → ℕ → ℕ
tens zero n = 0
tens (suc k) n = cond (ltb n (10 ^ suc k)) (tens k n) (suc k)

-- a number of up to 20 digits, as every u64 is, in decimal
unfoldable pub decimal : ℕ → List ℕ
unfolding tens
decimal n = last_digits 10 (suc (tens 19 n)) n

-- a space, a number and the line's end
unfoldable pub valued : ℕ → List ℕ
valued m = spell " " ++ (decimal m ++ spell "\n")

-- a line of a word and a number
unfoldable pub titled : List ℕ → ℕ → List ℕ
titled word m = word ++ valued m

-- f 0, f 1, .., k texts one after the other
unfoldable pub joined : (ℕ → List ℕ) → ℕ → List ℕ
joined f zero = []
joined f (suc k) = joined f k ++ f k
