-- Why a job refuses, by number, and what the answer of a job that may refuse says.
use Rattle.std.specs.Prelude.{ℕ, List, ◌++◌, codes, Result, Ok, Err}
use Rattle.std.specs.Fmt.{decimal}
use Rattle.cube.specs.Reply.{Reply, refused, accepted}
use Rattle.cube.specs.declared.refusal.Refusal.{Refusal}
use Rattle.cube.specs.declared.refusal.Refusal.TheVariants.{Dimension, Length, LinkWord, Address, Source, Destination, NoRoute, NotBorneOut, NothingToOffer, Malformed, LogRecord, LogNode}

-- the numbers of document 01
abbrev pub number_in : Refusal → ℕ
number_in Dimension = 1
number_in Length = 2
number_in LinkWord = 3
number_in Address = 4
number_in Source = 5
number_in Destination = 6
number_in NoRoute = 7
number_in NotBorneOut = 8
number_in NothingToOffer = 9
number_in Malformed = 10
number_in LogRecord = 11
number_in LogNode = 12

-- the words of a refusal, by its number
abbrev pub words_of : Refusal → List ℕ
words_of r = codes "refused " ++ decimal (number_in r)

-- what an answer says, an acceptance in the words of f
abbrev pub saying : {A B : Type 0} → (A → B) → Result A Refusal → Reply B
saying f (Ok x) = accepted (f x)
saying f (Err r) = refused (number_in r)

-- the number of a test's refusal, 0 where it passes
abbrev pub refused_by : Result (Unit {0}) Refusal → ℕ
refused_by (Ok x) = 0
refused_by (Err r) = number_in r
