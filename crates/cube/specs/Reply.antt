-- What a job answers, in the paper's terms, and how a list of refusals is read.
use Rattle.std.specs.Prelude.{ℕ, zero, suc, ◌≡◌, Bool, cond, List, [], ◌∷◌}

-- a refusal with its number, or an acceptance with its values
pub data Reply (A : Type 0) : Type 0 where
  refused : ℕ → Reply A
  accepted : A → Reply A

-- what an acceptance leads to; a refusal is handed out
unfoldable pub if_accepted : {A B : Type 0} → (A → B) → Reply A → Reply B
if_accepted go (refused m) = refused m
if_accepted go (accepted x) = accepted (go x)

-- the number of the first test that holds, 0 where none does
unfoldable pub refusal : List (Bool × ℕ) → ℕ
refusal [] = 0
refusal (t ∷ ts) = cond t.0 t.1 (refusal ts)

-- the refusal of that number or, where it is 0, the answer
unfoldable pub unless : {A : Type 0} → ℕ → Reply A → Reply A
unless zero r = r
unless (suc m) r = refused (suc m)

-- lent memory afterwards: what is written, or after a refusal of that number what it was
unfoldable pub kept : ℕ → List ℕ → List ℕ → List ℕ
kept zero new old = new
kept (suc m) new old = old

-- the number of a refusal, 0 for an acceptance
abbrev pub number_of : {A : Type 0} → Reply A → ℕ
number_of (refused m) = m
number_of (accepted x) = 0

-- Two answers that say the same are equal: a contract that fixes what is said for an input allows one answer to it.
unfoldable pub OneAnswer : {A R : Type 0} → (R → Reply A) → Type 0
OneAnswer {R = R} said = (r₁ r₂ : R) → said r₁ ≡ said r₂ → r₁ ≡ r₂
