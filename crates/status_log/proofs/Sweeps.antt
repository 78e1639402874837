-- The laws of a typed sweep number: `parse` reads it, where all its bytes are digits.
use mathlib.Core.Path.{◌≡◌, refl, ap, ◌∙◌}
use mathlib.Core.Bool.{Bool, true, false, ◌&&◌, and-false}
use mathlib.Core.List.{List, [], ◌∷◌}
use Prim.Native.Nat.{ℕ, ◌^◌, ◌<◌}
use native.Mathlib.Omega.{arith}
use borrow.Author.Tests.{lt-ltb, le-leb, ltb-true, leb-true}
use lib.Dec.{leb, ltb}
use lib.ListN.{length}
use Rattle.std.proofs.Common.{rules, Bor}
use Rattle.std.proofs.lemmas.Str.Parse.{IsNumeralModel, numerals_by_fold, parse_digits}
use Rattle.std.proofs.lemmas.Fmt.{IsAscii-from_digits}
use Rattle.std.proofs.lemmas.Str.{IsUtf8-from_ascii}
use Rattle.std.specs.Prelude.{Result, Ok, Err, Some, None, cond}
use Rattle.std.specs.Char.{is_ascii_digit}
use Rattle.std.specs.List.{list_all}
use Rattle.std.specs.Result.{OkIff, MatchResult, result_ok}
use Rattle.std.specs.Str.{IsUtf8}
use Rattle.std.specs.Str.Parse.{ParsesUnsigned}
use Rattle.status_log.specs.Sweep.{digits, value, sweep_in}

-- digits and their number are std's
own : IsNumeralModel (λ ds. digits ds ≡ true) (value 0)
unfolding digits value
own = numerals_by_fold _ (search rules) value (search rules)

pub digits_all : (text : List ℕ) → list_all is_ascii_digit text ≡ digits text
unfolding digits
digits_all [] = refl
digits_all (b ∷ bs) = ap (λ t. is_ascii_digit b && t) (digits_all bs)

-- a text with another byte names none
pub none_by_digits : (text : List ℕ) → digits text ≡ false → None ≡ sweep_in text
unfolding sweep_in
none_by_digits text e = rw (e, and-false)

-- a text that writes no number, or one above 65,535, names none
none_by_limits : (text : List ℕ) → ¬ ((0 < length text) × (value 0 text < 2 ^ 16)) → None ≡ sweep_in text
unfolding sweep_in
none_by_limits text out = go (ltb 0 (length text)) (leb (value 0 text) 65535) refl refl
  where
    go : (some small : Bool) → ltb 0 (length text) ≡ some → leb (value 0 text) 65535 ≡ small → None ≡ cond (ltb 0 (length text) && (digits text && leb (value 0 text) 65535)) (Some (value 0 text)) None
    go false small a b = rw a refl
    go true false a b = rw (b, and-false, and-false) refl
    go true true a b = absurd (out (ltb-true 0 (length text) a, omega (arith, leb-true (value 0 text) 65535 b)))

read_by_limits : {E : Type 0} (text : List ℕ) (r : Result ℕ E) → digits text ≡ true → OkIff r ((0 < length text) × (value 0 text < 2 ^ 16)) (value 0 text) → result_ok r ≡ sweep_in text
unfolding sweep_in
read_by_limits text (Ok x) all it = rw (it.1, all, lt-ltb 0 (length text) it.0.0, le-leb (value 0 text) 65535 (omega (arith, it.0.1))) refl
read_by_limits text (Err e) all it = none_by_limits text it

module _ (text : List ℕ) (all : digits text ≡ true) where
  -- digits are a text
  pub digits_text : IsUtf8 text
  digits_text = IsUtf8-from_ascii text (IsAscii-from_digits text (own.to text all))

  -- what `parse` answers is the sweep that digits name
  pub parsed : {E : Type 0} (r : Result ℕ E) → ParsesUnsigned 16 10 text r → result_ok r ≡ sweep_in text
  parsed r h = read_by_limits text r all (parse_digits own 16 text r h all)

  -- so `from_utf8` takes them
  pub never_refused : {E : Type 0} (X : E → Type 0) (r : Result (Bor (List ℕ)) E) → MatchResult r (λ t. (t.now ≡ text) × IsUtf8 text) (λ e. ¬ IsUtf8 text × X e) → None ≡ result_ok r → ⊥
  never_refused X (Ok t) it e = absurd (let z : ◌≡◌ {A = ℕ} 0 1 = cc in omega arith)
  never_refused X (Err d) it e = it.0 digits_text

  pub same_text : {E : Type 0} (X : E → Type 0) (r : Result (Bor (List ℕ)) E) (t : Bor (List ℕ)) → MatchResult r (λ t. (t.now ≡ text) × IsUtf8 text) (λ e. ¬ IsUtf8 text × X e) → Some t ≡ result_ok r → t.now ≡ text
  same_text X (Ok u) t it e = let same : t ≡ u = cc in ap (λ x. x.now) same ∙ it.0
  same_text X (Err d) t it e = absurd (let z : ◌≡◌ {A = ℕ} 0 1 = cc in omega arith)
