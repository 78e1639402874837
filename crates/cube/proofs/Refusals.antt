-- The laws of tests that refuse, and of answers that may be refusals.
use mathlib.Core.Path.{◌≡◌, refl, sym, ap, ◌∙◌}
use mathlib.Core.List.{List}
use mathlib.Core.Bool.{Bool, true, false, not, cond}
use Prim.Native.Nat.{ℕ, zero, suc, ◌≤◌}
use native.Mathlib.Omega.{arith}
use Rattle.std.specs.Prelude.{Result, Ok, Err, is_ok}
use Rattle.cube.specs.Reply.{Reply, refused, accepted, unless, kept, OneAnswer}
use Rattle.cube.specs.Refusals.{number_in, saying, refused_by}
use Rattle.cube.specs.declared.refusal.Refusal.{Refusal}
use Rattle.cube.specs.declared.refusal.Refusal.TheVariants.{Dimension, Length, LinkWord, Address, Source, Destination, NoRoute, NotBorneOut, NothingToOffer, Malformed, LogRecord, LogNode}
use Rattle.cube.proofs.Reply.{refused_accepted, unless_some, unless_none, kept_some, kept_none, one_answer}

-- no refusal is an answer
ok_err : {A : Type 0} (x : A) (e : Refusal) → ◌≡◌ {A = Result A Refusal} (Ok x) (Err e) → ⊥
ok_err x e h = let z : ◌≡◌ {A = ℕ} 0 1 = cc in omega arith

-- a test that refused didn't hold, and the refusal is its own
pub failed : (t : Bool) (r e : Refusal) → ◌≡◌ {A = Result (Unit {0}) Refusal} (Err e) (cond t (Ok tt) (Err r)) → (t ≡ false) × (e ≡ r)
failed true r e h = absurd (ok_err tt e (sym h))
failed false r e h = (refl, cc)

-- a test that did not refuse holds
pub holds : (t : Bool) (r : Refusal) (u : Unit {0}) → ◌≡◌ {A = Result (Unit {0}) Refusal} (Ok u) (cond t (Ok tt) (Err r)) → t ≡ true
holds true r u h = refl
holds false r u h = absurd (ok_err u r h)

-- the number of one test's refusal
pub of_test : (t : Bool) (r : Refusal) → refused_by (cond t (Ok tt) (Err r)) ≡ cond (not t) (number_in r) 0
of_test true r = refl
of_test false r = refl

-- the numbers are from 1 to 12
pub number_range : (e : Refusal) → (1 ≤ number_in e) × (number_in e ≤ 12)
number_range Dimension = (omega arith, omega arith)
number_range Length = (omega arith, omega arith)
number_range LinkWord = (omega arith, omega arith)
number_range Address = (omega arith, omega arith)
number_range Source = (omega arith, omega arith)
number_range Destination = (omega arith, omega arith)
number_range NoRoute = (omega arith, omega arith)
number_range NotBorneOut = (omega arith, omega arith)
number_range NothingToOffer = (omega arith, omega arith)
number_range Malformed = (omega arith, omega arith)
number_range LogRecord = (omega arith, omega arith)
number_range LogNode = (omega arith, omega arith)

-- so none is 0
pub number_some : (e : Refusal) → number_in e ≡ 0 → ⊥
number_some e h = absurd (omega (arith, (number_range e).0))

-- what is answered after a refusal
pub unless_refusal : {A : Type 0} (m : ℕ) (r : Reply A) (e : Refusal) → number_in e ≡ m → unless m r ≡ refused (number_in e)
unless_refusal m r e h = unless_some m r (λ z. number_some e (h ∙ z)) ∙ ap refused (sym h)

-- what a refusal leaves
pub kept_refusal : (m : ℕ) (new old : List ℕ) (e : Refusal) → number_in e ≡ m → kept m new old ≡ old
kept_refusal m new old e h = kept_some m new old (λ z. number_some e (h ∙ z))

-- the refusal of a number
abbrev pub refusal_of : ℕ → Refusal
refusal_of zero = Dimension
refusal_of (suc zero) = Dimension
refusal_of (suc (suc zero)) = Length
refusal_of (suc (suc (suc zero))) = LinkWord
refusal_of (suc (suc (suc (suc zero)))) = Address
refusal_of (suc (suc (suc (suc (suc zero))))) = Source
refusal_of (suc (suc (suc (suc (suc (suc zero)))))) = Destination
refusal_of (suc (suc (suc (suc (suc (suc (suc zero))))))) = NoRoute
refusal_of (suc (suc (suc (suc (suc (suc (suc (suc zero)))))))) = NotBorneOut
refusal_of (suc (suc (suc (suc (suc (suc (suc (suc (suc zero))))))))) = NothingToOffer
refusal_of (suc (suc (suc (suc (suc (suc (suc (suc (suc (suc zero)))))))))) = Malformed
refusal_of (suc (suc (suc (suc (suc (suc (suc (suc (suc (suc (suc zero))))))))))) = LogRecord
refusal_of (suc (suc (suc (suc (suc (suc (suc (suc (suc (suc (suc (suc k)))))))))))) = LogNode

pub refusal_back : (e : Refusal) → refusal_of (number_in e) ≡ e
refusal_back Dimension = refl
refusal_back Length = refl
refusal_back LinkWord = refl
refusal_back Address = refl
refusal_back Source = refl
refusal_back Destination = refl
refusal_back NoRoute = refl
refusal_back NotBorneOut = refl
refusal_back NothingToOffer = refl
refusal_back Malformed = refl
refusal_back LogRecord = refl
refusal_back LogNode = refl

-- answers that may be refusals are told apart by what they say, if their acceptances are
pub one_answer_by : {A B : Type 0} (f : A → B) (back : B → A) → ((x : A) → back (f x) ≡ x) → OneAnswer (saying f)
one_answer_by {A = A} {B = B} f back h = one_answer (saying f) undo undone
  where
    undo : Reply B → Result A Refusal
    undo (refused m) = Err (refusal_of m)
    undo (accepted y) = Ok (back y)

    undone : (r : Result A Refusal) → undo (saying f r) ≡ r
    undone (Ok x) = ap Ok (h x)
    undone (Err e) = ap Err (refusal_back e)

-- an answer that says an acceptance is one
pub accepts : {A B : Type 0} (f : A → B) (r : Result A Refusal) (y : B) → saying f r ≡ accepted y → is_ok r ≡ true
accepts f (Ok x) y e = refl
accepts f (Err m) y e = absurd (refused_accepted _ y e)

-- what the check applies at a list of tests, one after another with `?`
pub ruleset tests_in_turn = (failed, holds, of_test)

-- and at the exits of a job: after a refusal, and past the tests
pub ruleset refusal_or_answer = (unless_refusal, kept_refusal, unless_none, kept_none)
