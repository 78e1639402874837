-- The laws of replies and of lists of refusals. A list of refusals is a chain of `cond`.
use mathlib.Core.Path.{◌≡◌, refl, ap, sym, ◌∙◌}
use mathlib.Core.Bool.{Bool, true, false, not, cond}
use mathlib.Core.Logic.{◌⊎◌, inl, inr}
use mathlib.Core.List.{List}
use Prim.Native.Nat.{ℕ, zero, suc, ◌≤◌}
use native.Mathlib.Omega.{arith}
use Rattle.cube.specs.Reply.{Reply, refused, accepted, if_accepted, unless, kept, OneAnswer}

-- no refusal is an acceptance
pub refused_accepted : {A : Type 0} (m : ℕ) (x : A) → refused m ≡ accepted x → ⊥
refused_accepted m x e = let z : ◌≡◌ {A = ℕ} 0 1 = cc in omega arith

-- where nothing refuses, the first test doesn't hold, and no later one does
pub passed : (t : Bool) (m later : ℕ) → cond t (suc m) later ≡ 0 → (t ≡ false) × (later ≡ 0)
passed true m later e = absurd (omega arith)
passed false m later e = (refl, e)

-- the later tests count only where this one passes
pub later : (t : Bool) (m x y : ℕ) → (t ≡ true → x ≡ y) → cond (not t) m x ≡ cond (not t) m y
later true m x y f = f refl
later false m x y f = refl

-- a refusal is at most the greatest number of its list
pub refusal_le : (t : Bool) (m later top : ℕ) → m ≤ top → later ≤ top → cond t m later ≤ top
refusal_le true m later top h hs = h
refusal_le false m later top h hs = hs

-- an acceptance means that there was no refusal, and that it is the rule's
pub unless_accepted : {A : Type 0} (m : ℕ) (r : Reply A) (x : A) → unless m r ≡ accepted x → (m ≡ 0) × (r ≡ accepted x)
unfolding unless
unless_accepted zero r x e = (refl, e)
unless_accepted (suc m) r x e = absurd (refused_accepted _ _ e)

-- a number other than 0 is handed out
pub unless_some : {A : Type 0} (m : ℕ) (r : Reply A) → (m ≡ 0 → ⊥) → unless m r ≡ refused m
unfolding unless
unless_some zero r nz = absurd (nz refl)
unless_some (suc m) r nz = refl

pub unless_none : {A : Type 0} (m : ℕ) (r : Reply A) → m ≡ 0 → unless m r ≡ r
unfolding unless
unless_none m r e = rw e

pub kept_some : (m : ℕ) (new old : List ℕ) → (m ≡ 0 → ⊥) → kept m new old ≡ old
unfolding kept
kept_some zero new old nz = absurd (nz refl)
kept_some (suc m) new old nz = refl

pub kept_none : (m : ℕ) (new old : List ℕ) → m ≡ 0 → kept m new old ≡ new
unfolding kept
kept_none m new old e = rw e

-- a refusal is one of the list's, or the rule's
pub unless_refused : {A : Type 0} (m : ℕ) (r : Reply A) (k : ℕ) → unless m r ≡ refused k → ((1 ≤ m) × (m ≡ k)) ⊎ ((m ≡ 0) × (r ≡ refused k))
unfolding unless
unless_refused zero r k e = inr (refl, e)
unless_refused (suc m) r k e = inl (omega arith, cc)

-- an acceptance comes of an acceptance
pub if_accepted_lem : {A B : Type 0} (go : A → B) (x : Reply A) (y : B) → if_accepted go x ≡ accepted y → (z : A) × (x ≡ accepted z) × (go z ≡ y)
unfolding if_accepted
if_accepted_lem go (refused m) y e = absurd (refused_accepted _ _ e)
if_accepted_lem go (accepted z) y e = (z, refl, cc)

-- and a refusal of the same refusal
pub if_refused : {A B : Type 0} (go : A → B) (x : Reply A) (m : ℕ) → if_accepted go x ≡ refused m → x ≡ refused m
unfolding if_accepted
if_refused go (refused k) m e = ap refused cc
if_refused go (accepted z) m e = absurd (refused_accepted _ _ (sym e))

-- answers that can be read back off what they say are told apart by it
pub one_answer : {A R : Type 0} (said : R → Reply A) (back : Reply A → R) → ((r : R) → back (said r) ≡ r) → OneAnswer said
unfolding OneAnswer
one_answer said back h = λ r₁ r₂ e. sym (h r₁) ∙ ap back e ∙ h r₂
