-- What the jobs answer, as the numbers that cross to C and Rust.
use Rattle.std.specs.Prelude.{ℕ, ◌+◌, ◌≡◌, cond, List, leb, length}
use Rattle.cube.specs.Reply.{Reply, refused, accepted}
use Rattle.report.specs.declared.Class.{Class}
use Rattle.report.specs.declared.Class.TheVariants.{Silent, Working, Late, Down, Empty}
use Rattle.rules.specs.Rules.{Choice, home, assured, lent, detour, mask_of, hops_of, Next, arrived, onward}
use Rattle.deruvain.specs.declared.Answer.{Answer}
use Rattle.deruvain.specs.declared.Opened.{Opened}
use Rattle.deruvain.specs.declared.Refreshed.{Refreshed}

-- the classes, in the order of document 01
abbrev pub class_number : Class → ℕ
class_number Silent = 0
class_number Working = 1
class_number Late = 2
class_number Down = 3
class_number Empty = 4

-- home 0, assured 1, lent 2, detour 3
abbrev pub kind_number : Choice → ℕ
kind_number home = 0
kind_number (assured mask h) = 1
kind_number (lent mask h) = 2
kind_number (detour mask h) = 3

-- four numbers
pub record Says (r : Answer) (number k m h : ℕ) : Type 0 where
  pub refusal : r.refusal ≡ number
  pub kind : r.kind ≡ k
  pub mask : r.mask ≡ m
  pub hops : r.hops ≡ h

-- what Decide's answer becomes
abbrev pub Decided : Answer → Reply Choice → Type 0
Decided r (refused m) = Says r m 0 0 0
Decided r (accepted c) = Says r 0 (kind_number c) (mask_of c) (hops_of c)

-- what Hop's answer becomes: kind 0 arrived, 1 offered
abbrev pub Hopped : Answer → Reply Next → Type 0
Hopped r (refused m) = Says r m 0 0 0
Hopped r (accepted arrived) = Says r 0 0 0 0
Hopped r (accepted (onward mask)) = Says r 0 1 mask 0

-- what Journey's answer becomes: the source's kind and mask, and the hops
abbrev pub Travelled : Answer → Reply (Choice × ℕ) → Type 0
Travelled r (refused m) = Says r m 0 0 0
Travelled r (accepted a) = Says r 0 (kind_number a.0) (mask_of a.0) a.1

-- what Open's answer becomes
abbrev pub Read : Opened → Reply ℕ → Type 0
Read r (refused m) = (r.refusal ≡ m) × (r.n ≡ 0)
Read r (accepted n) = (r.refusal ≡ 0) × (r.n ≡ n)

-- what the answer of Refresh and Update becomes
abbrev pub Skipped : Refreshed → Reply ℕ → Type 0
Skipped r (refused m) = (r.refusal ≡ m) × (r.skipped ≡ 0)
Skipped r (accepted k) = (r.refusal ≡ 0) × (r.skipped ≡ k)

-- 0 where a record has room for the status bytes that Restate puts from the sixth byte on, else 2
unfoldable pub room_number : List ℕ → List ℕ → ℕ
room_number bytes status = cond (leb (5 + length status) (length bytes)) 0 2

-- A job's answer fixes the struct that crosses: two that the relation allows for the same answer are equal.
unfoldable pub Fixed : {A R : Type 0} → (R → Reply A → Type 0) → Type 0
Fixed {A = A} {R = R} Allowed = (r₁ r₂ : R) (x : Reply A) → Allowed r₁ x → Allowed r₂ x → r₁ ≡ r₂
