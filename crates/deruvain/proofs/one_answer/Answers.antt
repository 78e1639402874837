-- Each of the relations fixes every field.
use mathlib.Core.Path.{◌≡◌, sym, ◌∙◌}
use Prim.Native.Nat.{ℕ}
use Rattle.cube.specs.Reply.{refused, accepted}
use Rattle.rules.specs.Rules.{arrived, onward}
use Rattle.deruvain.specs.declared.Answer.{Answer}
use Rattle.deruvain.specs.declared.Opened.{Opened}
use Rattle.deruvain.specs.declared.Refreshed.{Refreshed}
use Rattle.deruvain.specs.Numbers.{Says, Decided, Hopped, Travelled, Read, Skipped, Fixed}
use Rattle.deruvain.proofs.one_answer.Goals as goal

-- four numbers fix an answer
same : (r₁ r₂ : Answer) {number k m h : ℕ} → Says r₁ number k m h → Says r₂ number k m h → r₁ ≡ r₂
same r₁ r₂ a b =
    let e : r₁.refusal ≡ r₂.refusal = a.refusal ∙ sym b.refusal in
    let f : r₁.kind ≡ r₂.kind = a.kind ∙ sym b.kind in
    let g : r₁.mask ≡ r₂.mask = a.mask ∙ sym b.mask in
    let h : r₁.hops ≡ r₂.hops = a.hops ∙ sym b.hops in
    λ i. record { refusal = e i; kind = f i; mask = g i; hops = h i }

decided : Fixed Decided
unfolding Fixed
decided r₁ r₂ (refused m) a b = same r₁ r₂ a b
decided r₁ r₂ (accepted c) a b = same r₁ r₂ a b

hopped : Fixed Hopped
unfolding Fixed
hopped r₁ r₂ (refused m) a b = same r₁ r₂ a b
hopped r₁ r₂ (accepted arrived) a b = same r₁ r₂ a b
hopped r₁ r₂ (accepted (onward mask)) a b = same r₁ r₂ a b

travelled : Fixed Travelled
unfolding Fixed
travelled r₁ r₂ (refused m) a b = same r₁ r₂ a b
travelled r₁ r₂ (accepted c) a b = same r₁ r₂ a b

-- two numbers fix what Open answers
same_opened : (r₁ r₂ : Opened) {m n : ℕ} → (r₁.refusal ≡ m) × (r₁.n ≡ n) → (r₂.refusal ≡ m) × (r₂.n ≡ n) → r₁ ≡ r₂
same_opened r₁ r₂ a b =
    let e : r₁.refusal ≡ r₂.refusal = a.0 ∙ sym b.0 in
    let f : r₁.n ≡ r₂.n = a.1 ∙ sym b.1 in
    λ i. record { refusal = e i; n = f i }

read : Fixed Read
unfolding Fixed
read r₁ r₂ (refused m) a b = same_opened r₁ r₂ a b
read r₁ r₂ (accepted n) a b = same_opened r₁ r₂ a b

-- and what Refresh and Update answer
same_refreshed :
    (r₁ r₂ : Refreshed) {m k : ℕ} → (r₁.refusal ≡ m) × (r₁.skipped ≡ k) → (r₂.refusal ≡ m) × (r₂.skipped ≡ k) → r₁ ≡ r₂
same_refreshed r₁ r₂ a b =
    let e : r₁.refusal ≡ r₂.refusal = a.0 ∙ sym b.0 in
    let f : r₁.skipped ≡ r₂.skipped = a.1 ∙ sym b.1 in
    λ i. record { refusal = e i; skipped = f i }

skipped : Fixed Skipped
unfolding Fixed
skipped r₁ r₂ (refused m) a b = same_refreshed r₁ r₂ a b
skipped r₁ r₂ (accepted k) a b = same_refreshed r₁ r₂ a b

pub returns : goal.returns
returns c = record { decide = decided; hop = hopped; journey = travelled; opened = read; refresh = skipped }
