-- What the rules answer a message, at the source and under way, over Fill's table.
use mathlib.Core.Path.{◌≡◌, refl, ap, sym, ◌∙◌}
use mathlib.Core.Bool.{Bool, true, false}
use mathlib.Core.Logic.{◌⊎◌, inl, inr, ◌↔◌}
use Prim.Native.Nat.{ℕ, zero, suc, ◌+◌, ◌^◌, ◌≤◌, ◌<◌}
use native.Mathlib.Omega.{arith}
use lib.Count.{ones}
use Rattle.cube.specs.Bits.{bit, weight}
use Rattle.cube.specs.Reply.{Reply, refused, accepted}
use Rattle.cube.proofs.Count.{weight_le, weight_zero}
use Rattle.cube.proofs.Reply.{refused_accepted}
use Rattle.report.specs.Health.{Cube}
use Rattle.safety.specs.Safety.{safe, vectors}
use Rattle.held.specs.Held.{own}
use Rattle.held.proofs.Held.{own_safe}
use Rattle.rules.specs.Rules.{offer, spare, Choice, home, assured, lent, detour, mask_of, hops_of, choose, at_source, Next, arrived, onward, proceed, at_node}
use Rattle.rules.proofs.Rules.{offer_lt, offer_find, offer_pos}
use Rattle.arrival.specs.Walk.{told}
use Rattle.arrival.specs.Promise.{beyond}
use Rattle.arrival.proofs.Hops.{At, UnderWay, Hopped, preferred_hop, spare_hop}

-- the answer is that the message has arrived
pub record Ends (nav left : ℕ) (reply : Reply Next) : Type 0 where
  pub near : nav ≡ 0
  pub none : left ≡ 0
  pub says : reply ≡ accepted arrived

-- the answer offers some dimension, and each that it offers is a good hop
pub record Leads (C : Cube) (d a nav left : ℕ) (reply : Reply Next) : Type 0 where
  pub far : nav ≡ 0 → ⊥
  pub mask : ℕ
  pub says : reply ≡ accepted (onward mask)
  pub small : mask < 2 ^ C.dim
  pub some : (i : ℕ) × (bit mask i ≡ true)
  pub each : (i : ℕ) → bit mask i ≡ true → Hopped C d a nav left i

-- no arrival is an offer
arrived_onward : {mask : ℕ} → accepted arrived ≡ accepted (onward mask) → ⊥
arrived_onward e = let z : ◌≡◌ {A = ℕ} 0 1 = cc in omega arith

-- what the answer is to a message with so many hops left
abbrev pub Guides : Cube → ℕ → ℕ → ℕ → ℕ → Reply Next → Type 0
Guides C d a nav left reply = Ends nav left reply ⊎ Leads C d a nav left reply

module _ {C : Cube} {d a nav left : ℕ} {reply : Reply Next} where
  -- each dimension offered is a good hop
  pub hopped : {mask i : ℕ} → Guides C d a nav left reply → reply ≡ accepted (onward mask) → bit mask i ≡ true → Hopped C d a nav left i
  hopped (inl g) e b = absurd (arrived_onward (sym g.says ∙ e))
  hopped {mask} {i} (inr g) e b = g.each i (let same : g.mask ≡ mask = cc g.says in rw same b)

  -- it offers no dimension above n
  pub small_of : {mask : ℕ} → Guides C d a nav left reply → reply ≡ accepted (onward mask) → mask < 2 ^ C.dim
  small_of (inl g) e = absurd (arrived_onward (sym g.says ∙ e))
  small_of {mask} (inr g) e = let same : g.mask ≡ mask = cc g.says in rw same at g.small

  -- nothing is refused
  pub no_refusal_of : {m : ℕ} → Guides C d a nav left reply → reply ≡ refused m → ⊥
  no_refusal_of (inl g) e = refused_accepted _ _ (sym e ∙ g.says)
  no_refusal_of (inr g) e = refused_accepted _ _ (sym e ∙ g.says)

  -- the message has arrived exactly where no hop is left
  pub left_zero : Guides C d a nav left reply → (nav ≡ 0) ↔ (left ≡ 0)
  left_zero (inl g) = (λ z. g.none, λ z. g.near)
  left_zero (inr g) = (λ z. absurd (g.far z), λ z. absurd (omega (arith, (g.each g.some.0 g.some.1).fewer)))

  -- at most n + 1 hops are left
  pub left_le : Guides C d a nav left reply → left ≤ C.dim + 1
  left_le (inl g) = omega (arith, g.none)
  left_le (inr g) = let h = g.each g.some.0 g.some.1 in omega (arith, weight_le C.dim _ h.way.at.near, h.fewer)

-- where hops are to be made, the source is told the mask accepted
pub told_mask : (c : Choice) → 0 < hops_of c → told c ≡ onward (mask_of c)
unfolding told
told_mask home h = absurd (omega arith)
told_mask (assured p k) h = refl
told_mask (lent p k) h = refl
told_mask (detour q k) h = refl

-- what holds of Decide's rule: it refuses by 7 alone, and what it accepts takes the hops promised
abbrev pub Fair : Cube → ℕ → ℕ → ℕ → Reply Choice → Type 0
Fair C d s nav (refused m) = m ≡ 7
Fair C d s nav (accepted c) = (hops_of c ≡ weight nav + beyond c) × Guides C d s nav (hops_of c) (accepted (told c))

module _ {C : Cube} {d a nav : ℕ} (m : At C d a nav) where
  -- at distance 0 the message has arrived
  ends : weight nav ≡ 0 → Ends nav 0 (accepted arrived)
  ends w = record { near = weight_zero C.dim nav m.near w; none = refl; says = refl }

  -- a mask that is not 0 leads, where each dimension of it is a good hop
  leads : (bits : ℕ → Bool) (dims left p : ℕ) → 0 < weight nav → offer C.dim C.cut bits dims a ≡ suc p
      → ((i : ℕ) → bit (offer C.dim C.cut bits dims a) i ≡ true → Hopped C d a nav left i) → Leads C d a nav left (accepted (onward (suc p)))
  unfolding ones
  leads bits dims left p w e each =
      record {
        far = λ z. omega (arith, ap weight z);
        mask = offer C.dim C.cut bits dims a;
        says = ap (λ (x : ℕ). accepted (onward x)) (sym e);
        small = offer_lt C.dim C.cut bits dims a;
        some = offer_find C.dim C.cut bits dims a (omega arith);
        each = each;
      }

  -- so the mask P leads
  preferred_leads : (h p : ℕ) → weight nav ≡ suc h → offer C.dim C.cut (own (vectors C) h) nav a ≡ suc p → Leads C d a nav (suc h) (accepted (onward (suc p)))
  preferred_leads h p w e = leads (own (vectors C) h) nav (suc h) p (omega arith) e (preferred_hop m w)

  -- the rule at the source
  pub source_fair : Fair C d a nav (at_source C.dim C.cut (own (vectors C)) a nav (weight nav))
  unfolding at_source told beyond
  source_fair = go (weight nav) refl
    where
      held : (h : ℕ) → weight nav ≡ suc h → safe C (suc h) a ≡ own (vectors C) (suc h) a
      held h w = sym (own_safe C (suc h) a (omega (arith, weight_le C.dim nav m.near)) m.node)

      pick : (h : ℕ) → weight nav ≡ suc h → (b : Bool) (p q : ℕ) → own (vectors C) (suc h) a ≡ b → offer C.dim C.cut (own (vectors C) h) nav a ≡ p
          → offer C.dim C.cut (own (vectors C) (suc (suc h))) (spare C.dim nav) a ≡ q → Fair C d a nav (choose b p q (suc h))
      pick h w true zero q eb ep eq = absurd (omega (arith, offer_pos C h a nav m.size m.node m.near w (held h w ∙ eb)))
      pick h w true (suc p) q eb ep eq = (omega arith, inr (preferred_leads h p w ep))
      pick h w false (suc p) q eb ep eq = (omega arith, inr (preferred_leads h p w ep))
      pick h w false zero (suc q) eb ep eq =
          (omega arith, inr (leads (own (vectors C) (suc (suc h))) (spare C.dim nav) (suc h + 2) q (omega arith) eq (spare_hop m w (held h w ∙ eb))))
      pick h w false zero zero eb ep eq = refl

      go : (h : ℕ) → weight nav ≡ h → Fair C d a nav (at_source C.dim C.cut (own (vectors C)) a nav h)
      go zero w = (omega arith, inl (ends w))
      go (suc h) w = pick h w _ _ _ refl refl refl

-- the rule at a board under way
pub node_guides : {C : Cube} {d a nav : ℕ} → UnderWay C d a nav → Guides C d a nav (weight nav) (at_node C.dim C.cut (own (vectors C)) a nav (weight nav))
unfolding at_node
node_guides {C} {d} {a} {nav} u = go (weight nav) refl u.bears
  where
    m : At C d a nav
    m = u.at

    step : (h p : ℕ) → weight nav ≡ suc h → offer C.dim C.cut (own (vectors C) h) nav a ≡ p → 0 < p → Guides C d a nav (suc h) (proceed p)
    step h zero w e l = absurd (omega arith)
    step h (suc p) w e l = inr (preferred_leads m h p w e)

    go : (h : ℕ) → weight nav ≡ h → safe C h a ≡ true → Guides C d a nav h (at_node C.dim C.cut (own (vectors C)) a nav h)
    go zero w s = inl (ends m w)
    go (suc h) w s = step h _ w refl (offer_pos C h a nav m.size m.node m.near w s)
