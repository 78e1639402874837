-- The laws of a message under way as the code carries it, and of the path that it leaves.
use mathlib.Core.Path.{◌≡◌, refl, ap, ap₂, sym, ◌∙◌}
use mathlib.Core.List.{List, [], ◌∷◌, ◌++◌, append-nil, append_assoc}
use Prim.Native.Nat.{ℕ, ◌+◌, ◌≤◌, ◌<◌}
use native.Mathlib.Numerals.{add-one}
use native.Mathlib.Omega.{arith}
use lib.Bits.{bit_xor}
use lib.ListN.{length, get_or, take, drop, set, length-set, take-append-drop}
use lib.Seq.{take-suc-set, drop-set-lt, drop-cons}
use Rattle.std.specs.Prelude.{Option, Some, None, Result, Ok, Err}
use Rattle.cube.specs.declared.refusal.Refusal.{Refusal}
use Rattle.cube.specs.Bits.{flip}
use Rattle.cube.specs.Reply.{Reply, accepted}
use Rattle.cube.proofs.Reply.{refused_accepted}
use Rattle.report.specs.Report.{Report}
use Rattle.safety.specs.Safety.{vectors_of}
use Rattle.routing.specs.Hop.{said}
use Rattle.rules.specs.Rules.{Choice, mask_of, hops_of, Next, onward}
use Rattle.rules.specs.Decide.{decide}
use Rattle.rules.specs.Hop.{hop}
use Rattle.arrival.specs.Walk.{Leg, answer, Walk, source}
use Rattle.arrival.proofs.Answers.{told_mask}
use Rattle.pick.specs.Pick.{taken}
use Rattle.journey.specs.Journey.{hops, leave}
use Rattle.journey.specs.declared.Message.{Message}
use Rattle.journey.specs.Message.{Offers, Crossed, Walks, ahead}
use Rattle.journey.proofs.Promise.{hops_end, offers}

-- two offers that are the same have the same mask
pub same_offer : {m k : ℕ} → accepted (onward m) ≡ accepted (onward k) → m ≡ k
same_offer e = cc

-- an answer that says that it offers something does
pub offered : (x : Result (Option ℕ) Refusal) → (o : Offers (said x)) → x ≡ Ok (Some o.0)
offered (Ok None) (mask, e) = absurd (let z : ◌≡◌ {A = ℕ} 0 1 = cc in omega arith)
offered (Ok (Some m)) (mask, e) = ap (λ (k : ℕ). Ok (Some k)) (same_offer e)
offered (Err r) (mask, e) = absurd (refused_accepted _ _ e)

-- ---- the path

-- a board written behind the first k is the next of them
path_on : (path : List ℕ) (k b : ℕ) (bs : List ℕ) → k < length path → take (k + 1) (set path k b) ++ bs ≡ take k path ++ (b ∷ bs)
path_on path k b bs h = rw (add-one k, take-suc-set path k b h) (append_assoc (take k path) (b ∷ []) bs)

-- the source written, with no board after it
pub path_home : (path : List ℕ) (s : ℕ) (bs : List ℕ) → 0 < length path → length bs ≡ 0 → set path 0 s ≡ s ∷ bs ++ drop (length bs + 1) path
path_home [] s bs h e = absurd (omega arith)
path_home (x ∷ path) s [] h e = refl
path_home (x ∷ path) s (b ∷ bs) h e = absurd (omega arith)

-- the source and the board after it written, with the boards after that one
pub path_whole : (path : List ℕ) (s b : ℕ) (bs after : List ℕ) (k : ℕ) → 1 < length path → k ≡ length after → after ≡ b ∷ bs
    → let new = set (set path 0 s) 1 b in take 2 new ++ bs ++ drop (k + 1) new ≡ s ∷ after ++ drop (length after + 1) path
path_whole [] s b bs after k h ek ea = absurd (omega arith)
path_whole (x ∷ []) s b bs after k h ek ea = absurd (omega arith)
path_whole (x ∷ y ∷ path) s b bs after k h ek ea = rw (ek, ea, add-one)

-- ---- the message

module _ (R : Report) (picks : List ℕ) where
  -- an offer leads to the first of the boards ahead
  hops_on : (mask j a nav : ℕ) (r : Message) → j < length picks
      → let i = taken R.dim mask (get_or picks j 0) in (r.node.0 ≡ flip a i) × (r.nav.0 ≡ flip nav i)
      → hops R (drop j picks) (accepted (onward mask)) a nav ≡ r.node.0 ∷ ahead R picks (j + 1) r
  unfolding hops
  hops_on mask j a nav r l (en, ea) = rw (en, ea, add-one, drop-cons picks j 0 l)

  -- a walk goes on by its board's offer and the next pick
  goes_on : (s d : ℕ) (c : Choice) (legs : List Leg) (m r : Message) (j : ℕ) → Walk R s d c legs m.node.0 m.nav.0 → length legs ≡ j
      → j < hops_of c → j < length picks
      → ((mask : ℕ) → answer R c legs m.node.0 m.nav.0 ≡ accepted (onward mask) → Crossed m (taken R.dim mask (get_or picks j 0)) r)
      → Walks R (hops_of c) (j + 1) r
      × (hops R (drop j picks) (answer R c legs m.node.0 m.nav.0) m.node.0 m.nav.0 ≡ r.node.0 ∷ ahead R picks (j + 1) r)
  goes_on s d c legs m r j v e short l f =
      let (mask, q, on) = offers R s d c v (omega arith) in
      let leg : Leg = record { board = m.node.0; along = taken R.dim mask (get_or picks j 0) } in
      let x = f mask q in (
        (s, d, c, leg, legs, rw (x.0, x.1) (on (get_or picks j 0)), omega arith, refl),
        ap (λ (y : Reply Next). hops R (drop j picks) y m.node.0 m.nav.0) q ∙ hops_on mask j m.node.0 m.nav.0 r l x,
      )

  module _ (m : Message) (d : ℕ) (c : Choice) (accepts : decide R (vectors_of R) m.node.0 d ≡ accepted c) where
    -- the first hop, by the mask and the hops accepted
    pub sets_out : (r : Message) (o k : ℕ) → m.nav.0 ≡ bit_xor m.node.0 d → (o ≡ mask_of c) × (k ≡ hops_of c) → 0 < k → k ≤ length picks
        → ((mask : ℕ) → accepted (onward o) ≡ accepted (onward mask) → Crossed m (taken R.dim mask (get_or picks 0 0)) r)
        → Walks R k 1 r × ((leave R picks m.node.0 d c).after ≡ r.node.0 ∷ ahead R picks 1 r)
    unfolding leave answer
    sets_out r o k ea (eo, ek) h l f =
        let told-on = ap (λ (x : ℕ). accepted (onward x)) eo ∙ ap accepted (sym (told_mask c (omega arith))) in
        let (u, e) = goes_on m.node.0 d c [] m r 0 (rw ea (source accepts)) refl (omega arith) (omega arith) (λ mask q. f mask (told-on ∙ q)) in
        (rw ek u, rw ea at e)

  -- what the loop over the hops after the first keeps: after j hops in all the message is on its walk, and the boards written and those ahead are the whole path
  abbrev pub Under : ℕ → List ℕ → Message → List ℕ → Message → ℕ → Type 0
  Under promised old first path m j =
      (j ≤ promised) × (length path ≡ length old) × (drop (promised + 1) path ≡ drop (promised + 1) old) × Walks R promised j m
      × (take (j + 1) path ++ ahead R picks j m ≡ take 2 old ++ ahead R picks 1 first)

  module _ (promised : ℕ) (old : List ℕ) (first : Message) (path : List ℕ) (m : Message) (j : ℕ) where
    -- one more hop, and its board written
    pub under_next : (r : Message) → Under promised old first path m j → j < promised → promised ≤ length picks → promised < length old
        → ((mask : ℕ) → hop R (vectors_of R) m.node.0 m.nav.0 ≡ accepted (onward mask) → Crossed m (taken R.dim mask (get_or picks j 0)) r)
        → Under promised old first (set path (j + 1) r.node.0) r (j + 1)
    unfolding answer
    under_next r (few, long, rest, (s, d, c, l, legs, v, ej, ep), whole) h k room f =
        let (u, e) = goes_on s d c (l ∷ legs) m r j v ej (omega arith) (omega arith) f in (
          omega arith,
          length-set path (j + 1) r.node.0 ∙ long,
          drop-set-lt (promised + 1) path (j + 1) r.node.0 (omega arith) ∙ rest,
          rw ep at u,
          path_on path (j + 1) r.node.0 _ (omega arith) ∙ ap (λ (bs : List ℕ). take (j + 1) path ++ bs) (sym e) ∙ whole,
        )

    -- at the end nothing is ahead
    pub under_end : Under promised old first path m j → promised ≤ j → path ≡ take 2 old ++ ahead R picks 1 first ++ drop (promised + 1) old
    unfolding answer
    under_end (few, long, rest, (s, d, c, l, legs, v, ej, ep), whole) h =
        let same : promised ≡ j = omega arith in
        let none = hops_end R s d c v (drop j picks) (omega arith) in
        let boards : take (promised + 1) path ≡ take 2 old ++ ahead R picks 1 first =
        rw same (sym (append-nil _) ∙ ap (λ (bs : List ℕ). take (j + 1) path ++ bs) (sym none) ∙ whole) in
        sym (take-append-drop (promised + 1) path) ∙ ap₂ (λ (xs ys : List ℕ). xs ++ ys) boards rest

-- short of the hops promised Hop offers something
pub hop_offers : (R : Report) (promised j : ℕ) (m : Message) → Walks R promised j m → j < promised → Offers (hop R (vectors_of R) m.node.0 m.nav.0)
unfolding answer
hop_offers R promised j m (s, d, c, l, legs, v, ej, ep) h = let (mask, q, on) = offers R s d c v (omega arith) in (mask, q)
