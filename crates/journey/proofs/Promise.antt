-- Journey's path is one of demand 3's walks: each board that it comes to lengthens the walk. After filling it refuses by 7 alone.
use mathlib.Core.Path.{◌≡◌, refl, ap, sym, ◌∙◌, subst, subst₂}
use mathlib.Core.Logic.{◌⊎◌, inl, inr, ⊎_elim}
use mathlib.Core.List.{List, [], ◌∷◌, reverse, reverse_aux, reverse-cons}
use Prim.Native.Nat.{ℕ, ◌+◌, ◌≤◌, ◌<◌}
use native.Mathlib.Omega.{arith}
use lib.Bits.{bit_xor, xor_self}
use lib.ListN.{length, get_or, length-reverse}
use lib.Seq.{get_or_at}
use Rattle.cube.specs.Bits.{flip}
use Rattle.cube.specs.Reply.{refused, accepted}
use Rattle.cube.proofs.Bits.{bit_pos}
use Rattle.std.proofs.lemmas.Bool.{cases_lt as lt_or_ge}
use Rattle.cube.proofs.Reply.{unless_accepted, unless_refused, if_accepted_lem, if_refused}
use Rattle.report.specs.Report.{Report}
use Rattle.safety.specs.Safety.{vectors_of}
use Rattle.rules.specs.Rules.{Choice, hops_of, onward}
use Rattle.rules.specs.Decide.{decide}
use Rattle.rules.proofs.Decided.{decide_hops}
use Rattle.arrival.specs.Walk.{Leg, answer, Walk, source, go, boards}
use Rattle.arrival.proofs.Walks.{length_boards, kept, offered_small, refuses_by_7}
use Rattle.pick.specs.Pick.{taken}
use Rattle.pick.proofs.Pick.{taken_in}
use Rattle.journey.specs.Journey.{hops, Route, leave, route, journey_refusal, journey, outcome}
use Rattle.journey.proofs.Refusals.{clear_of_none, refusals_to_6}

-- the end and the length of a list by the same list read backwards
list_ends : (x y : ℕ) (xs ys : List ℕ) → x ∷ xs ≡ reverse (y ∷ ys) → (get_or (x ∷ xs) (length xs) 0 ≡ y) × (length xs ≡ length ys)
list_ends x y xs ys e =
    let long : length xs ≡ length ys = omega (arith, ap length e, length-reverse (y ∷ ys)) in
    (ap (λ (zs : List ℕ). get_or zs (length xs) 0) (e ∙ reverse-cons y ys) ∙ get_or_at (reverse ys) y [] 0 (length xs) (length-reverse ys ∙ sym long), long)

module _ (R : Report) (s d : ℕ) (c : Choice) where
  -- the walk one hop on, along dimension i
  abbrev Onward : List Leg → ℕ → ℕ → ℕ → Type 0
  Onward legs a nav i = Walk R s d c (record { board = a; along = i } ∷ legs) (flip a i) (flip nav i)

  module _ {legs : List Leg} {a nav : ℕ} (w : Walk R s d c legs a nav) where
    -- a walk that has made its hops is at the end
    home : hops_of c ≤ length legs → a ≡ d
    home h = (kept R s d c w).exact.1 (omega (arith, (kept R s d c w).bounded))

    -- so its path ends
    pub hops_end : (ps : List ℕ) → hops_of c ≤ length legs → hops R ps (answer R c legs a nav) a nav ≡ []
    unfolding hops
    hops_end [] h = refl
    hops_end (p ∷ ps) h = rw ((kept R s d c w).there (home h))

    -- short of it the board offers a mask, and the walk goes on by any pick
    pub offers : length legs < hops_of c
        → (mask : ℕ) × (answer R c legs a nav ≡ accepted (onward mask)) × ((pick : ℕ) → Onward legs a nav (taken R.dim mask pick))
    offers short =
        let (mask, i, q, b) = (kept R s d c w).offered (λ e. omega (arith, (kept R s d c w).exact.0 e)) in
        (mask, q, λ pick. go w q (taken_in R.dim mask pick (bit_pos mask i b) (offered_small R s d c w q)))

    -- a walk to the end, over the boards of a walk so far and those after it
    abbrev Ends : List ℕ → Type 0
    Ends after = (whole : List Leg) × Walk R s d c whole d 0 × (reverse_aux (a ∷ boards legs) after ≡ reverse (d ∷ boards whole))

    ends : hops_of c ≤ length legs → Ends []
    ends h =
        let e = home h in
        let none : nav ≡ 0 = (kept R s d c w).address ∙ ap (λ (x : ℕ). bit_xor x d) e ∙ xor_self d in
        (legs, subst₂ (λ (x y : ℕ). Walk R s d c legs x y) e none w, ap (λ (x : ℕ). reverse (x ∷ boards legs)) e)

  -- the path from any board of a walk is the rest of one, where there are picks enough
  hops_walk : (ps : List ℕ) {legs : List Leg} {a nav : ℕ} (w : Walk R s d c legs a nav) → hops_of c ≤ length legs + length ps
      → Ends w (hops R ps (answer R c legs a nav) a nav)
  unfolding hops answer boards
  hops_walk [] w h = ends w (omega arith)
  hops_walk (p ∷ ps) {legs} w h =
      ⊎_elim (λ (l : length legs < hops_of c). let (mask, q, on) = offers w l in rw q (hops_walk ps (on p) (omega arith)))
      (λ (l : hops_of c ≤ length legs). subst (Ends w) (sym (hops_end w (p ∷ ps) l)) (ends w l)) (lt_or_ge (length legs) (hops_of c))

  -- so the path after an accepted source is a walk to the destination
  leave_walks : (picks : List ℕ) → decide R (vectors_of R) s d ≡ accepted c → hops_of c ≤ length picks
      → (legs : List Leg) × Walk R s d c legs d 0 × (s ∷ (leave R picks s d c).after ≡ reverse (d ∷ boards legs))
  unfolding leave answer boards
  leave_walks picks a h = hops_walk picks (source a) (omega arith)

  -- and has the hops promised
  pub leave_arrives : (picks : List ℕ) → decide R (vectors_of R) s d ≡ accepted c → hops_of c ≤ length picks
      → let after = (leave R picks s d c).after in (get_or (s ∷ after) (length after) 0 ≡ d) × (length after ≡ hops_of c)
  leave_arrives picks a h =
      let (legs, w, p) = leave_walks picks a h in
      let (last, long) = list_ends s d (leave R picks s d c).after (boards legs) p in
      (last, long ∙ length_boards legs ∙ (kept R s d c w).exact.0 refl)

module _ (R : Report) (vecs picks path : List ℕ) (s d : ℕ) where
  module _ (r : Route) (e : journey R vecs picks path s d ≡ accepted r) where
    -- its route is the one from a source that is accepted, with picks enough
    left : (c : Choice) × (decide R (vectors_of R) s d ≡ accepted c) × (hops_of c ≤ length picks) × (leave R picks s d c ≡ r)
    unfolding journey route
    left =
        let (z, q) = unless_accepted (journey_refusal R vecs picks path s d) (route R picks s d) r e in
        let (c, a, on) = if_accepted_lem (leave R picks s d) (decide R (vectors_of R) s d) r q in
        (c, a, omega (arith, decide_hops R (vectors_of R) s d c a, (clear_of_none R vecs picks path s d z).chosen), on)

    pub journey_walks : (legs : List Leg) × Walk R s d r.choice legs d 0 × (s ∷ r.after ≡ reverse (d ∷ boards legs))
    unfolding leave
    journey_walks = let (c, a, h, on) = left in rw (sym on) (leave_walks R s d c picks a h)

    pub journey_arrives : (get_or (s ∷ r.after) (length r.after) 0 ≡ d) × (length r.after ≡ hops_of r.choice)
    unfolding leave
    journey_arrives = let (c, a, h, on) = left in rw (sym on) (leave_arrives R s d c picks a h)

  pub journey_refuses : (m : ℕ) → outcome (journey R vecs picks path s d) ≡ refused m
      → ((journey_refusal R vecs picks path s d ≡ m) × (1 ≤ m) × (m ≤ 6)) ⊎ ((journey_refusal R vecs picks path s d ≡ 0) × (m ≡ 7))
  unfolding journey route outcome
  journey_refuses m e =
      ⊎_elim (λ (q : (1 ≤ number) × (number ≡ m)). inl (q.1, omega (arith, q), omega (arith, q, refusals_to_6 R vecs picks path s d)))
      (λ (q : (number ≡ 0) × (route R picks s d ≡ refused m)).
      inr (q.0, refuses_by_7 R s d m (clear_of_none R vecs picks path s d q.0).decides (if_refused (leave R picks s d) (decide R (vectors_of R) s d) m q.1)))
      (unless_refused number (route R picks s d) m (if_refused _ (journey R vecs picks path s d) m e))
    where
      number : ℕ
      number = journey_refusal R vecs picks path s d
