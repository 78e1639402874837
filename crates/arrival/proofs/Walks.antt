-- Demand 3: the induction over walks, and what follows from it.
use mathlib.Core.Path.{◌≡◌, refl, ap, sym, ◌∙◌, subst₂}
use mathlib.Core.Bool.{true, not, and-eq-true_iff}
use mathlib.Core.Logic.{inl, inr, ⊎_elim}
use mathlib.Core.List.{List, [], ◌∷◌, ◌++◌, append_assoc}
use Prim.Native.Nat.{ℕ, zero, suc, ◌+◌, ◌-◌, ◌^◌, ◌≤◌, ◌<◌}
use native.Mathlib.Omega.{arith}
use borrow.Author.Tests.{ne_eqb}
use lib.Bits.{bit_xor, xor_lt}
use lib.Dec.{eqb}
use lib.ListN.{length}
use Rattle.cube.specs.Bits.{bit, flip, weight}
use Rattle.cube.specs.Reply.{Reply, refused, accepted, unless}
use Rattle.cube.proofs.Count.{xor_twice}
use Rattle.cube.proofs.Reply.{unless_accepted, unless_none, unless_refused}
use Rattle.report.specs.Health.{Cube}
use Rattle.report.specs.Report.{Report, cube}
use Rattle.report.proofs.Laws.{dimension_range}
use Rattle.safety.specs.Safety.{vectors_of}
use Rattle.held.specs.Held.{own}
use Rattle.rules.specs.Refusals.{decide_refusal}
use Rattle.rules.specs.Rules.{Choice, hops_of, Next, arrived, onward, at_source, at_node}
use Rattle.rules.specs.Decide.{decide}
use Rattle.rules.specs.Hop.{hop}
use Rattle.rules.proofs.Refusals.{Clear, decide_clear, decide_refusal_le, hop_none}
use Rattle.arrival.specs.Walk.{Leg, answer, Walk, source, go, boards, fresh, distinct, all_work, all_sound}
use Rattle.arrival.specs.Promise.{Kept}
use Rattle.arrival.proofs.Hops.{At, UnderWay, Hopped, address_of, home_of_zero, zero_of_home, works_of}
use Rattle.arrival.proofs.Answers.{Guides, hopped, small_of, no_refusal_of, left_zero, left_le, Fair, node_guides, source_fair}

-- one board left to each leg
pub length_boards : (legs : List Leg) → length (boards legs) ≡ length legs
unfolding boards
length_boards [] = refl
length_boards (l ∷ legs) = ap suc (length_boards legs)

module _ (R : Report) where
  -- the cube that the report describes
  abbrev C : Cube
  C = cube R

  -- the vectors that Fill writes
  abbrev words : List ℕ
  words = vectors_of R

  -- what the induction keeps of a partial walk to d
  record Walked (d : ℕ) (c : Choice) (legs : List Leg) (a nav : ℕ) : Type 0 where
    at : At C d a nav
    left : ℕ
    guides : Guides C d a nav left (answer R c legs a nav)
    hops : length legs + left ≡ hops_of c
    -- a board under way no farther off is none that the message has left
    ahead : (x r : ℕ) → UnderWay C d x r → weight r ≤ left → fresh x (boards legs) ≡ true
    once : distinct (a ∷ boards legs) ≡ true
    working : all_work C (a ∷ boards legs) ≡ true
    sound : all_sound C legs ≡ true

  module _ (s d : ℕ) where
    -- what Decide's rule gives
    abbrev ruled : Reply Choice
    ruled = at_source C.dim C.cut (own words) s (bit_xor s d) (weight (bit_xor s d))

    -- where Decide's tests pass, the message is at the source
    start : Clear R words s d d → At C d s (bit_xor s d)
    unfolding cube
    start t =
        record {
          size = (dimension_range R.dim t.dim).0;
          node = t.node;
          near = xor_lt R.dim s d t.node t.other;
          address = xor_twice s d;
          there = t.there;
        }

    -- and Hop's tests pass wherever it is under way
    hop_rule : {a nav : ℕ} → Clear R words s d d → UnderWay C d a nav
        → hop R words a nav ≡ at_node C.dim C.cut (own words) a nav (weight nav)
    unfolding hop unless
    hop_rule {a} {nav} t u =
        ap (λ (x : ℕ). unless x (at_node C.dim C.cut (own words) a nav (weight nav)))
        (hop_none R words a nav
        (record {
          dim = t.dim;
          sizes = t.sizes;
          node = u.at.node;
          other = u.at.near;
          here = works_of u;
          there = ap C.works u.at.address ∙ u.at.there;
        }))

    -- over Fill's vectors Decide's rule refuses by 7 alone
    pub refuses_by_7 : (m : ℕ) → decide_refusal R words s d ≡ 0 → decide R words s d ≡ refused m → m ≡ 7
    unfolding decide
    refuses_by_7 m z e = rw (sym (unless_none (decide_refusal R words s d) ruled z) ∙ e) at (source_fair (start (decide_clear R words s d z)))

    -- so Decide never refuses by 8
    pub no_eight : decide R words s d ≡ refused 8 → ⊥
    unfolding decide
    no_eight e =
        ⊎_elim (λ (q : (1 ≤ decide_refusal R words s d) × (decide_refusal R words s d ≡ 8)). omega (arith, q.1, decide_refusal_le R words s d))
        (λ (q : (decide_refusal R words s d ≡ 0) × (ruled ≡ refused 8)). let seven : ◌≡◌ {A = ℕ} 8 7 = refuses_by_7 8 q.0 e in omega arith)
        (unless_refused (decide_refusal R words s d) ruled 8 e)

    module _ (c : Choice) where
      module _ (accepts : decide R words s d ≡ accepted c) where
        -- an acceptance is the rule's, and no test refused
        decided : (decide_refusal R words s d ≡ 0) × (ruled ≡ accepted c)
        unfolding decide
        decided = unless_accepted (decide_refusal R words s d) ruled c accepts

        -- so the tests passed
        clear : Clear R words s d d
        clear = decide_clear R words s d decided.0

        -- and the rule's promise holds
        fair : Fair C d s (bit_xor s d) (accepted c)
        fair = rw decided.1 at (source_fair (start clear))

        -- the induction at the source
        walked_source : Walked d c [] s (bit_xor s d)
        unfolding answer boards distinct all_work all_sound
        walked_source =
            record {
              at = start clear;
              left = hops_of c;
              guides = fair.1;
              hops = omega arith;
              ahead = λ x r u l. refl;
              once = refl;
              working = (and-eq-true_iff (C.works s) true).1 (clear.here, refl);
              sound = refl;
            }

        -- and at each hop
        walked_go : {legs : List Leg} {a nav i : ℕ} (w : Walked d c legs a nav) → Hopped C d a nav w.left i
            → Walked d c (record { board = a; along = i } ∷ legs) (flip a i) (flip nav i)
        unfolding cube answer boards distinct all_work all_sound
        walked_go {legs} {a} {nav} {i} w h =
            record {
              at = h.way.at;
              left = weight (flip nav i);
              guides = rw (hop_rule clear h.way) (node_guides h.way);
              hops = omega (arith, w.hops, h.fewer);
              ahead = ahead;
              once = (and-eq-true_iff (fresh (flip a i) (a ∷ boards legs)) _).1 (ahead (flip a i) (flip nav i) h.way (omega arith), w.once);
              working = (and-eq-true_iff (C.works (flip a i)) _).1 (works_of h.way, w.working);
              sound = (and-eq-true_iff (not (C.cut a i)) _).1 (ap not h.sound, w.sound);
            }
          where
            ahead : (x r : ℕ) → UnderWay C d x r → weight r ≤ weight (flip nav i) → fresh x (a ∷ boards legs) ≡ true
            ahead x r u l =
                (and-eq-true_iff (not (eqb x a)) _).1
                (ap not (ne_eqb x a (λ e. omega (arith, h.behind r (rw e at u)))), w.ahead x r u (omega (arith, h.fewer)))

      -- a walk begins at an accepted source
      sent : {legs : List Leg} {a nav : ℕ} → Walk R s d c legs a nav → decide R words s d ≡ accepted c
      sent (source e) = e
      sent (go w q b) = sent w

      -- what the induction keeps holds of every partial walk
      walked : {legs : List Leg} {a nav : ℕ} → Walk R s d c legs a nav → Walked d c legs a nav
      walked (source e) = walked_source e
      walked (go w q b) = walked_go (sent w) (walked w) (hopped (walked w).guides q b)

      -- demand 3
      pub kept : {legs : List Leg} {a nav : ℕ} → Walk R s d c legs a nav → Kept R s d c legs a nav
      kept {legs} {a} {nav} w =
          let m = walked w in
          let (here, gone) = left_zero m.guides in
          record {
            address = address_of m.at;
            offered = offered m.guides;
            there = there m.guides;
            promised = (fair (sent w)).0;
            bounded = omega (arith, m.hops);
            exact = (λ e. omega (arith, m.hops, here (zero_of_home m.at e)), λ e. home_of_zero m.at (gone (omega (arith, m.hops))));
            once = m.once;
            working = m.working;
            sound = m.sound;
          }
        where
          offered : {left : ℕ} {reply : Reply Next} → Guides C d a nav left reply → (a ≡ d → ⊥)
              → (mask i : ℕ) × (reply ≡ accepted (onward mask)) × (bit mask i ≡ true)
          offered (inl g) ne = absurd (ne (home_of_zero (walked w).at g.near))
          offered (inr g) ne = (g.mask, g.some.0, g.says, g.some.1)

          there : {left : ℕ} {reply : Reply Next} → Guides C d a nav left reply → a ≡ d → reply ≡ accepted arrived
          there (inl g) e = g.says
          there (inr g) e = absurd (g.far (zero_of_home (walked w).at e))

      -- on a walk no dimension above n is offered
      pub offered_small : {legs : List Leg} {a nav mask : ℕ} → Walk R s d c legs a nav
          → answer R c legs a nav ≡ accepted (onward mask) → mask < 2 ^ R.dim
      unfolding cube
      offered_small w e = small_of (walked w).guides e

      -- on a walk Hop refuses nothing
      pub no_refusal : {l : Leg} {legs : List Leg} {a nav m : ℕ} → Walk R s d c (l ∷ legs) a nav
          → hop R words a nav ≡ refused m → ⊥
      unfolding answer
      no_refusal w e = no_refusal_of (walked w).guides e

      -- no walk is longer than n + 1
      pub never_long : {legs : List Leg} {a nav : ℕ} → Walk R s d c legs a nav → length legs ≤ R.dim + 1
      unfolding cube
      never_long w = omega (arith, (walked w).hops, left_le (fair (sent w)).1)

      -- the rest of a walk with k hops left
      complete : (k : ℕ) {legs : List Leg} {a nav : ℕ} → Walk R s d c legs a nav → length legs + k ≡ hops_of c
          → (more : List Leg) × Walk R s d c (more ++ legs) d 0
      complete zero {legs} {a} {nav} w e =
          let home : a ≡ d = (kept w).exact.1 (omega arith) in
          ([], subst₂ (λ (x y : ℕ). Walk R s d c legs x y) home (zero_of_home (walked w).at home) w)
      complete (suc k) {legs} {a} {nav} w e =
          let (mask, i, q, b) = (kept w).offered (λ home. omega (arith, (kept w).exact.0 home)) in
          let (more, v) = complete k (go w q b) (omega arith) in
          (more ++ (record { board = a; along = i } ∷ []), rw append_assoc v)

      -- every partial walk can be completed
      pub completes : {legs : List Leg} {a nav : ℕ} → Walk R s d c legs a nav
          → (more : List Leg) × Walk R s d c (more ++ legs) d 0
      completes {legs} w = complete (hops_of c - length legs) w (omega (arith, (kept w).bounded))
