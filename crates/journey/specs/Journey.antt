-- Journey: fills, decides and hops to the end, by a lent list of picks.
use Rattle.std.specs.Prelude.{ℕ, ◌+◌, not, ◌&&◌, List, [], ◌∷◌, ◌++◌, leb, length, drop, Result}
use Rattle.std.specs.Int.Bits.{bit_xor}
use Rattle.cube.specs.Bits.{flip}
use Rattle.cube.specs.Reply.{Reply, refused, accepted, if_accepted, refusal, unless, kept}
use Rattle.cube.specs.Refusals.{saying}
use Rattle.cube.specs.declared.refusal.Refusal.{Refusal}
use Rattle.report.specs.Report.{Report, cube, dimension, all_sized, within, narrow}
use Rattle.safety.specs.Safety.{vectors, vectors_of}
use Rattle.pick.specs.Pick.{taken}
use Rattle.rules.specs.Refusals.{both_work}
use Rattle.rules.specs.Rules.{Choice, Next, arrived, onward}
use Rattle.rules.specs.Decide.{decide}
use Rattle.rules.specs.Hop.{hop}
use Rattle.arrival.specs.Walk.{told}
use Rattle.routing.specs.Decide.{chosen}
use Rattle.journey.specs.declared.Trip.{Trip}

-- The boards after a, by the answer there: an offer goes on along the dimension that the next pick takes, and without one the path ends.
unfoldable pub hops : Report → (picks : List ℕ) → Reply Next → (a nav : ℕ) → List ℕ
unfolding hop taken flip cube vectors
hops R [] x a nav = []
hops R (p ∷ ps) (refused m) a nav = []
hops R (p ∷ ps) (accepted arrived) a nav = []
hops R (p ∷ ps) (accepted (onward mask)) a nav =
    let i = taken R.dim mask p in flip a i ∷ hops R ps (hop R (vectors_of R) (flip a i) (flip nav i)) (flip a i) (flip nav i)

-- a whole journey: how the source was accepted, and the boards after it
pub record Route : Type 0 where
  pub choice : Choice
  pub after : List ℕ

-- from a source s, accepted by c
unfoldable pub leave : Report → (picks : List ℕ) → (s d : ℕ) → Choice → Route
unfolding hops told
leave R picks s d c = record { choice = c; after = hops R picks (accepted (told c)) s (bit_xor s d) }

-- by Decide's answer over Fill's vectors: from an accepted source, or Decide's refusal
unfoldable pub route : Report → (picks : List ℕ) → (s d : ℕ) → Reply Route
unfolding if_accepted leave decide cube vectors
route R picks s d = if_accepted (leave R picks s d) (decide R (vectors_of R) s d)

-- the refusals before filling, lowest first
unfoldable pub journey_refusal : Report → (vecs picks path : List ℕ) → (s d : ℕ) → ℕ
unfolding refusal dimension all_sized narrow within cube
journey_refusal R vecs picks path s d =
    refusal
    ((not (dimension R.dim), 1)
    ∷ (not (all_sized R vecs && (leb (R.dim + 1) (length picks) && leb (R.dim + 2) (length path))), 2)
    ∷ (not (narrow R.dim R.links), 3)
    ∷ (not (within R.dim s && within R.dim d), 4)
    ∷ both_work R s d)

-- what comes of the whole: a refusal before filling, or the route
unfoldable pub journey : Report → (vecs picks path : List ℕ) → (s d : ℕ) → Reply Route
unfolding journey_refusal unless route
journey R vecs picks path s d = unless (journey_refusal R vecs picks path s d) (route R picks s d)

-- what it answers: the kind, and the hops
unfoldable pub outcome : Reply Route → Reply (Choice × ℕ)
unfolding if_accepted
outcome = if_accepted (λ r. (r.choice, length r.after))

-- the lent vectors afterwards: what Fill writes, but after refusals 1 to 6 what they were
unfoldable pub vectors_after : Report → (vecs picks path : List ℕ) → (s d : ℕ) → List ℕ
unfolding journey_refusal kept cube vectors
vectors_after R vecs picks path s d = kept (journey_refusal R vecs picks path s d) (vectors_of R) vecs

-- the lent path afterwards: the nodes from s to d in its first words, but after any refusal what it was
unfoldable pub path_by : Reply Route → ℕ → List ℕ → List ℕ
path_by (refused m) s path = path
path_by (accepted r) s path = s ∷ r.after ++ drop (length r.after + 1) path

unfoldable pub path_after : Report → (vecs picks path : List ℕ) → (s d : ℕ) → List ℕ
unfolding path_by journey
path_after R vecs picks path s d = path_by (journey R vecs picks path s d) s path

-- what a trip says
abbrev pub told_of : Trip → Choice × ℕ
told_of t = (chosen t.kind, t.hops)

-- what the answer says
abbrev pub said : Result Trip Refusal → Reply (Choice × ℕ)
said = saying told_of
