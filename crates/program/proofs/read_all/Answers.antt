-- `program::read_all`: a read's bytes stand in the room after those that came before, in the order in which the reader gave them.
use Rattle.std.proofs.Common.{◌≡◌, ℕ, ◌+◌, ◌≤◌, List, ◌++◌, length, take, drop, rules, sym, ap, ◌∙◌, subst, le_refl, drop_at, length-take-le}
use Rattle.std.proofs.lemmas.Slice.{take-put_mid_below}
use Rattle.std.proofs.KnownBytes.{Consumes-trans}
use Rattle.std.specs.Io.KnownBytes.{Consumes}
use borrow.Rule.Slice.PartMut.{put_mid, post_of}
use lib.Seq.{take-add, take-append-le}
use Rattle.program.proofs.read_all.Goals as goal

front_grown : (a k n : ℕ) (xs ys : List ℕ) → a ≤ length xs → n ≤ length ys → take (a + n) (put_mid a k xs ys) ≡ take a xs ++ take n ys
front_grown a k n xs ys within fits =
    let all = put_mid a k xs ys in
    let after = post_of a k xs in
    let front : take a all ≡ take a xs = take-put_mid_below _ _ _ _ _ (le_refl a) within in
    let rest : take n (drop a all) ≡ take n ys = ap (take n) (drop_at (take a xs) (ys ++ after) a (length-take-le a xs within)) ∙ take-append-le n ys after fits in
    take-add a n all ∙ ap (λ l. l ++ take n (drop a all)) front ∙ ap (λ l. take a xs ++ l) rest

pub loop-count-preserved : goal.loop-count-preserved
loop-count-preserved g c =
    let read = c.in-Ok.ensures in
    let before = c.loop-count.invariant in
    let grown = front_grown c.loop-count.count _ c.in-Ok.more c.loop-count.room c.read.new.buf before.0 read.bound.0 in
    (search rules, subst (Consumes _ _) (sym grown) (Consumes-trans _ _ _ _ _ before.1 read.bytes.0))
