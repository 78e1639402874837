-- Text put into a lent buffer.
use Rattle.std.specs.Prelude.{ℕ, ◌+◌, ◌-◌, min, ◌≡◌, List, length}
use Rattle.std.proofs.lemmas.List.Edits.{sets}
use Rattle.lines.specs.declared.Page.{Page}

-- the text stands from place at on as far as the buffer goes, all other places are as before, and next is the place after what stands
pub record Put (text : List ℕ) (at : ℕ) (old new : List ℕ) (next : ℕ) : Type 0 where
  pub after : next ≡ at + min (length text) (length old - at)
  pub stands : new ≡ sets old at text

-- the text is put into a page, which has the same buffer before and after
pub record Puts (text : List ℕ) (old new : Page) : Type 0 where
  pub put : Put text old.at old.out.now new.out.now new.at
  pub same_reference : new.out.ghost_name ≡ old.out.ghost_name
