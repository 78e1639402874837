-- What the parts of a record say of it.
use Rattle.record.specs.Fields.{Fields}
use Rattle.record.specs.Words.{words_in}
use Rattle.record.specs.declared.Parts.{Parts}

-- the fields that they give
abbrev pub parted : Parts → Fields
parted parts = (parts.n, (parts.status.now, words_in parts.links.now))
