-- A record in one: its fields.
use Rattle.std.specs.Prelude.{ℕ, List}
use Rattle.record.specs.Open.{n_in, status_in, links_in}

-- n, the status bytes and the link words
abbrev pub Fields : Type 0
Fields = ℕ × (List ℕ × List ℕ)

-- those of a record
abbrev pub fields : List ℕ → Fields
fields bytes = (n_in bytes, (status_in bytes, links_in bytes))
