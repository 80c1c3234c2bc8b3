-- A key identifier in DER, read of what a value with its tag shows: a means for the reader of an
-- optional one, tied to `key_identifier_under` by proofs/Fields.antt.
use Rattle.std.specs.Prelude.{ℕ, if◌then◌else◌, Option, None, List}
use Rattle.rpki_der.specs.Item.{ItemFields}
use Rattle.rpki_base.specs.KeyIdentifier.{twenty}

-- the contents octets of a primitive value, if there are exactly twenty
abbrev pub key_shown : ItemFields → Option (List ℕ)
key_shown i = if i.constructed then None else twenty i.content
