-- A signature scheme under which each signature holds: what is said of it is said of a signature's
-- place and its length alone.
use Rattle.std.specs.Prelude.{◌≡◌}
use Rattle.rpki_base.specs.Scheme.{Relation}
use Rattle.rpki_base.specs.Algorithm.{format_of}

-- The key has the kind's format. Neither the message nor the signature is asked.
abbrev pub AnyChecks : Relation
AnyChecks kind key message signature = key.format ≡ format_of kind
