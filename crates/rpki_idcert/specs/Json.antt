-- Values in DER that a JSON text spells in base64.
use Rattle.std.specs.Prelude.{ℕ, List, Option}
use Rattle.rpki_common.specs.Chaining.{◌>>=◌}
use Rattle.rpki_der.specs.InDer.{in_der}
use Rattle.rpki_der.specs.Value.{Value}
use Rattle.rpki_text.specs.Base64.{octets_of_json}

-- The JSON text is one string, which is the base64 text of octets; what the grammar reads of the
-- value that begins them, in DER. What stands behind the value is unread.
unfoldable pub in_json : {X : Type 0} → (Value → Option X) → List ℕ → Option X
in_json grammar text = octets_of_json text >>= in_der grammar
