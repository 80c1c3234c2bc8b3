-- BOOLEAN (X.690, 8.2 and 11.1).
use Rattle.std.specs.Prelude.{ℕ, Bool, true, false, ◌==◌, if◌then◌else◌, Option, None, Some, List, [], ◌∷◌}
use Rattle.rpki_der.specs.declared.mode.Mode.{Mode}
use Rattle.rpki_der.specs.declared.mode.Mode.TheVariants.{Ber, Der}
use Rattle.rpki_der.specs.Tags.{boolean_tag}
use Rattle.rpki_der.specs.Value.{Value}
use Rattle.rpki_der.specs.Grammar.{primitive, so}

-- one octet: 00 is false; FF is true, and in BER every other octet too
abbrev pub truth : Mode → List ℕ → Option Bool
truth mode [] = None
truth Ber (a ∷ []) = if a == 0 then Some false else Some true
truth Der (a ∷ []) = if a == 0 then Some false else if a == 255 then Some true else None
truth mode (a ∷ b ∷ more) = None

-- a BOOLEAN: a primitive value whose one contents octet says its truth
unfoldable pub boolean : Mode → Value → Option Bool
boolean mode = so (primitive boolean_tag) (truth mode)
