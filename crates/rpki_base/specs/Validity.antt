-- Validity (RFC 5280, 4.1.2.5).
use Rattle.std.specs.Prelude.{Option, ℤ}
use Rattle.rpki_common.specs.Chaining.{◌>>=◌}
use Rattle.rpki_der.specs.Tags.{sequence}
use Rattle.rpki_der.specs.Value.{Value}
use Rattle.rpki_der.specs.Grammar.{within, first, done}
use Rattle.rpki_base.specs.Time.{time}

-- the first and the last second of it, since 1970
pub record ValidityFields : Type 0 where
  pub not_before : ℤ
  pub not_after : ℤ

--     Validity ::= SEQUENCE {
--       notBefore Time,
--       notAfter Time }
unfoldable pub validity : Value → Option ValidityFields
validity = within sequence (λ vs. do
  not_before ← first time vs
  not_after ← first time not_before.1
  done (record { not_before = not_before.0; not_after = not_after.0 }) not_after.1)
