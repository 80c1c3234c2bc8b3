-- The extensions that a request asks for (RFC 6487, 6.3; RFC 8209, 3.2).
use Rattle.std.specs.Prelude.{ℕ, Bool, false, ◌||◌, filter, unwrap_or, Option, Some, List}
use Rattle.rpki_common.specs.Chaining.{◌>>=◌}
use Rattle.rpki_common.specs.Items.{at_most_one, only}
use Rattle.rpki_der.specs.declared.mode.Mode.{Mode}
use Rattle.rpki_der.specs.declared.mode.Mode.TheVariants.{Der}
use Rattle.rpki_der.specs.Tags.{sequence, boolean_tag}
use Rattle.rpki_der.specs.Value.{Value}
use Rattle.rpki_der.specs.Grammar.{within, optional, every, done}
use Rattle.rpki_der.specs.Boolean.{boolean}
use Rattle.rpki_der.specs.InDer.{in_der}
use Rattle.rpki_base.specs.Extension.{ExtensionFields, extension, is}
use Rattle.rpki_base.specs.ObjectIdentifiers.{basic_constraints as basic_constraints_name}
use Rattle.rpki_cert.specs.declared.key_usage.KeyUsage.{KeyUsage}
use Rattle.rpki_cert.specs.ObjectIdentifiers as names
use Rattle.rpki_cert.specs.KeyUsage.{key_usage}
use Rattle.rpki_cert.specs.ExtendedKeyUsage.{extended_key_usage}
use Rattle.rpki_cert.specs.Access.{AccessFields, subject_info_access}

-- basicConstraints (RFC 5280, 4.2.1.9) without the length of a path: whether the subject is to be
-- an authority, which is false where nothing says so
unfoldable pub authority : Mode → Value → Option Bool
authority mode = within sequence (λ vs. do
  ca ← optional boolean_tag (boolean mode) vs
  done (unwrap_or ca.0 false) ca.1)

-- What an extension holds is in DER whatever the mode round it (RFC 5280, 4.2): a value stands at
-- its beginning, and the rest is unread.
unfoldable pub authority_in : ExtensionFields → Option Bool
authority_in e = in_der (authority Der) e.value

-- what keyUsage says (RFC 6487, 4.8.4)
unfoldable pub usage_in : ExtensionFields → Option KeyUsage
usage_in e = in_der key_usage e.value

-- the purposes that extKeyUsage names (RFC 5280, 4.2.1.12)
unfoldable pub purposes_in : ExtensionFields → Option (List (List ℕ))
purposes_in e = in_der extended_key_usage e.value

-- where the subject publishes, by subjectInfoAccess (RFC 5280, 4.2.2.2)
unfoldable pub access_in : ExtensionFields → Option AccessFields
access_in e = in_der subject_info_access e.value

-- whether the extension is basicConstraints, keyUsage, extKeyUsage or subjectInfoAccess
abbrev pub is_known : ExtensionFields → Bool
is_known e = is basic_constraints_name e || (is names.key_usage e
    || (is names.extended_key_usage e || is names.subject_info_access e))

-- what each of the four says, if it is there
pub record RequestedExtensions : Type 0 where
  pub basic_ca : Option Bool
  pub key_usage : Option KeyUsage
  pub extended_key_usage : Option (List (List ℕ))
  pub access : Option AccessFields

-- the extensions of a request: each at most once, and no others
unfoldable pub requested : List ExtensionFields → Option RequestedExtensions
requested all = do
  others ← only is_known all
  ca ← at_most_one authority_in (filter (is basic_constraints_name) all)
  usage ← at_most_one usage_in (filter (is names.key_usage) all)
  purposes ← at_most_one purposes_in (filter (is names.extended_key_usage) all)
  access ← at_most_one access_in (filter (is names.subject_info_access) all)
  Some (record {
    basic_ca = ca;
    key_usage = usage;
    extended_key_usage = purposes;
    access = access;
  })

-- a SEQUENCE of extensions
unfoldable pub extension_list : Mode → Value → Option RequestedExtensions
extension_list mode = within sequence (λ vs. every (extension mode) vs >>= requested)
