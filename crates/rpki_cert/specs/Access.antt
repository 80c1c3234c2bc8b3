-- Where a subject publishes (RFC 5280, 4.2.2.2; RFC 6487, 4.8.8.1; RFC 8182, 3.2).
use Rattle.std.specs.Prelude.{ℕ, bytes_eq, is_none, if◌then◌else◌, Option, None, Some, List, [], ◌∷◌}
use Rattle.rpki_common.specs.Chaining.{◌>>=◌}
use Rattle.rpki_der.specs.Tags.{sequence, context}
use Rattle.rpki_der.specs.Value.{Value}
use Rattle.rpki_der.specs.Grammar.{within, first, every, done, primitive}
use Rattle.rpki_der.specs.Oid.{oid}
use Rattle.rpki_text.specs.Uri.{Kind, rsync, https, fault_of}
use Rattle.rpki_cert.specs.ObjectIdentifiers as names

-- what is accessed, by the contents of the object identifier, and where: the octets of a uniform
-- resource identifier, or nothing where the location is a name of another form
pub record Description : Type 0 where
  pub method : List ℕ
  pub location : Option (List ℕ)

-- GeneralName (4.2.1.6): uniformResourceIdentifier [6] IA5String; a name of another form is passed
-- over
abbrev pub uri_location : Value → Option (Option (List ℕ))
uri_location v = Some (primitive (context 6) v)

--     AccessDescription ::= SEQUENCE {
--       accessMethod OBJECT IDENTIFIER,
--       accessLocation GeneralName }
unfoldable pub access_description : Value → Option Description
access_description = within sequence (λ vs. do
  method ← first oid vs
  location ← first uri_location method.1
  done (record { method = method.0; location = location.0 }) location.1)

-- the octets, where they are a lawful URI of this kind
abbrev pub lawful : Kind → List ℕ → Option (List ℕ)
lawful kind octets = if is_none (fault_of kind octets) then Some octets else None

-- the URI of this kind at which this is accessed, if the description gives one
unfoldable pub located : List ℕ → Kind → Description → Option (List ℕ)
located method kind d = if bytes_eq d.method method then d.location >>= lawful kind else None

-- what is found first
unfoldable pub either : {X : Type 0} → Option X → Option X → Option X
either None other = other
either (Some x) other = Some x

-- the URI of this kind in the first of the descriptions that gives one for this method
unfoldable pub first_located : List ℕ → Kind → List Description → Option (List ℕ)
first_located method kind [] = None
first_located method kind (d ∷ more) = either (located method kind d)
    (first_located method kind more)

-- where the objects of an authority are published, where its manifest is, and where changes are
-- notified, each if it is said
pub record AccessFields : Type 0 where
  pub ca_repository : Option (List ℕ)
  pub rpki_manifest : Option (List ℕ)
  pub rpki_notify : Option (List ℕ)

-- of each the first location counts that is a lawful URI of its kind; all other descriptions are
-- passed over
abbrev pub accessed : List Description → AccessFields
accessed all = record {
  ca_repository = first_located names.ca_repository rsync all;
  rpki_manifest = first_located names.rpki_manifest rsync all;
  rpki_notify = first_located names.rpki_notify https all;
}

-- SubjectInfoAccessSyntax ::= SEQUENCE SIZE (1..MAX) OF AccessDescription; an empty one is read too
unfoldable pub subject_info_access : Value → Option AccessFields
subject_info_access = within sequence (λ vs. every access_description vs
    >>= λ all. Some (accessed all))
