-- What was found so far, while extensions and access descriptions are read: a means for the
-- readers, tied to `requested` and `subject_info_access` by proofs/Gathering.antt.
use Rattle.std.specs.Prelude.{ℕ, Bool, Option, Some, List}
use Rattle.rpki_common.specs.Collecting.{allowed, slot, both}
use Rattle.rpki_base.specs.Extension.{ExtensionFields, is}
use Rattle.rpki_base.specs.ObjectIdentifiers.{basic_constraints as basic_constraints_name}
use Rattle.rpki_text.specs.Uri.{rsync, https}
use Rattle.rpki_cert.specs.declared.key_usage.KeyUsage.{KeyUsage}
use Rattle.rpki_cert.specs.ObjectIdentifiers as names
use Rattle.rpki_cert.specs.Access.{AccessFields, Description, either, located}
use Rattle.rpki_cert.specs.Extensions.{is_known, authority_in, usage_in, purposes_in, access_in, RequestedExtensions}

-- ---- access descriptions

-- each of the three places that was not found yet is noted, if the description gives its URI
unfoldable pub with_description : AccessFields → Description → Option AccessFields
with_description found d = Some (record {
  ca_repository = either found.ca_repository (located names.ca_repository rsync d);
  rpki_manifest = either found.rpki_manifest (located names.rpki_manifest rsync d);
  rpki_notify = either found.rpki_notify (located names.rpki_notify https d);
})

-- ---- extensions

-- what each of the four extensions says, if it was found, behind a place for the check that no
-- other one is there
abbrev pub FoundSoFar : Type 0
FoundSoFar = Unit {0} × (Option Bool × (Option KeyUsage
    × (Option (List (List ℕ)) × Option AccessFields)))

-- one of the four extensions is noted; any other, a second one of its kind, and one whose value
-- isn't read are refused
unfoldable pub add : FoundSoFar → ExtensionFields → Option FoundSoFar
add = both (allowed is_known)
    (both (slot (is basic_constraints_name) authority_in)
    (both (slot (is names.key_usage) usage_in)
    (both (slot (is names.extended_key_usage) purposes_in)
    (slot (is names.subject_info_access) access_in))))

-- what was found of the four extensions, as a record
abbrev pub complete : FoundSoFar → RequestedExtensions
complete found = record {
  basic_ca = found.1.0;
  key_usage = found.1.1.0;
  extended_key_usage = found.1.1.1.0;
  access = found.1.1.1.1;
}
