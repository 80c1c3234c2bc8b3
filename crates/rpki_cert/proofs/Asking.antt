-- What is written of an authority's request is read again as that request.
use Rattle.std.specs.Prelude.{⊤}
use Rattle.std.proofs.Common.{◌≡◌, ℕ, ◌+◌, ◌≤◌, ◌<◌, true, false, Option, None, Some, List, [], ◌∷◌, ◌++◌, length, refl, ap, arith, length-append}
use Rattle.std.specs.Prelude.{unwrap_or, is_none, if◌then◌else◌}
use Rattle.rpki_common.specs.Chaining.{◌>>=◌}
use Rattle.rpki_common.specs.Items.{at_most_one, only}
use Rattle.rpki_der.specs.declared.mode.Mode.{Mode}
use Rattle.rpki_der.specs.declared.mode.Mode.TheVariants.{Ber, Der}
use Rattle.rpki_der.specs.Bits.{bit_string}
use Rattle.rpki_der.specs.Boolean.{boolean}
use Rattle.rpki_der.specs.Grammar.{first, optional, every, done, so, primitive, wrapped}
use Rattle.rpki_der.specs.Identifier.{IsTag}
use Rattle.rpki_der.specs.InDer.{in_der}
use Rattle.rpki_der.specs.Integer.{integer_is}
use Rattle.rpki_der.specs.OctetString.{joined_pieces, octets_under, octet_string}
use Rattle.rpki_der.specs.Oid.{oid, oid_is}
use Rattle.rpki_der.specs.Tags.{sequence, set, context, oid_tag, boolean_tag, integer_tag, bit_string_tag, octet_string_tag}
use Rattle.rpki_der.specs.Value.{Value, Values, End, ◌▸◌}
use Rattle.rpki_der.specs.Writing.{der_primitive, der_constructed, primitive_value, Spells}
use Rattle.rpki_der.proofs.Written.{spells_followed, spells_primitive}
use Rattle.rpki_base.specs.ObjectIdentifiers.{basic_constraints as basic_name}
use Rattle.rpki_base.specs.Extension.{ExtensionFields, extension}
use Rattle.rpki_base.specs.Name.{name}
use Rattle.rpki_base.specs.PublicKey.{KeyFields, public_key, spelled_key, CanSpellKey as KeyCanBeSpelled}
use Rattle.rpki_base.specs.WritingLaws.{is_sequence, is_oid}
use Rattle.rpki_text.specs.Uri.{Kind, rsync, https, fault_of}
use Rattle.rpki_idcert.specs.Making.{name_of_key}
use Rattle.rpki_idcert.proofs.Pieces.{Piece, of_whole, constructed, wrapping, inside_is}
use Rattle.rpki_idcert.proofs.ReadAgain.{no_pieces, is_boolean, is_integer, is_octets, is_context_0, IsSaid, an_extension, Pieces, and_pieces, one_piece, key_info_piece, name_is_read}
use Rattle.rpki_idcert.proofs.Sizes.{primitive_size, constructed_size}
use Rattle.rpki_cert.specs.declared.key_usage.KeyUsage.TheVariants.{Ca}
use Rattle.rpki_cert.specs.ObjectIdentifiers as names
use Rattle.rpki_cert.specs.KeyUsage.{key_usage}
use Rattle.rpki_cert.specs.Access.{AccessFields, Description, access_description, lawful, located, either, first_located, accessed, subject_info_access}
use Rattle.rpki_cert.specs.Extensions.{authority, authority_in, usage_in, access_in, RequestedExtensions, requested, extension_list}
use Rattle.rpki_cert.specs.CsrAttributes.{extension_request, attributes, of_authority, ca_attributes, CaAttributes}
use Rattle.rpki_cert.specs.Csr.{RequestFields, request_info}
use Rattle.rpki_cert.specs.Making.{Places, asked_of, requested_extension, spelled_authority, spelled_usage, spelled_description, spelled_notify, spelled_access, authority_extension, usage_extension, attribute_name, spelled_extensions, spelled_attribute, spelled_version, spelled_info}

-- ---- tags

is_bits : IsTag bit_string_tag
is_bits = ((λ e. omega (arith, e), λ e. omega (arith, e), λ e. omega (arith, e)), refl)

is_set : IsTag set
is_set = ((λ e. omega (arith, e), λ e. omega (arith, e), λ e. omega (arith, e)), refl)

is_uri : IsTag (context 6)
is_uri = ((λ e. omega (arith, e), λ e. omega (arith, e), λ e. omega (arith, e)), refl)

-- ---- an extension whose flag is false, and written

abbrev flagged_values : List ℕ → List ℕ → Values
flagged_values identifier value = primitive_value oid_tag identifier ▸ primitive_value boolean_tag (0 ∷ []) ▸ primitive_value octet_string_tag value ▸ End

flagged_spells : (mode : Mode) (identifier value : List ℕ) → length identifier + length value + 64 < 4294967296
    → Spells mode (der_primitive oid_tag identifier ++ (der_primitive boolean_tag (0 ∷ []) ++ der_primitive octet_string_tag value)) (flagged_values identifier value)
flagged_spells mode identifier value h = spells_followed mode _ _ _ _ (spells_primitive mode oid_tag identifier is_oid (omega (arith, h))) (spells_followed mode _ _ _ _ (spells_primitive mode boolean_tag (0 ∷ []) is_boolean (omega arith)) (spells_primitive mode octet_string_tag value is_octets (omega (arith, h))))

flagged_size : (identifier value : List ℕ) → length (der_primitive oid_tag identifier ++ (der_primitive boolean_tag (0 ∷ []) ++ der_primitive octet_string_tag value)) ≤ length identifier + length value + 20
flagged_size identifier value = omega (arith, length-append (der_primitive oid_tag identifier) (der_primitive boolean_tag (0 ∷ []) ++ der_primitive octet_string_tag value), length-append (der_primitive boolean_tag (0 ∷ [])) (der_primitive octet_string_tag value), primitive_size oid_tag identifier, primitive_size octet_string_tag value)

octets_read : (mode : Mode) (value : List ℕ) (more : Values) → first (octet_string mode) (primitive_value octet_string_tag value ▸ more) ≡ Some (value, more)
unfolding first octets_under joined_pieces ◌>>=◌
octets_read Ber value more = refl
octets_read Der value more = refl

false_read : (mode : Mode) (more : Values) → optional boolean_tag (boolean mode) (primitive_value boolean_tag (0 ∷ []) ▸ more) ≡ Some (Some false, more)
unfolding optional boolean so ◌>>=◌
false_read Ber more = refl
false_read Der more = refl

abbrev extension_in : Mode → Values → Option ExtensionFields
extension_in mode vs = do
  identifier ← first oid vs
  critical ← optional boolean_tag (boolean mode) identifier.1
  value ← first (octet_string mode) critical.1
  done (record {
    identifier = identifier.0;
    critical = unwrap_or critical.0 false;
    value = value.0;
  }) value.1

flagged_reads : (mode : Mode) (identifier value : List ℕ) → ((more : Values) → first oid (primitive_value oid_tag identifier ▸ more) ≡ Some (identifier, more)) → extension_in mode (flagged_values identifier value) ≡ Some (record { identifier = identifier; critical = false; value = value })
unfolding done ◌>>=◌
flagged_reads mode identifier value n = rw (n (primitive_value boolean_tag (0 ∷ []) ▸ primitive_value octet_string_tag value ▸ End), false_read mode (primitive_value octet_string_tag value ▸ End), octets_read mode value End) refl

flagged : (mode : Mode) (identifier value : List ℕ) → IsSaid identifier value → Piece mode (extension mode) (requested_extension identifier false value) (record { identifier = identifier; critical = false; value = value })
unfolding extension requested_extension
flagged mode identifier value s =
    constructed mode sequence _ (extension_in mode) (flagged_values identifier value) _ is_sequence (omega (arith, s.short, flagged_size identifier value)) (flagged_spells mode identifier value s.short) (flagged_reads mode identifier value s.named)

-- ---- what the extensions hold

authority_piece : Piece Der (authority Der) spelled_authority true
unfolding authority optional boolean so done ◌>>=◌
authority_piece = constructed Der sequence (der_primitive boolean_tag (255 ∷ [])) _ (primitive_value boolean_tag (255 ∷ []) ▸ End) true is_sequence (omega arith) (spells_primitive Der boolean_tag (255 ∷ []) is_boolean (omega arith)) refl

authority_read : in_der (authority Der) spelled_authority ≡ Some true
authority_read = inside_is (authority Der) spelled_authority true authority_piece

usage_piece : Piece Der key_usage spelled_usage Ca
unfolding key_usage bit_string so ◌>>=◌
usage_piece = record { value = primitive_value bit_string_tag (1 ∷ 6 ∷ []); spells = spells_primitive Der bit_string_tag (1 ∷ 6 ∷ []) is_bits (omega arith); reads = refl }

usage_read : in_der key_usage spelled_usage ≡ Some Ca
usage_read = inside_is key_usage spelled_usage Ca usage_piece

-- ---- descriptions

abbrev described : List ℕ → List ℕ → Description
described method uri = record { method = method; location = Some uri }

-- the contents of an object identifier that is short
pub record IsMethod (method : List ℕ) : Type 0 where
  pub named : (more : Values) → first oid (primitive_value oid_tag method ▸ more) ≡ Some (method, more)
  pub short : length method ≤ 20

abbrev uri_read : Value → Option (Option (List ℕ))
uri_read v = Some (primitive (context 6) v)

description_reads : (method uri : List ℕ) → ((more : Values) → first oid (primitive_value oid_tag method ▸ more) ≡ Some (method, more))
    → (first oid (primitive_value oid_tag method ▸ primitive_value (context 6) uri ▸ End) >>= λ m. first uri_read m.1 >>= λ l. done (record { method = m.0; location = l.0 }) l.1) ≡ Some (described method uri)
unfolding first done ◌>>=◌
description_reads method uri n = rw (n (primitive_value (context 6) uri ▸ End)) refl

description_size : (method uri : List ℕ) → length (der_primitive oid_tag method ++ der_primitive (context 6) uri) ≤ length method + length uri + 12
description_size method uri = omega (arith, length-append (der_primitive oid_tag method) (der_primitive (context 6) uri), primitive_size oid_tag method, primitive_size (context 6) uri)

description_piece : (method uri : List ℕ) → IsMethod method → length uri ≤ 65535 → Piece Der access_description (spelled_description method uri) (described method uri)
unfolding access_description spelled_description
description_piece method uri m h =
    constructed Der sequence (der_primitive oid_tag method ++ der_primitive (context 6) uri) _ (primitive_value oid_tag method ▸ primitive_value (context 6) uri ▸ End) (described method uri) is_sequence (omega (arith, m.short, h, description_size method uri))
    (spells_followed Der _ _ _ _ (spells_primitive Der oid_tag method is_oid (omega (arith, m.short))) (spells_primitive Der (context 6) uri is_uri (omega (arith, h)))) (description_reads method uri m.named)

spelled_size : (method uri : List ℕ) → length method ≤ 20 → length uri ≤ 65535 → length (spelled_description method uri) ≤ 66000
unfolding spelled_description
spelled_size method uri m h = omega (arith, m, h, description_size method uri, constructed_size sequence (der_primitive oid_tag method ++ der_primitive (context 6) uri))

repository_method : IsMethod names.ca_repository
unfolding first oid so ◌>>=◌
repository_method = record { named = λ more. refl; short = omega arith }

manifest_method : IsMethod names.rpki_manifest
unfolding first oid so ◌>>=◌
manifest_method = record { named = λ more. refl; short = omega arith }

notify_method : IsMethod names.rpki_notify
unfolding first oid so ◌>>=◌
notify_method = record { named = λ more. refl; short = omega arith }

-- the places are lawful URIs, and no longer than these may be
abbrev pub IsUri : Kind → List ℕ → Type 0
IsUri kind uri = (fault_of kind uri ≡ None) × (length uri ≤ 65535)

abbrev pub IsUriIfThere : Kind → Option (List ℕ) → Type 0
IsUriIfThere kind None = ⊤
IsUriIfThere kind (Some uri) = IsUri kind uri

pub record AreUris (p : Places) : Type 0 where
  pub repository : IsUri rsync p.ca_repository
  pub manifest : IsUri rsync p.rpki_manifest
  pub notify : IsUriIfThere https p.rpki_notify

abbrev said_notify : Option (List ℕ) → List Description
said_notify None = []
said_notify (Some uri) = described names.rpki_notify uri ∷ []

abbrev all_said : Places → List Description
all_said p = described names.ca_repository p.ca_repository ∷ (described names.rpki_manifest p.rpki_manifest ∷ said_notify p.rpki_notify)

abbrev access_of : Places → AccessFields
access_of p = record { ca_repository = Some p.ca_repository; rpki_manifest = Some p.rpki_manifest; rpki_notify = p.rpki_notify }

is_lawful : (kind : Kind) (uri : List ℕ) → fault_of kind uri ≡ None → lawful kind uri ≡ Some uri
is_lawful kind uri e = ap (λ fault. if is_none fault then Some uri else None) e

both_said : (a b : List ℕ) → lawful rsync a ≡ Some a → lawful rsync b ≡ Some b → accessed (described names.ca_repository a ∷ described names.rpki_manifest b ∷ []) ≡ record { ca_repository = Some a; rpki_manifest = Some b; rpki_notify = None }
unfolding first_located located either ◌>>=◌
both_said a b e f = rw (e, f) refl

three_said : (a b c : List ℕ) → lawful rsync a ≡ Some a → lawful rsync b ≡ Some b → lawful https c ≡ Some c
    → accessed (described names.ca_repository a ∷ described names.rpki_manifest b ∷ described names.rpki_notify c ∷ []) ≡ record { ca_repository = Some a; rpki_manifest = Some b; rpki_notify = Some c }
unfolding first_located located either ◌>>=◌
three_said a b c e f g = rw (e, f, g) refl

said_is : (a b : List ℕ) (c : Option (List ℕ)) → IsUri rsync a → IsUri rsync b → IsUriIfThere https c → accessed (described names.ca_repository a ∷ (described names.rpki_manifest b ∷ said_notify c)) ≡ record { ca_repository = Some a; rpki_manifest = Some b; rpki_notify = c }
said_is a b None p q r = both_said a b (is_lawful rsync a p.0) (is_lawful rsync b q.0)
said_is a b (Some c) p q r = three_said a b c (is_lawful rsync a p.0) (is_lawful rsync b q.0) (is_lawful https c r.0)

notify_pieces : (c : Option (List ℕ)) → IsUriIfThere https c → Pieces Der access_description (spelled_notify c) (said_notify c)
notify_pieces None r = no_pieces Der access_description
notify_pieces (Some uri) r = one_piece Der access_description _ _ (description_piece names.rpki_notify uri notify_method r.1)

notify_size : (c : Option (List ℕ)) → IsUriIfThere https c → length (spelled_notify c) ≤ 66000
notify_size None r = omega arith
notify_size (Some uri) r = spelled_size names.rpki_notify uri (omega arith) r.1

abbrev access_parts : Places → List ℕ
access_parts p = spelled_description names.ca_repository p.ca_repository ++ (spelled_description names.rpki_manifest p.rpki_manifest ++ spelled_notify p.rpki_notify)

access_size : (p : Places) → AreUris p → length (access_parts p) ≤ 198000
access_size p u =
    omega (
      arith,
      length-append (spelled_description names.ca_repository p.ca_repository) (spelled_description names.rpki_manifest p.rpki_manifest ++ spelled_notify p.rpki_notify),
      length-append (spelled_description names.rpki_manifest p.rpki_manifest) (spelled_notify p.rpki_notify),
      spelled_size names.ca_repository p.ca_repository (omega arith) u.repository.1,
      spelled_size names.rpki_manifest p.rpki_manifest (omega arith) u.manifest.1,
      notify_size p.rpki_notify u.notify,
    )

access_pieces : (p : Places) → AreUris p → Pieces Der access_description (access_parts p) (all_said p)
access_pieces p u = and_pieces Der access_description _ _ _ _ (description_piece names.ca_repository p.ca_repository repository_method u.repository.1)
    (and_pieces Der access_description _ _ _ _ (description_piece names.rpki_manifest p.rpki_manifest manifest_method u.manifest.1) (notify_pieces p.rpki_notify u.notify))

all_read : (vs : Values) (all : List Description) (a : AccessFields) → every access_description vs ≡ Some all → accessed all ≡ a → (every access_description vs >>= λ all. Some (accessed all)) ≡ Some a
unfolding ◌>>=◌
all_read vs all a e f = rw e (ap Some f)

access_piece : (p : Places) → AreUris p → Piece Der subject_info_access (spelled_access p) (access_of p)
unfolding subject_info_access
access_piece p u =
    let q = access_pieces p u in
    constructed Der sequence (access_parts p) (λ vs. every access_description vs >>= λ all. Some (accessed all)) q.values (access_of p) is_sequence (omega (arith, access_size p u)) q.spells
    (all_read q.values (all_said p) (access_of p) q.reads (said_is p.ca_repository p.rpki_manifest p.rpki_notify u.repository u.manifest u.notify))

access_read : (p : Places) → AreUris p → in_der subject_info_access (spelled_access p) ≡ Some (access_of p)
access_read p u = inside_is subject_info_access (spelled_access p) (access_of p) (access_piece p u)

-- ---- all extensions

named_basic : (more : Values) → first oid (primitive_value oid_tag basic_name ▸ more) ≡ Some (basic_name, more)
unfolding first oid so ◌>>=◌
named_basic more = refl

named_usage : (more : Values) → first oid (primitive_value oid_tag names.key_usage ▸ more) ≡ Some (names.key_usage, more)
unfolding first oid so ◌>>=◌
named_usage more = refl

named_access : (more : Values) → first oid (primitive_value oid_tag names.subject_info_access ▸ more) ≡ Some (names.subject_info_access, more)
unfolding first oid so ◌>>=◌
named_access more = refl

abbrev extensions_said : Places → List ExtensionFields
extensions_said p =
    record { identifier = basic_name; critical = true; value = spelled_authority }
    ∷ record { identifier = names.key_usage; critical = true; value = spelled_usage }
    ∷ record { identifier = names.subject_info_access; critical = false; value = spelled_access p } ∷ []

whole_access : (p : Places) → AreUris p → length (spelled_access p) ≤ 199000
whole_access p u = omega (arith, access_size p u, constructed_size sequence (access_parts p))

authority_said : Piece Der (extension Der) authority_extension (record { identifier = basic_name; critical = true; value = spelled_authority })
unfolding authority_extension requested_extension
authority_said = an_extension Der basic_name true spelled_authority (record { named = named_basic; short = omega arith })

usage_said : Piece Der (extension Der) usage_extension (record { identifier = names.key_usage; critical = true; value = spelled_usage })
unfolding usage_extension requested_extension
usage_said = an_extension Der names.key_usage true spelled_usage (record { named = named_usage; short = omega arith })

authority_size : length authority_extension ≤ 100
unfolding authority_extension requested_extension
authority_size = omega arith

usage_size : length usage_extension ≤ 100
unfolding usage_extension requested_extension
usage_size = omega arith

extensions_pieces : (p : Places) → AreUris p → Pieces Der (extension Der) (spelled_extensions p) (extensions_said p)
extensions_pieces p u =
    and_pieces Der (extension Der) _ _ _ _ authority_said
    (and_pieces Der (extension Der) _ _ _ _ usage_said
    (one_piece Der (extension Der) _ _ (flagged Der names.subject_info_access (spelled_access p) (record { named = named_access; short = omega (arith, whole_access p u) }))))

abbrev requested_of : Places → RequestedExtensions
requested_of p = record { basic_ca = Some true; key_usage = Some Ca; extended_key_usage = None; access = Some (access_of p) }

requested_is : (p : Places) → AreUris p → requested (extensions_said p) ≡ Some (requested_of p)
unfolding requested only at_most_one authority_in usage_in access_in ◌>>=◌
requested_is p u = rw (authority_read, usage_read, access_read p u) refl

list_reads : (vs : Values) (all : List ExtensionFields) (r : RequestedExtensions) → every (extension Der) vs ≡ Some all → requested all ≡ Some r → (every (extension Der) vs >>= requested) ≡ Some r
unfolding ◌>>=◌
list_reads vs all r e f = rw e f

third_size : (p : Places) → AreUris p → length (requested_extension names.subject_info_access false (spelled_access p)) ≤ 200000
unfolding requested_extension
third_size p u =
    omega (
      arith,
      whole_access p u,
      constructed_size sequence (der_primitive oid_tag names.subject_info_access ++ (der_primitive boolean_tag (0 ∷ []) ++ der_primitive octet_string_tag (spelled_access p))),
      flagged_size names.subject_info_access (spelled_access p),
    )

extensions_size : (p : Places) → AreUris p → length (spelled_extensions p) ≤ 201000
extensions_size p u =
    omega (
      arith,
      authority_size,
      usage_size,
      third_size p u,
      length-append authority_extension (usage_extension ++ requested_extension names.subject_info_access false (spelled_access p)),
      length-append usage_extension (requested_extension names.subject_info_access false (spelled_access p)),
    )

list_piece : (p : Places) → AreUris p → Piece Der (extension_list Der) (der_constructed sequence (spelled_extensions p)) (requested_of p)
unfolding extension_list
list_piece p u =
    let q = extensions_pieces p u in
    constructed Der sequence (spelled_extensions p) (λ vs. every (extension Der) vs >>= requested) q.values (requested_of p) is_sequence (omega (arith, extensions_size p u)) q.spells (list_reads q.values (extensions_said p) (requested_of p) q.reads (requested_is p u))

list_size : (p : Places) → AreUris p → length (der_constructed sequence (spelled_extensions p)) ≤ 202000
list_size p u = omega (arith, extensions_size p u, constructed_size sequence (spelled_extensions p))

set_piece : (p : Places) → AreUris p → Piece Der (wrapped set (extension_list Der)) (der_constructed set (der_constructed sequence (spelled_extensions p))) (requested_of p)
set_piece p u = wrapping Der set (der_constructed sequence (spelled_extensions p)) (extension_list Der) (requested_of p) is_set (omega (arith, list_size p u)) (list_piece p u)

set_size : (p : Places) → AreUris p → length (der_constructed set (der_constructed sequence (spelled_extensions p))) ≤ 203000
set_size p u = omega (arith, list_size p u, constructed_size set (der_constructed sequence (spelled_extensions p)))

-- ---- the attribute

name_spells : Spells Der attribute_name (primitive_value oid_tag names.extension_request ▸ End)
unfolding attribute_name
name_spells = spells_primitive Der oid_tag names.extension_request is_oid (omega arith)

name_size : length attribute_name ≤ 20
unfolding attribute_name
name_size = omega arith

attribute_reads : (p : Places) (v : Value) → wrapped set (extension_list Der) v ≡ Some (requested_of p)
    → (first (oid_is names.extension_request) (primitive_value oid_tag names.extension_request ▸ v ▸ End) >>= λ kind. first (wrapped set (extension_list Der)) kind.1 >>= λ extensions. done extensions.0 extensions.1) ≡ Some (requested_of p)
unfolding first oid_is oid so done ◌>>=◌
attribute_reads p v e = rw e refl

abbrev attribute_parts : Places → List ℕ
attribute_parts p = attribute_name ++ der_constructed set (der_constructed sequence (spelled_extensions p))

attribute_size : (p : Places) → AreUris p → length (attribute_parts p) ≤ 204000
attribute_size p u = omega (arith, name_size, set_size p u, length-append attribute_name (der_constructed set (der_constructed sequence (spelled_extensions p))))

attribute_piece : (p : Places) → AreUris p → Piece Der (extension_request Der) (spelled_attribute p) (requested_of p)
unfolding extension_request
attribute_piece p u =
    let q = set_piece p u in
    constructed Der sequence (attribute_parts p) _ (primitive_value oid_tag names.extension_request ▸ q.value ▸ End) (requested_of p) is_sequence (omega (arith, attribute_size p u))
    (spells_followed Der _ _ _ _ name_spells q.spells) (attribute_reads p q.value q.reads)

whole_attribute : (p : Places) → AreUris p → length (spelled_attribute p) ≤ 205000
whole_attribute p u = omega (arith, attribute_size p u, constructed_size sequence (attribute_parts p))

attributes_piece : (p : Places) → AreUris p → Piece Der (attributes Der) (der_constructed (context 0) (spelled_attribute p)) (requested_of p)
unfolding attributes
attributes_piece p u = wrapping Der (context 0) (spelled_attribute p) (extension_request Der) (requested_of p) is_context_0 (omega (arith, whole_attribute p u)) (attribute_piece p u)

abbrev ca_of : Places → CaAttributes
ca_of p = record { basic_ca = true; key_usage = Ca; extended_key_usage = None; access = access_of p }

authority_is : (p : Places) → of_authority (requested_of p) ≡ Some (ca_of p)
unfolding of_authority ◌>>=◌
authority_is p = refl

so_reads : {X Y : Type 0} (grammar : Value → Option X) (convert : X → Option Y) (v : Value) (x : X) (y : Y) → grammar v ≡ Some x → convert x ≡ Some y → so grammar convert v ≡ Some y
unfolding so ◌>>=◌
so_reads grammar convert v x y e f = rw e f

ca_piece : (p : Places) → AreUris p → Piece Der (ca_attributes Der) (der_constructed (context 0) (spelled_attribute p)) (ca_of p)
unfolding ca_attributes
ca_piece p u =
    let q = attributes_piece p u in
    record { value = q.value; spells = q.spells; reads = so_reads (attributes Der) of_authority q.value (requested_of p) (ca_of p) q.reads (authority_is p) }

-- ---- all that is signed

version_piece : Piece Der (integer_is 0) spelled_version tt
unfolding integer_is so ◌>>=◌
version_piece = record { value = primitive_value integer_tag (0 ∷ []); spells = spells_primitive Der integer_tag (0 ∷ []) is_integer (omega arith); reads = refl }

abbrev info_fields : Values → Option (RequestFields CaAttributes)
info_fields vs = do
  version ← first (integer_is 0) vs
  subject ← first name version.1
  key ← first public_key subject.1
  asked ← first (ca_attributes Der) key.1
  done (record { subject = subject.0; key = key.0; attributes = asked.0 }) asked.1

info_reads : (subject : List ℕ) (key : KeyFields) (a : CaAttributes) (v1 v2 v3 v4 : Value) → integer_is 0 v1 ≡ Some tt → name v2 ≡ Some subject → public_key v3 ≡ Some key → ca_attributes Der v4 ≡ Some a → info_fields (v1 ▸ v2 ▸ v3 ▸ v4 ▸ End) ≡ Some (record { subject = subject; key = key; attributes = a })
unfolding first done ◌>>=◌
info_reads subject key a v1 v2 v3 v4 e1 e2 e3 e4 = rw (e1, e2, e3, e4) refl

abbrev info_parts : KeyFields → Places → List ℕ
info_parts key p = spelled_version ++ (name_of_key key ++ (spelled_key key ++ der_constructed (context 0) (spelled_attribute p)))

pub info_piece : (key : KeyFields) (p : Places) → AreUris p → KeyCanBeSpelled key → length (info_parts key p) < 4294967296 → Piece Der (request_info ca_attributes Der) (spelled_info key p) (asked_of key p)
unfolding request_info spelled_info
info_piece key p u k h =
    let p1 = version_piece in
    let p2 = of_whole Der name (name_of_key key) (name_of_key key) (name_is_read Der key) in
    let p3 = key_info_piece Der key k in
    let p4 = ca_piece p u in
    constructed Der sequence (info_parts key p) info_fields (p1.value ▸ p2.value ▸ p3.value ▸ p4.value ▸ End) (asked_of key p) is_sequence h
    (spells_followed Der _ _ _ _ p1.spells (spells_followed Der _ _ _ _ p2.spells (spells_followed Der _ _ _ _ p3.spells p4.spells)))
    (info_reads (name_of_key key) key (ca_of p) p1.value p2.value p3.value p4.value p1.reads p2.reads p3.reads p4.reads)
