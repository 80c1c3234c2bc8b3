-- What is written of an identity certificate's fields is read again as these fields.
use Rattle.std.proofs.Common.{◌≡◌, ℕ, ◌+◌, ◌*◌, ◌≤◌, ◌<◌, ℤ, Bool, true, false, Option, None, Some, List, [], ◌∷◌, ◌++◌, length, refl, sym, ap, subst, ◌∙◌, arith, length-append}
use Rattle.std.specs.Prelude.{unwrap_or}
use Rattle.std.proofs.lemmas.Bool.{eq-eqb}
use Rattle.rpki_common.specs.Chaining.{◌>>=◌}
use Rattle.rpki_common.specs.Items.{the_one, at_most_one, the_last}
use Rattle.rpki_der.specs.declared.mode.Mode.{Mode}
use Rattle.rpki_der.specs.declared.mode.Mode.TheVariants.{Ber, Der}
use Rattle.rpki_der.specs.Boolean.{boolean}
use Rattle.rpki_der.specs.Grammar.{first, optional, every, done, so, anything, wrapped}
use Rattle.rpki_der.specs.Identifier.{IsTag}
use Rattle.rpki_der.specs.InDer.{in_der}
use Rattle.rpki_der.specs.Integer.{integer_is}
use Rattle.rpki_der.specs.OctetString.{joined_pieces, octets_under, octet_string}
use Rattle.rpki_der.specs.Oid.{oid}
use Rattle.rpki_der.specs.Tags.{sequence, context, oid_tag, boolean_tag, integer_tag, octet_string_tag}
use Rattle.rpki_der.specs.Value.{Value, Values, End, ◌▸◌}
use Rattle.rpki_der.specs.Writing.{der_primitive, der_constructed, primitive_value, Spells}
use Rattle.rpki_der.specs.Writing.{followed}
use Rattle.rpki_der.proofs.Written.{spells_none, spells_followed, spells_primitive}
use Rattle.rpki_common.proofs.Truths.{same_some}
use Rattle.rpki_common.proofs.Bounds.{bound}
use Rattle.rpki_base.specs.ObjectIdentifiers as names
use Rattle.rpki_base.specs.Extension.{ExtensionFields, extension}
use Rattle.rpki_base.specs.KeyIdentifier.{twenty, key_identifier, key_identifier_under}
use Rattle.rpki_base.specs.WritingLaws.{is_sequence, is_oid}
use Rattle.rpki_idcert.specs.Extensions.{path_length, basic_constraints, authority_key, ca_in, subject_in, authority_in, KnownExtensions, known_extensions, extension_list}
use Rattle.rpki_idcert.specs.Spelling.{critical_flag, spelled_extension, authority_flag, spelled_constraints, spelled_subject_key, spelled_authority_key, spelled_extensions}
use Rattle.rpki_base.specs.declared.rpki_algorithm.RsaIdentifier.TheVariants.{RsaEncryption}
use Rattle.rpki_base.specs.AlgorithmLaws.{x509_value, x509_again}
use Rattle.rpki_base.specs.Civil.{IsMoment}
use Rattle.rpki_base.specs.Name.{name}
use Rattle.rpki_base.specs.PublicKey.{KeyFields, public_key, spelled_parts, spelled_key, CanSpellKey as KeyCanBeSpelled}
use Rattle.rpki_base.specs.RpkiSignatureAlgorithm.{RpkiAlgorithm, x509_algorithm, algorithm, spelled_x509}
use Rattle.rpki_base.specs.Serial.{serial, serial_value, der_serial}
use Rattle.rpki_base.specs.Time.{time}
use Rattle.rpki_base.specs.TimeText.{time_value, der_time}
use Rattle.rpki_base.specs.Validity.{ValidityFields, validity}
use Rattle.rpki_base.proofs.Keys.{written_key}
use Rattle.rpki_base.proofs.Serials.{serial_again, serial_begins}
use Rattle.rpki_base.proofs.Times.{time_again, time_begins}
use Rattle.rpki_der.specs.Whole.{IsWhole, whole_of}
use Rattle.rpki_der.specs.Bits.{bit_string}
use Rattle.rpki_der.specs.Held.{with_octets}
use Rattle.rpki_der.specs.Takes.{BeginsAs}
use Rattle.hex.specs.Hex.{encode_upper, encode_with, upper_digits}
use Rattle.sha1.specs.Sha1.{sha1, digest_bytes}
use Rattle.rpki_base.specs.Bits.{spelled_bits}
use Rattle.rpki_base.specs.Signature.{SignatureParts}
use Rattle.rpki_base.specs.SignedData.{Signed, signature_in, signed_as, signed_fields, signed_value, spelled_data, spelled_parts as spelled_signed, CanSpellSigned as DataCanBeSpelled}
use Rattle.rpki_base.proofs.Keys.{bits_value, bits_spell, bits_within}
use Rattle.rpki_base.proofs.MadeNames.{made_name}
use Rattle.rpki_signer.specs.Limits.{default_algorithm}
use Rattle.rpki_idcert.specs.IdCert.{CertificateFields, identity_certificate}
use Rattle.rpki_idcert.specs.Making.{name_of_key, made_authority_key_id, made_fields, IsReadAgain}
use Rattle.rpki_idcert.specs.Spelling.{spelled_validity, spelled_version, spelled_algorithm, spelled_fields, spelled_tbs, CanSpellCertificate, AreTwenty, AreReadable}
use Rattle.rpki_idcert.specs.TbsIdCert.{TbsFields, version, tbs_fields, tbs_certificate}
use Rattle.rpki_idcert.proofs.Pieces.{Piece, is_whole, begins_as, with_its_octets, of_whole, of_begins, constructed, wrapping, as_octets, inside_is}
use Rattle.rpki_idcert.proofs.Sizes.{primitive_size, constructed_size, content_within, times_size}

-- ---- tags

pub is_boolean : IsTag boolean_tag
is_boolean = ((λ e. omega (arith, e), λ e. omega (arith, e), λ e. omega (arith, e)), refl)

pub is_integer : IsTag integer_tag
is_integer = ((λ e. omega (arith, e), λ e. omega (arith, e), λ e. omega (arith, e)), refl)

pub is_octets : IsTag octet_string_tag
is_octets = ((λ e. omega (arith, e), λ e. omega (arith, e), λ e. omega (arith, e)), refl)

pub is_context_0 : IsTag (context 0)
is_context_0 = ((λ e. omega (arith, e), λ e. omega (arith, e), λ e. omega (arith, e)), refl)

pub is_context_3 : IsTag (context 3)
is_context_3 = ((λ e. omega (arith, e), λ e. omega (arith, e), λ e. omega (arith, e)), refl)

-- ---- an extension

-- its identifier and its value are not empty or too long
pub record IsSaid (identifier value : List ℕ) : Type 0 where
  pub named : (more : Values) → first oid (primitive_value oid_tag identifier ▸ more) ≡ Some (identifier, more)
  pub short : length identifier + length value + 64 < 4294967296

abbrev extension_values : List ℕ → Bool → List ℕ → Values
extension_values identifier true value = primitive_value oid_tag identifier ▸ primitive_value boolean_tag (255 ∷ []) ▸ primitive_value octet_string_tag value ▸ End
extension_values identifier false value = primitive_value oid_tag identifier ▸ primitive_value octet_string_tag value ▸ End

extension_spells : (mode : Mode) (identifier : List ℕ) (critical : Bool) (value : List ℕ) → length identifier + length value + 64 < 4294967296
    → Spells mode (der_primitive oid_tag identifier ++ (critical_flag critical ++ der_primitive octet_string_tag value)) (extension_values identifier critical value)
extension_spells mode identifier true value h = spells_followed mode _ _ _ _ (spells_primitive mode oid_tag identifier is_oid (omega (arith, h))) (spells_followed mode _ _ _ _ (spells_primitive mode boolean_tag (255 ∷ []) is_boolean (omega arith)) (spells_primitive mode octet_string_tag value is_octets (omega (arith, h))))
extension_spells mode identifier false value h = spells_followed mode _ _ _ _ (spells_primitive mode oid_tag identifier is_oid (omega (arith, h))) (spells_primitive mode octet_string_tag value is_octets (omega (arith, h)))

extension_size : (identifier : List ℕ) (critical : Bool) (value : List ℕ) → length (der_primitive oid_tag identifier ++ (critical_flag critical ++ der_primitive octet_string_tag value)) ≤ length identifier + length value + 20
extension_size identifier true value = omega (arith, length-append (der_primitive oid_tag identifier) (critical_flag true ++ der_primitive octet_string_tag value), length-append (critical_flag true) (der_primitive octet_string_tag value), primitive_size oid_tag identifier, primitive_size octet_string_tag value)
extension_size identifier false value = omega (arith, length-append (der_primitive oid_tag identifier) (critical_flag false ++ der_primitive octet_string_tag value), primitive_size oid_tag identifier, primitive_size octet_string_tag value)

octets_read : (mode : Mode) (value : List ℕ) (more : Values) → first (octet_string mode) (primitive_value octet_string_tag value ▸ more) ≡ Some (value, more)
unfolding first octets_under joined_pieces ◌>>=◌
octets_read Ber value more = refl
octets_read Der value more = refl

true_read : (mode : Mode) (more : Values) → optional boolean_tag (boolean mode) (primitive_value boolean_tag (255 ∷ []) ▸ more) ≡ Some (Some true, more)
unfolding optional boolean so ◌>>=◌
true_read Ber more = refl
true_read Der more = refl

none_read : (mode : Mode) (value : List ℕ) (more : Values) → optional boolean_tag (boolean mode) (primitive_value octet_string_tag value ▸ more) ≡ Some (None, primitive_value octet_string_tag value ▸ more)
unfolding optional
none_read mode value more = refl

abbrev extension_in : Mode → Values → Option ExtensionFields
extension_in mode vs = do
  identifier ← first oid vs
  critical ← optional boolean_tag (boolean mode) identifier.1
  value ← first (octet_string mode) critical.1
  done (record {
    identifier = identifier.0;
    critical = unwrap_or critical.0 false;
    value = value.0;
  }) value.1

extension_reads : (mode : Mode) (identifier : List ℕ) (critical : Bool) (value : List ℕ) → ((more : Values) → first oid (primitive_value oid_tag identifier ▸ more) ≡ Some (identifier, more)) → extension_in mode (extension_values identifier critical value) ≡ Some (record { identifier = identifier; critical = critical; value = value })
unfolding done ◌>>=◌
extension_reads mode identifier true value n = rw (n (primitive_value boolean_tag (255 ∷ []) ▸ primitive_value octet_string_tag value ▸ End), true_read mode (primitive_value octet_string_tag value ▸ End), octets_read mode value End) refl
extension_reads mode identifier false value n = rw (n (primitive_value octet_string_tag value ▸ End), none_read mode value End, octets_read mode value End) refl

pub an_extension : (mode : Mode) (identifier : List ℕ) (critical : Bool) (value : List ℕ) → IsSaid identifier value → Piece mode (extension mode) (spelled_extension identifier critical value) (record { identifier = identifier; critical = critical; value = value })
unfolding extension
an_extension mode identifier critical value s =
    constructed mode sequence _ (extension_in mode) (extension_values identifier critical value) _ is_sequence (omega (arith, s.short, extension_size identifier critical value)) (extension_spells mode identifier critical value s.short) (extension_reads mode identifier critical value s.named)

-- ---- lists of values

pub record Pieces {X : Type 0} (mode : Mode) (grammar : Value → Option X) (octets : List ℕ) (xs : List X) : Type 0 where
  pub values : Values
  pub spells : Spells mode octets values
  pub reads : every grammar values ≡ Some xs

pub no_pieces : {X : Type 0} (mode : Mode) (grammar : Value → Option X) → Pieces mode grammar [] []
unfolding every
no_pieces mode grammar = record { values = End; spells = spells_none mode; reads = refl }

every_one : {X : Type 0} (grammar : Value → Option X) (v : Value) (vs : Values) (x : X) (xs : List X) → grammar v ≡ Some x → every grammar vs ≡ Some xs → every grammar (v ▸ vs) ≡ Some (x ∷ xs)
unfolding every ◌>>=◌
every_one grammar v vs x xs e f = rw (e, f) refl

pub and_pieces : {X : Type 0} (mode : Mode) (grammar : Value → Option X) (octets more : List ℕ) (x : X) (xs : List X) → Piece mode grammar octets x → Pieces mode grammar more xs → Pieces mode grammar (octets ++ more) (x ∷ xs)
and_pieces mode grammar octets more x xs p q = record { values = p.value ▸ q.values; spells = spells_followed mode octets more (p.value ▸ End) q.values p.spells q.spells; reads = every_one grammar p.value q.values x xs p.reads q.reads }

every_none : {X : Type 0} (grammar : Value → Option X) → every grammar End ≡ Some []
unfolding every
every_none grammar = refl

pub one_piece : {X : Type 0} (mode : Mode) (grammar : Value → Option X) (octets : List ℕ) (x : X) → Piece mode grammar octets x → Pieces mode grammar octets (x ∷ [])
one_piece mode grammar octets x p = record { values = p.value ▸ End; spells = p.spells; reads = every_one grammar p.value End x [] p.reads (every_none grammar) }

-- ---- what the known extensions hold

flag_piece : (ca : Bool) → Piece Der (basic_constraints Der) (authority_flag ca) ca
unfolding basic_constraints optional boolean so path_length done ◌>>=◌
flag_piece true = constructed Der sequence (critical_flag true) _ (primitive_value boolean_tag (255 ∷ []) ▸ End) true is_sequence (omega arith) (spells_primitive Der boolean_tag (255 ∷ []) is_boolean (omega arith)) refl
flag_piece false = constructed Der sequence (critical_flag false) _ End false is_sequence (omega arith) (spells_none Der) refl

flag_read : (ca : Bool) → in_der (basic_constraints Der) (authority_flag ca) ≡ Some ca
flag_read ca = inside_is (basic_constraints Der) (authority_flag ca) ca (flag_piece ca)

twenty_is : (id : List ℕ) → length id ≡ 20 → twenty id ≡ Some id
twenty_is id e = rw (eq-eqb (length id) 20 e) refl

key_reads : (tag id : List ℕ) → tag ≡ octet_string_tag → length id ≡ 20 → key_identifier Der (primitive_value octet_string_tag id) ≡ Some id
unfolding key_identifier_under octets_under so ◌>>=◌
key_reads tag id e l = twenty_is id l

pub key_piece : (id : List ℕ) → length id ≡ 20 → Piece Der (key_identifier Der) (der_primitive octet_string_tag id) id
key_piece id l = record { value = primitive_value octet_string_tag id; spells = spells_primitive Der octet_string_tag id is_octets (omega (arith, l)); reads = key_reads octet_string_tag id refl l }

key_read : (id : List ℕ) → length id ≡ 20 → in_der (key_identifier Der) (der_primitive octet_string_tag id) ≡ Some id
key_read id l = inside_is (key_identifier Der) (der_primitive octet_string_tag id) id (key_piece id l)

under_reads : (id : List ℕ) → length id ≡ 20 → key_identifier_under (context 0) Der (primitive_value (context 0) id) ≡ Some id
unfolding key_identifier_under octets_under so ◌>>=◌
under_reads id l = twenty_is id l

abbrev authority_fields : Values → Option (Option (List ℕ))
authority_fields vs = do
  key ← optional (context 0) (key_identifier_under (context 0) Der) vs
  rest ← anything key.1
  Some key.0

authority_reads : (id : List ℕ) → length id ≡ 20 → authority_fields (primitive_value (context 0) id ▸ End) ≡ Some (Some id)
unfolding optional ◌>>=◌
authority_reads id l = rw (under_reads id l) refl

authority_piece : (id : List ℕ) → length id ≡ 20 → Piece Der authority_key (der_constructed sequence (der_primitive (context 0) id)) (Some id)
unfolding authority_key
authority_piece id l = constructed Der sequence (der_primitive (context 0) id) authority_fields (primitive_value (context 0) id ▸ End) (Some id) is_sequence (omega (arith, l, primitive_size (context 0) id)) (spells_primitive Der (context 0) id is_context_0 (omega (arith, l))) (authority_reads id l)

authority_read : (id : List ℕ) → length id ≡ 20 → in_der authority_key (der_constructed sequence (der_primitive (context 0) id)) ≡ Some (Some id)
authority_read id l = inside_is authority_key _ (Some id) (authority_piece id l)

-- ---- all of them

abbrev constraints_said : Option Bool → List ExtensionFields
constraints_said None = []
constraints_said (Some ca) = record { identifier = names.basic_constraints; critical = true; value = authority_flag ca } ∷ []

abbrev subject_said : List ℕ → ExtensionFields
subject_said id = record { identifier = names.subject_key_identifier; critical = false; value = der_primitive octet_string_tag id }

abbrev authority_said : Option (List ℕ) → List ExtensionFields
authority_said None = []
authority_said (Some id) = record { identifier = names.authority_key_identifier; critical = false; value = der_constructed sequence (der_primitive (context 0) id) } ∷ []

named_basic : (more : Values) → first oid (primitive_value oid_tag names.basic_constraints ▸ more) ≡ Some (names.basic_constraints, more)
unfolding first oid so ◌>>=◌
named_basic more = refl

constraints_pieces : (mode : Mode) (ca : Option Bool) → Pieces mode (extension mode) (spelled_constraints ca) (constraints_said ca)
constraints_pieces mode None = no_pieces mode (extension mode)
constraints_pieces mode (Some true) = one_piece mode (extension mode) _ _ (an_extension mode names.basic_constraints true (authority_flag true) (record { named = named_basic; short = omega arith }))
constraints_pieces mode (Some false) = one_piece mode (extension mode) _ _ (an_extension mode names.basic_constraints true (authority_flag false) (record { named = named_basic; short = omega arith }))

named_subject : (more : Values) → first oid (primitive_value oid_tag names.subject_key_identifier ▸ more) ≡ Some (names.subject_key_identifier, more)
unfolding first oid so ◌>>=◌
named_subject more = refl

pub named_authority : (more : Values) → first oid (primitive_value oid_tag names.authority_key_identifier ▸ more) ≡ Some (names.authority_key_identifier, more)
unfolding first oid so ◌>>=◌
named_authority more = refl

subject_piece : (mode : Mode) (id : List ℕ) → length id ≡ 20 → Piece mode (extension mode) (spelled_subject_key id) (subject_said id)
subject_piece mode id l = an_extension mode names.subject_key_identifier false (der_primitive octet_string_tag id) (record { named = named_subject; short = omega (arith, l, primitive_size octet_string_tag id) })

authority_pieces : (mode : Mode) (id : Option (List ℕ)) → AreTwenty id → Pieces mode (extension mode) (spelled_authority_key id) (authority_said id)
authority_pieces mode None l = no_pieces mode (extension mode)
authority_pieces mode (Some id) l = one_piece mode (extension mode) _ _ (an_extension mode names.authority_key_identifier false (der_constructed sequence (der_primitive (context 0) id)) (record { named = named_authority; short = omega (arith, l, primitive_size (context 0) id, constructed_size sequence (der_primitive (context 0) id)) }))

every_followed : {X : Type 0} (grammar : Value → Option X) (vs ws : Values) (xs ys : List X) → every grammar vs ≡ Some xs → every grammar ws ≡ Some ys → every grammar (followed vs ws) ≡ Some (xs ++ ys)
unfolding every
every_followed grammar End ws xs ys e f = subst (λ l. every grammar ws ≡ Some (l ++ ys)) (same_some [] xs e) f
every_followed {X = X} grammar (v ▸ vs) ws xs ys e f =
    let b = bound (grammar v) (λ x. every grammar vs >>= λ more. Some (x ∷ more)) xs e in
    let c = bound (every grammar vs) (λ more. Some (b.x ∷ more)) xs b.then' in
    let is : b.x ∷ c.x ≡ xs = same_some (b.x ∷ c.x) xs c.then' in
    every_one grammar v (followed vs ws) b.x (c.x ++ ys) b.found (every_followed grammar vs ws c.x ys c.found f) ∙ ap (λ (l : List X). Some (l ++ ys)) is

pub followed_pieces : {X : Type 0} (mode : Mode) (grammar : Value → Option X) (a b : List ℕ) (xs ys : List X) → Pieces mode grammar a xs → Pieces mode grammar b ys → Pieces mode grammar (a ++ b) (xs ++ ys)
followed_pieces mode grammar a b xs ys p q = record { values = followed p.values q.values; spells = spells_followed mode a b p.values q.values p.spells q.spells; reads = every_followed grammar p.values q.values xs ys p.reads q.reads }

extensions_pieces : (mode : Mode) (t : TbsFields) → length t.subject_key_id ≡ 20 → AreTwenty t.authority_key_id → Pieces mode (extension mode) (spelled_extensions t) (constraints_said t.basic_ca ++ (subject_said t.subject_key_id ∷ authority_said t.authority_key_id))
extensions_pieces mode t s a =
    followed_pieces mode (extension mode) _ _ _ _ (constraints_pieces mode t.basic_ca) (and_pieces mode (extension mode) _ _ _ _ (subject_piece mode t.subject_key_id s) (authority_pieces mode t.authority_key_id a))

known_is : (ca : Option Bool) (id : List ℕ) (aid : Option (List ℕ)) → length id ≡ 20 → AreTwenty aid → known_extensions (constraints_said ca ++ (subject_said id ∷ authority_said aid)) ≡ Some (record { subject = id; basic_ca = ca; authority = aid })
unfolding known_extensions the_one at_most_one the_last subject_in ca_in authority_in ◌>>=◌
known_is None id None s a = rw (key_read id s) refl
known_is None id (Some aid) s a = rw (key_read id s, authority_read aid a) refl
known_is (Some ca) id None s a = rw (key_read id s, flag_read ca) refl
known_is (Some ca) id (Some aid) s a = rw (key_read id s, flag_read ca, authority_read aid a) refl

list_reads : (mode : Mode) (vs : Values) (all : List ExtensionFields) (known : KnownExtensions) → every (extension mode) vs ≡ Some all → known_extensions all ≡ Some known → (every (extension mode) vs >>= known_extensions) ≡ Some known
unfolding ◌>>=◌
list_reads mode vs all known e f = rw e f

pub extensions_piece : (mode : Mode) (t : TbsFields) → length t.subject_key_id ≡ 20 → AreTwenty t.authority_key_id → length (spelled_extensions t) < 4294967296
    → Piece mode (extension_list mode) (der_constructed sequence (spelled_extensions t)) (record { subject = t.subject_key_id; basic_ca = t.basic_ca; authority = t.authority_key_id })
unfolding extension_list
extensions_piece mode t s a h =
    let p = extensions_pieces mode t s a in
    constructed mode sequence (spelled_extensions t) (λ vs. every (extension mode) vs >>= known_extensions) p.values _ is_sequence h p.spells (list_reads mode p.values _ _ p.reads (known_is t.basic_ca t.subject_key_id t.authority_key_id s a))

-- ---- all that is signed

version_piece : (mode : Mode) → Piece mode version spelled_version tt
unfolding integer_is so ◌>>=◌
version_piece mode = wrapping mode (context 0) (der_primitive integer_tag (2 ∷ [])) (integer_is 2) tt is_context_0 (omega arith) (record { value = primitive_value integer_tag (2 ∷ []); spells = spells_primitive mode integer_tag (2 ∷ []) is_integer (omega arith); reads = refl })

pub serial_piece : (mode : Mode) (serial' : List ℕ) → length serial' ≡ 20 → Piece mode serial (der_serial serial') serial'
serial_piece mode serial' l = of_begins mode serial (der_serial serial') serial' (serial_value serial') (serial_begins mode serial' [] l) (serial_again serial' l)

pub algorithm_piece : (mode : Mode) (a : RpkiAlgorithm) → a.identifier ≡ RsaEncryption → Piece mode (algorithm mode) (spelled_x509 a) a
algorithm_piece mode a e = let v = x509_value mode a [] in as_octets mode (spelled_x509 a) (whole_of x509_algorithm mode) a v.0 v.1 (x509_again mode a e)

default_piece : (mode : Mode) → Piece mode (algorithm mode) spelled_algorithm (record { identifier = RsaEncryption; null = true })
unfolding spelled_algorithm
default_piece mode = algorithm_piece mode (record { identifier = RsaEncryption; null = true }) refl

pub time_piece : (mode : Mode) (seconds : ℤ) → IsMoment seconds → Piece mode time (der_time seconds) seconds
time_piece mode seconds m = of_begins mode time (der_time seconds) seconds (time_value seconds) (time_begins mode seconds []) (time_again seconds m)

abbrev validity_fields : Values → Option ValidityFields
validity_fields vs = do
  not_before ← first time vs
  not_after ← first time not_before.1
  done (record { not_before = not_before.0; not_after = not_after.0 }) not_after.1

validity_reads : (v w : Value) (a b : ℤ) → time v ≡ Some a → time w ≡ Some b → validity_fields (v ▸ w ▸ End) ≡ Some (record { not_before = a; not_after = b })
unfolding first done ◌>>=◌
validity_reads v w a b e f = rw (e, f) refl

validity_piece : (mode : Mode) (v : ValidityFields) → IsMoment v.not_before → IsMoment v.not_after → Piece mode validity (spelled_validity v) v
unfolding validity
validity_piece mode v p q =
    let a = time_piece mode v.not_before p in
    let b = time_piece mode v.not_after q in
    constructed mode sequence _ validity_fields (a.value ▸ b.value ▸ End) v is_sequence (omega (arith, times_size v)) (spells_followed mode _ _ _ _ a.spells b.spells) (validity_reads a.value b.value v.not_before v.not_after a.reads b.reads)

pub key_info_piece : (mode : Mode) (key : KeyFields) → KeyCanBeSpelled key → Piece mode public_key (spelled_key key) key
key_info_piece mode key h = let w = written_key mode key [] h in of_begins mode public_key (spelled_key key) key w.0 w.1 w.2

tbs_reads : (mode : Mode) (t : TbsFields) (a : RpkiAlgorithm) (v1 v2 v3 v4 v5 v6 v7 v8 : Value) → version v1 ≡ Some tt → serial v2 ≡ Some t.serial → algorithm mode v3 ≡ Some a → name v4 ≡ Some t.issuer → validity v5 ≡ Some t.validity → name v6 ≡ Some t.subject → public_key v7 ≡ Some t.key
    → wrapped (context 3) (extension_list mode) v8 ≡ Some (record { subject = t.subject_key_id; basic_ca = t.basic_ca; authority = t.authority_key_id }) → tbs_fields mode (v1 ▸ v2 ▸ v3 ▸ v4 ▸ v5 ▸ v6 ▸ v7 ▸ v8 ▸ End) ≡ Some t
unfolding first done ◌>>=◌
tbs_reads mode t a v1 v2 v3 v4 v5 v6 v7 v8 e1 e2 e3 e4 e5 e6 e7 e8 = rw (e1, e2, e3, e4, e5, e6, e7, e8) refl

-- the parts of the fields are no longer than all of them
extensions_within : (t : TbsFields) → CanSpellCertificate t → length (der_constructed sequence (spelled_extensions t)) < 4294967296
extensions_within t h =
    omega (
      arith,
      h,
      length-append spelled_version (der_serial t.serial ++ (spelled_algorithm ++ (t.issuer ++ (spelled_validity t.validity ++ (t.subject ++ (spelled_key t.key ++ der_constructed (context 3) (der_constructed sequence (spelled_extensions t)))))))),
      length-append (der_serial t.serial) (spelled_algorithm ++ (t.issuer ++ (spelled_validity t.validity ++ (t.subject ++ (spelled_key t.key ++ der_constructed (context 3) (der_constructed sequence (spelled_extensions t))))))),
      length-append spelled_algorithm (t.issuer ++ (spelled_validity t.validity ++ (t.subject ++ (spelled_key t.key ++ der_constructed (context 3) (der_constructed sequence (spelled_extensions t)))))),
      length-append t.issuer (spelled_validity t.validity ++ (t.subject ++ (spelled_key t.key ++ der_constructed (context 3) (der_constructed sequence (spelled_extensions t))))),
      length-append (spelled_validity t.validity) (t.subject ++ (spelled_key t.key ++ der_constructed (context 3) (der_constructed sequence (spelled_extensions t)))),
      length-append t.subject (spelled_key t.key ++ der_constructed (context 3) (der_constructed sequence (spelled_extensions t))),
      length-append (spelled_key t.key) (der_constructed (context 3) (der_constructed sequence (spelled_extensions t))),
      content_within (context 3) (der_constructed sequence (spelled_extensions t)),
    )

key_within : (t : TbsFields) → CanSpellCertificate t → KeyCanBeSpelled t.key
key_within t h =
    omega (
      arith,
      h,
      length-append spelled_version (der_serial t.serial ++ (spelled_algorithm ++ (t.issuer ++ (spelled_validity t.validity ++ (t.subject ++ (spelled_key t.key ++ der_constructed (context 3) (der_constructed sequence (spelled_extensions t)))))))),
      length-append (der_serial t.serial) (spelled_algorithm ++ (t.issuer ++ (spelled_validity t.validity ++ (t.subject ++ (spelled_key t.key ++ der_constructed (context 3) (der_constructed sequence (spelled_extensions t))))))),
      length-append spelled_algorithm (t.issuer ++ (spelled_validity t.validity ++ (t.subject ++ (spelled_key t.key ++ der_constructed (context 3) (der_constructed sequence (spelled_extensions t)))))),
      length-append t.issuer (spelled_validity t.validity ++ (t.subject ++ (spelled_key t.key ++ der_constructed (context 3) (der_constructed sequence (spelled_extensions t))))),
      length-append (spelled_validity t.validity) (t.subject ++ (spelled_key t.key ++ der_constructed (context 3) (der_constructed sequence (spelled_extensions t)))),
      length-append t.subject (spelled_key t.key ++ der_constructed (context 3) (der_constructed sequence (spelled_extensions t))),
      length-append (spelled_key t.key) (der_constructed (context 3) (der_constructed sequence (spelled_extensions t))),
      content_within sequence (spelled_parts t.key),
    )

pub tbs_piece : (mode : Mode) (t : TbsFields) → AreReadable mode t → CanSpellCertificate t → Piece mode (tbs_certificate mode) (spelled_tbs t) t
unfolding tbs_certificate spelled_tbs
tbs_piece mode t l h =
    let p1 = version_piece mode in
    let p2 = serial_piece mode t.serial l.serial in
    let p3 = default_piece mode in
    let p4 = of_whole mode name t.issuer t.issuer l.issuer in
    let p5 = validity_piece mode t.validity l.not_before l.not_after in
    let p6 = of_whole mode name t.subject t.subject l.subject in
    let p7 = key_info_piece mode t.key (key_within t h) in
    let e = extensions_within t h in
    let p8 = wrapping mode (context 3) (der_constructed sequence (spelled_extensions t)) (extension_list mode) _ is_context_3 e (extensions_piece mode t l.subject_key_id l.authority_key_id (omega (arith, e, content_within sequence (spelled_extensions t)))) in
    constructed mode sequence (spelled_fields t) (tbs_fields mode) (p1.value ▸ p2.value ▸ p3.value ▸ p4.value ▸ p5.value ▸ p6.value ▸ p7.value ▸ p8.value ▸ End) t is_sequence h
    (spells_followed mode _ _ _ _ p1.spells (spells_followed mode _ _ _ _ p2.spells (spells_followed mode _ _ _ _ p3.spells (spells_followed mode _ _ _ _ p4.spells (spells_followed mode _ _ _ _ p5.spells (spells_followed mode _ _ _ _ p6.spells (spells_followed mode _ _ _ _ p7.spells p8.spells)))))))
    (tbs_reads mode t _ p1.value p2.value p3.value p4.value p5.value p6.value p7.value p8.value p1.reads p2.reads p3.reads p4.reads p5.reads p6.reads p7.reads p8.reads)

-- ---- the certificate

-- the signed value and the signature, as signed values hold them
abbrev signed_as_fields : {X A Y : Type 0} → (Value → Option X) → (X → SignatureParts A → Y) → (Mode → List ℕ → Option A) → Mode → Values → Option Y
signed_as_fields grammar made reads mode vs = do
  value ← first grammar vs
  signature ← signature_in reads mode value.1
  Some (made value.0 signature)

bits_read : (octets : List ℕ) (more : Values) → first bit_string (bits_value octets ▸ more) ≡ Some (record { unused = 0; octets = octets }, more)
unfolding first bit_string so ◌>>=◌
bits_read [] more = refl
bits_read (a ∷ octets) more = refl

signed_reads : {T : Type 0} (mode : Mode) (grammar : Value → Option T) (d : Signed RpkiAlgorithm T) (v w : Value) → with_octets grammar v ≡ Some (d.signed.slice, d.tbs) → algorithm mode w ≡ Some d.signed.signature.algorithm
    → signed_as_fields (with_octets grammar) signed_fields (whole_of x509_algorithm) mode (v ▸ w ▸ bits_value d.signed.signature.value ▸ End) ≡ Some d
unfolding signature_in first done ◌>>=◌
signed_reads mode grammar d v w e f = rw (e, f, bits_read d.signed.signature.value End) refl

pub signed_piece : {T : Type 0} (tbs : Mode → Value → Option T) (mode : Mode) (d : Signed RpkiAlgorithm T) → Piece mode (tbs mode) d.signed.slice d.tbs → d.signed.signature.algorithm.identifier ≡ RsaEncryption → DataCanBeSpelled spelled_x509 d.signed
    → Piece mode (signed_value tbs (whole_of x509_algorithm) mode) (spelled_data spelled_x509 d.signed) d
unfolding signed_value signed_as
signed_piece tbs mode d p a h =
    let q = with_its_octets mode (tbs mode) d.signed.slice d.tbs p in
    let r = algorithm_piece mode d.signed.signature.algorithm a in
    let short : length d.signed.signature.value + 1 < 4294967296 =
    omega (arith, h, bits_within d.signed.signature.value, length-append d.signed.slice (spelled_x509 d.signed.signature.algorithm ++ spelled_bits d.signed.signature.value), length-append (spelled_x509 d.signed.signature.algorithm) (spelled_bits d.signed.signature.value)) in
    constructed mode sequence (spelled_signed spelled_x509 d.signed) (signed_as_fields (with_octets (tbs mode)) signed_fields (whole_of x509_algorithm) mode) (q.value ▸ r.value ▸ bits_value d.signed.signature.value ▸ End) d is_sequence h
    (spells_followed mode _ _ _ _ q.spells (spells_followed mode _ _ _ _ r.spells (bits_spell mode d.signed.signature.value short)))
    (signed_reads mode (tbs mode) d q.value r.value q.reads r.reads)

pub certificate_piece : (mode : Mode) (c : CertificateFields) → Piece mode (tbs_certificate mode) c.signed.slice c.tbs → c.signed.signature.algorithm.identifier ≡ RsaEncryption → DataCanBeSpelled spelled_x509 c.signed → Piece mode (identity_certificate mode) (spelled_data spelled_x509 c.signed) c
unfolding identity_certificate
certificate_piece mode c p a h = signed_piece tbs_certificate mode c p a h

-- ---- made fields

pub sha1_twenty : (octets : List ℕ) → length (sha1 octets) ≡ 20
unfolding sha1 digest_bytes
sha1_twenty octets = refl

digits_length : (t xs : List ℕ) → length (encode_with t xs) ≡ 2 * length xs
unfolding encode_with
digits_length t [] = refl
digits_length t (x ∷ xs) = omega (arith, digits_length t xs)

pub name_is_read : (mode : Mode) (key : KeyFields) → IsWhole name mode (name_of_key key) (name_of_key key)
name_is_read mode key =
    let forty : length (encode_upper (sha1 key.bits)) ≡ 40 = omega (arith, digits_length upper_digits (sha1 key.bits), sha1_twenty key.bits) in
    let m = made_name mode (encode_upper (sha1 key.bits)) [] forty in
    is_whole mode name (name_of_key key) (name_of_key key) (of_begins mode name (name_of_key key) (name_of_key key) m.0 m.1 m.2)

issuer_twenty : (own : Bool) (issuing : KeyFields) → AreTwenty (made_authority_key_id own issuing)
issuer_twenty true issuing = tt
issuer_twenty false issuing = sha1_twenty issuing.bits

pub made_readable : (mode : Mode) (own : Bool) (issuing key : KeyFields) (serial' : List ℕ) (v : ValidityFields) → length serial' ≡ 20 → IsMoment v.not_before → IsMoment v.not_after → AreReadable mode (made_fields own issuing key serial' v)
made_readable mode own issuing key serial' v l p q = record {
  serial = l;
  issuer = name_is_read mode issuing;
  not_before = p;
  not_after = q;
  subject = name_is_read mode key;
  subject_key_id = sha1_twenty key.bits;
  authority_key_id = issuer_twenty own issuing;
}

-- a certificate whose slice is that of its fields
pub issued_piece : (mode : Mode) (c : CertificateFields) → AreReadable mode c.tbs → CanSpellCertificate c.tbs → c.signed.slice ≡ spelled_tbs c.tbs → c.signed.signature.algorithm ≡ default_algorithm → DataCanBeSpelled spelled_x509 c.signed → Piece mode (identity_certificate mode) (spelled_data spelled_x509 c.signed) c
issued_piece mode c r s e a h =
    certificate_piece mode c (subst (λ o. Piece mode (tbs_certificate mode) o c.tbs) (sym e) (tbs_piece mode c.tbs r s)) (ap (λ (x : RpkiAlgorithm). x.identifier) a) h

-- the fields are no longer than their signed spelling
fields_within : (c : CertificateFields) → c.signed.slice ≡ spelled_tbs c.tbs → DataCanBeSpelled spelled_x509 c.signed → CanSpellCertificate c.tbs
unfolding spelled_tbs
fields_within c e h =
    let whole : length c.signed.slice ≡ length (der_constructed sequence (spelled_fields c.tbs)) = ap (λ (o : List ℕ). length o) e in
    omega (arith, h, whole, content_within sequence (spelled_fields c.tbs), length-append c.signed.slice (spelled_x509 c.signed.signature.algorithm ++ spelled_bits c.signed.signature.value))

begins_with : {X : Type 0} (grammar : Value → Option X) (mode : Mode) (octets : List ℕ) (x : X) → Piece mode grammar octets x → (rest : List ℕ) → BeginsAs grammar mode (octets ++ rest) x
begins_with grammar mode octets x p rest = record { value = p.value; rest = rest; begins = begins_as mode grammar octets x p rest; reads = p.reads }

pub issued_again : (mode : Mode) (c : CertificateFields) → AreReadable mode c.tbs → c.signed.slice ≡ spelled_tbs c.tbs → c.signed.signature.algorithm ≡ default_algorithm → IsReadAgain mode c
issued_again mode c r e a rest h = begins_with (identity_certificate mode) mode (spelled_data spelled_x509 c.signed) c (issued_piece mode c r (fields_within c e h) e a h) rest

pub made_again : (mode : Mode) (issuing key : KeyFields) (serial' : List ℕ) (v : ValidityFields) (c : CertificateFields) → length serial' ≡ 20 → IsMoment v.not_before → IsMoment v.not_after → (own : Bool) → c.tbs ≡ made_fields own issuing key serial' v → c.signed.slice ≡ spelled_tbs c.tbs → c.signed.signature.algorithm ≡ default_algorithm → IsReadAgain mode c
made_again mode issuing key serial' v c l p q own f e a = issued_again mode c (subst (λ (t : TbsFields). AreReadable mode t) (sym f) (made_readable mode own issuing key serial' v l p q)) e a
