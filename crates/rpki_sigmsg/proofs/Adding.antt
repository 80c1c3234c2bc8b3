-- What an attribute adds to those found so far, and what all add up to.
use Rattle.std.proofs.Common.{◌≡◌, ℕ, ℤ, true, false, Option, None, Some, List, refl, ap, ◌∙◌}
use Rattle.std.specs.Prelude.{bytes_eq}
use Rattle.rpki_common.specs.Chaining.{◌>>=◌}
use Rattle.rpki_common.specs.Collecting.{collect, once, slot, both}
use Rattle.rpki_common.proofs.Collected.{bind_both, bind_under, bind_assoc, collect_required, collect_optional, collect_the_one, collect_slot}
use Rattle.rpki_der.specs.declared.mode.Mode.{Mode}
use Rattle.rpki_der.specs.Tags.{sequence}
use Rattle.rpki_der.specs.Value.{Value, Values}
use Rattle.rpki_der.specs.Grammar.{first, every, gather, anything}
use Rattle.rpki_der.specs.Number.{u64}
use Rattle.rpki_der.specs.Oid.{oid, oid_is}
use Rattle.rpki_der.specs.OctetString.{octet_string}
use Rattle.rpki_der.specs.Entry.{entry, is, set_of}
use Rattle.rpki_der.proofs.Leftovers.{gather_every, gather_same, within_then}
use Rattle.rpki_base.specs.Time.{time}
use Rattle.rpki_sigmsg.specs.ObjectIdentifiers.{content_type, message_digest, signing_time, binary_signing_time, xml_content}
use Rattle.rpki_sigmsg.specs.Attributes.{AttributeFields, type_in, digest_in, time_in, binary_in, attributes}
use Rattle.rpki_sigmsg.specs.Gathered.{TimesFound, FoundSoFar, add_times, add, add_value, complete}
use Rattle.rpki_common.proofs.Truths.{same_octets}

-- ---- one attribute

pub add_signing_time : (f : TimesFound) (kind : List ℕ) (vs : Values) → bytes_eq kind signing_time ≡ true → (once f.0 (set_of time vs) >>= λ x. Some (x, f.1)) ≡ add_times f (kind, vs)
unfolding add_times both slot time_in ◌>>=◌
add_signing_time f kind vs e = rw (same_octets kind signing_time e) refl

pub add_binary_time : (f : TimesFound) (kind : List ℕ) (vs : Values) → bytes_eq kind binary_signing_time ≡ true → (once f.1 (set_of u64 vs) >>= λ x. Some (f.0, x)) ≡ add_times f (kind, vs)
unfolding add_times both slot binary_in ◌>>=◌
add_binary_time f kind vs e = rw (same_octets kind binary_signing_time e) refl

pub add_no_time : (f : TimesFound) (kind : List ℕ) (vs : Values) → bytes_eq kind signing_time ≡ false → bytes_eq kind binary_signing_time ≡ false → (anything vs >>= λ u. Some f) ≡ add_times f (kind, vs)
unfolding add_times both slot ◌>>=◌
add_no_time f kind vs a b = rw (a, b) refl

abbrev no_times_left : FoundSoFar → TimesFound → Option (Option (List ℕ) × TimesFound)
no_times_left f t = Some (f.1.0, t)

abbrev times_left : FoundSoFar → Option (List ℕ) × TimesFound → Option FoundSoFar
times_left f t = Some (f.0, t)

abbrev digest_found : FoundSoFar → Option (List ℕ) → Option FoundSoFar
digest_found f x = Some (f.0, (x, f.1.1))

abbrev digest_beside : FoundSoFar → Option (List ℕ) → Option (Option (List ℕ) × TimesFound)
digest_beside f x = Some (x, f.1.1)

abbrev times_found : FoundSoFar → TimesFound → Option FoundSoFar
times_found f t = Some (f.0, (f.1.0, t))

beside_digest : (f : FoundSoFar) (o : Option (Option (List ℕ))) → (o >>= digest_found f) ≡ ((o >>= digest_beside f) >>= times_left f)
unfolding ◌>>=◌
beside_digest f None = refl
beside_digest f (Some x) = refl

beside_times : (f : FoundSoFar) (o : Option TimesFound) → (o >>= times_found f) ≡ ((o >>= no_times_left f) >>= times_left f)
unfolding ◌>>=◌
beside_times f None = refl
beside_times f (Some x) = refl

pub add_content_type : (mode : Mode) (f : FoundSoFar) (kind : List ℕ) (vs : Values) → bytes_eq kind content_type ≡ true → (once f.0 (set_of (oid_is xml_content) vs) >>= λ x. Some (x, f.1)) ≡ add mode f (kind, vs)
unfolding add add_times both slot type_in ◌>>=◌
add_content_type mode f kind vs e = rw (same_octets kind content_type e) refl

pub add_digest : (mode : Mode) (f : FoundSoFar) (kind : List ℕ) (vs : Values) → bytes_eq kind message_digest ≡ true → (once f.1.0 (set_of (octet_string mode) vs) >>= digest_found f) ≡ add mode f (kind, vs)
unfolding add add_times both slot digest_in ◌>>=◌
add_digest mode f kind vs e = rw (same_octets kind message_digest e) (beside_digest f (once f.1.0 (set_of (octet_string mode) vs)))

pub add_times_found : (mode : Mode) (f : FoundSoFar) (kind : List ℕ) (vs : Values) → bytes_eq kind content_type ≡ false → bytes_eq kind message_digest ≡ false → (add_times f.1.1 (kind, vs) >>= times_found f) ≡ add mode f (kind, vs)
unfolding add both slot ◌>>=◌
add_times_found mode f kind vs a b = rw (a, b) (beside_times f (add_times f.1.1 (kind, vs)))

-- ---- all attributes

made : List ℕ → Option ℤ → Option ℕ → Option AttributeFields
made digest time binary = Some (record { digest = digest; signing_time = time })

added : (mode : Mode) (all : List (List ℕ × Values)) → (collect (add mode) (None, (None, (None, None))) all >>= complete) ≡ attributes mode all
unfolding add add_times complete attributes made
added mode all =
    collect_required (slot (is content_type) type_in) (both (slot (is message_digest) (digest_in mode)) (both (slot (is signing_time) time_in) (slot (is binary_signing_time) binary_in))) None (None, (None, None)) all (λ type rest. rest.0 >>= λ digest. made digest rest.1.0 rest.1.1)
    ∙ bind_both _ _ _ _ (collect_the_one (is content_type) type_in all)
    (λ type. collect_required (slot (is message_digest) (digest_in mode)) (both (slot (is signing_time) time_in) (slot (is binary_signing_time) binary_in)) None (None, None) all (λ digest times. made digest times.0 times.1)
    ∙ bind_both _ _ _ _ (collect_the_one (is message_digest) (digest_in mode) all)
    (λ digest. collect_optional (slot (is signing_time) time_in) (slot (is binary_signing_time) binary_in) None None all (made digest)
    ∙ bind_both _ _ _ _ (collect_slot (is signing_time) time_in all)
    (λ time. bind_both _ _ _ _ (collect_slot (is binary_signing_time) binary_in all) (λ binary. refl))))

entry_then : (mode : Mode) (f : FoundSoFar) (v : Value) → add_value mode f v ≡ (entry v >>= add mode f)
unfolding add_value entry
entry_then mode f v = within_then sequence (λ vs. first oid vs) (add mode f) v

pub all_added : (mode : Mode) (vs : Values) → (gather (add_value mode) (None, (None, (None, None))) vs >>= complete) ≡ (every entry vs >>= attributes mode)
all_added mode vs =
    ap (λ o. o >>= complete) (gather_same (add_value mode) (λ t v. entry v >>= add mode t) (None, (None, (None, None))) vs (entry_then mode) ∙ gather_every entry (add mode) (None, (None, (None, None))) vs)
    ∙ bind_assoc (every entry vs) (collect (add mode) (None, (None, (None, None)))) complete
    ∙ bind_under (every entry vs) _ _ (added mode)
