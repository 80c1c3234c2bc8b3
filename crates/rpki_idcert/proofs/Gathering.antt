-- What an extension adds to those found so far, and what all add up to.
use Rattle.std.proofs.Common.{◌≡◌, ℕ, true, false, Option, None, Some, List, refl, sym, ap, ◌∙◌}
use Rattle.std.specs.Prelude.{bytes_eq, Bool}
use Rattle.rpki_common.specs.Chaining.{◌>>=◌}
use Rattle.rpki_common.specs.Collecting.{collect, once, slot, last_slot, both}
use Rattle.rpki_common.proofs.Collected.{bind_both, bind_under, bind_assoc, collect_required, collect_optional, collect_the_one, collect_slot, collect_last}
use Rattle.rpki_der.specs.declared.mode.Mode.{Mode}
use Rattle.rpki_der.specs.declared.mode.Mode.TheVariants.{Der}
use Rattle.rpki_der.specs.Tags.{sequence, context}
use Rattle.rpki_der.specs.Value.{Value, Values}
use Rattle.rpki_der.specs.Grammar.{wrapped, every, gather, so}
use Rattle.rpki_der.specs.InDer.{in_der}
use Rattle.rpki_der.proofs.Leftovers.{gather_every, gather_same, within_then, within_same, wrapped_so, wrapped_same}
use Rattle.rpki_base.specs.KeyIdentifier.{key_identifier}
use Rattle.rpki_base.specs.ObjectIdentifiers.{subject_key_identifier, basic_constraints as basic_name, authority_key_identifier}
use Rattle.rpki_base.specs.Extension.{ExtensionFields, extension, gathered, is}
use Rattle.rpki_idcert.specs.Extensions.{KnownExtensions, basic_constraints, authority_key, ca_in, subject_in, authority_in, known_extensions, extension_list}
use Rattle.rpki_idcert.specs.Gathered.{FoundSoFar, add, complete}
use Rattle.rpki_common.proofs.Truths.{same_octets}

-- ---- one extension

pub add_subject : (f : FoundSoFar) (e : ExtensionFields) → bytes_eq e.identifier subject_key_identifier ≡ true → (once f.0 (in_der (key_identifier Der) e.value) >>= λ x. Some (x, f.1)) ≡ add f e
unfolding add both slot last_slot subject_in ◌>>=◌
add_subject f e h = rw (same_octets e.identifier subject_key_identifier h) refl

abbrev ca_found : FoundSoFar → Option Bool → Option FoundSoFar
ca_found f x = Some (f.0, (x, f.1.1))

abbrev authority_found : FoundSoFar → Option (List ℕ) → Option FoundSoFar
authority_found f x = Some (f.0, (f.1.0, x))

abbrev Others : Type 0
Others = Option Bool × Option (List ℕ)

abbrev with_subject : FoundSoFar → Others → Option FoundSoFar
with_subject f y = Some (f.0, y)

abbrev ca_beside : FoundSoFar → Option Bool → Option Others
ca_beside f x = Some (x, f.1.1)

abbrev authority_beside : FoundSoFar → Option (List ℕ) → Option Others
authority_beside f x = Some (f.1.0, x)

beside_ca : (f : FoundSoFar) (o : Option (Option Bool)) → (o >>= ca_found f) ≡ ((o >>= ca_beside f) >>= with_subject f)
unfolding ◌>>=◌
beside_ca f None = refl
beside_ca f (Some x) = refl

beside_authority : (f : FoundSoFar) (o : Option (Option (List ℕ))) → (o >>= authority_found f) ≡ ((o >>= authority_beside f) >>= with_subject f)
unfolding ◌>>=◌
beside_authority f None = refl
beside_authority f (Some x) = refl

pub add_ca : (f : FoundSoFar) (e : ExtensionFields) → bytes_eq e.identifier basic_name ≡ true → (once f.1.0 (in_der (basic_constraints Der) e.value) >>= ca_found f) ≡ add f e
unfolding add both slot last_slot ca_in ◌>>=◌
add_ca f e h = rw (same_octets e.identifier basic_name h) (beside_ca f (once f.1.0 (in_der (basic_constraints Der) e.value)))

pub add_authority : (f : FoundSoFar) (e : ExtensionFields) → bytes_eq e.identifier authority_key_identifier ≡ true → (in_der authority_key e.value >>= authority_found f) ≡ add f e
unfolding add both slot last_slot authority_in ◌>>=◌
add_authority f e h = rw (same_octets e.identifier authority_key_identifier h) (beside_authority f (in_der authority_key e.value))

pub add_other : (f : FoundSoFar) (e : ExtensionFields) → bytes_eq e.identifier subject_key_identifier ≡ false → bytes_eq e.identifier basic_name ≡ false → bytes_eq e.identifier authority_key_identifier ≡ false → add f e ≡ Some f
unfolding add both slot last_slot ◌>>=◌
add_other f e a b c = rw (a, b, c) refl

-- ---- all extensions

made : List ℕ → Option Bool → Option (List ℕ) → Option KnownExtensions
made subject ca authority = Some (record { subject = subject; basic_ca = ca; authority = authority })

added : (all : List ExtensionFields) → (collect add (None, (None, None)) all >>= complete) ≡ known_extensions all
unfolding add complete known_extensions made
added all =
    collect_required (slot (is subject_key_identifier) subject_in) (both (slot (is basic_name) ca_in) (last_slot (is authority_key_identifier) authority_in)) None (None, None) all (λ subject rest. made subject rest.0 rest.1)
    ∙ bind_both _ _ _ _ (collect_the_one (is subject_key_identifier) subject_in all)
    (λ subject. collect_optional (slot (is basic_name) ca_in) (last_slot (is authority_key_identifier) authority_in) None None all (made subject)
    ∙ bind_both _ _ _ _ (collect_slot (is basic_name) ca_in all)
    (λ ca. bind_both _ _ _ _ (collect_last (is authority_key_identifier) authority_in None all) (λ authority. refl)))

abbrev none_found : FoundSoFar
none_found = (None, (None, None))

one_then : (mode : Mode) (f : FoundSoFar) (v : Value) → so (extension mode) (add f) v ≡ (extension mode v >>= add f)
unfolding so
one_then mode f v = refl

all_added : (mode : Mode) (vs : Values) → (gather (λ f. so (extension mode) (add f)) none_found vs >>= complete) ≡ (every (extension mode) vs >>= known_extensions)
all_added mode vs =
    ap (λ o. o >>= complete) (gather_same (λ f. so (extension mode) (add f)) (λ t v. extension mode v >>= add t) none_found vs (one_then mode) ∙ gather_every (extension mode) add none_found vs)
    ∙ bind_assoc (every (extension mode) vs) (collect add none_found) complete
    ∙ bind_under (every (extension mode) vs) _ _ added

list_is : (mode : Mode) (v : Value) → so (gathered add mode none_found) complete v ≡ extension_list mode v
unfolding gathered extension_list so
list_is mode v =
    sym (within_then sequence (gather (λ f. so (extension mode) (add f)) none_found) complete v)
    ∙ within_same sequence (λ vs. gather (λ f. so (extension mode) (add f)) none_found vs >>= complete) (λ vs. every (extension mode) vs >>= known_extensions) v (all_added mode)

pub tagged_is : (mode : Mode) (v : Value) → so (wrapped (context 3) (gathered add mode (None, (None, None)))) complete v ≡ wrapped (context 3) (extension_list mode) v
tagged_is mode v =
    wrapped_so (context 3) (gathered add mode none_found) complete v
    ∙ wrapped_same (context 3) (so (gathered add mode none_found) complete) (extension_list mode) v (list_is mode)
