-- What an extension of a CRL adds to those found so far, and what all add up to.
use Rattle.std.proofs.Common.{◌≡◌, true, false, None, Some, List, refl, ◌∙◌}
use Rattle.std.specs.Prelude.{bytes_eq}
use Rattle.rpki_common.specs.Chaining.{◌>>=◌}
use Rattle.rpki_common.specs.Collecting.{collect, once, slot, both}
use Rattle.rpki_common.proofs.Collected.{bind_both, bind_under, collect_both, collect_slot}
use Rattle.rpki_der.specs.declared.mode.Mode.{Mode}
use Rattle.rpki_der.specs.declared.mode.Mode.TheVariants.{Der}
use Rattle.rpki_der.specs.Tags.{sequence, context}
use Rattle.rpki_der.specs.Value.{Value, Values}
use Rattle.rpki_der.specs.Grammar.{wrapped, every, gather, so}
use Rattle.rpki_der.specs.InDer.{in_der}
use Rattle.rpki_der.proofs.Leftovers.{gather_every, gather_same, within_same, wrapped_same}
use Rattle.rpki_base.specs.ObjectIdentifiers.{authority_key_identifier, crl_number}
use Rattle.rpki_base.specs.Serial.{serial}
use Rattle.rpki_base.specs.Extension.{ExtensionFields, extension, gathered, is}
use Rattle.rpki_sigmsg.specs.CrlExtensions.{issuer_key, authority_in, number_in, KnownExtensions, known_extensions, extension_list}
use Rattle.rpki_sigmsg.specs.CrlGathered.{add}
use Rattle.rpki_common.proofs.Truths.{same_octets}

-- ---- one extension

pub add_authority : (f : KnownExtensions) (e : ExtensionFields) → bytes_eq e.identifier authority_key_identifier ≡ true → (once f.0 (in_der (issuer_key Der) e.value) >>= λ x. Some (x, f.1)) ≡ add f e
unfolding add both slot authority_in ◌>>=◌
add_authority f e h = rw (same_octets e.identifier authority_key_identifier h) refl

pub add_number : (f : KnownExtensions) (e : ExtensionFields) → bytes_eq e.identifier crl_number ≡ true → (once f.1 (in_der serial e.value) >>= λ x. Some (f.0, x)) ≡ add f e
unfolding add both slot number_in ◌>>=◌
add_number f e h = rw (same_octets e.identifier crl_number h) refl

pub add_other : (f : KnownExtensions) (e : ExtensionFields) → bytes_eq e.identifier authority_key_identifier ≡ false → bytes_eq e.identifier crl_number ≡ false → add f e ≡ Some f
unfolding add both slot ◌>>=◌
add_other f e a b = rw (a, b) refl

-- ---- all extensions

added : (all : List ExtensionFields) → collect add (None, None) all ≡ known_extensions all
unfolding add known_extensions
added all =
    collect_both (slot (is authority_key_identifier) authority_in) (slot (is crl_number) number_in) None None all
    ∙ bind_both _ _ _ _ (collect_slot (is authority_key_identifier) authority_in all)
    (λ authority. bind_both _ _ _ _ (collect_slot (is crl_number) number_in all) (λ number. refl))

one_then : (mode : Mode) (f : KnownExtensions) (v : Value) → so (extension mode) (add f) v ≡ (extension mode v >>= add f)
unfolding so
one_then mode f v = refl

all_added : (mode : Mode) (vs : Values) → gather (λ f. so (extension mode) (add f)) (None, None) vs ≡ (every (extension mode) vs >>= known_extensions)
all_added mode vs =
    gather_same (λ f. so (extension mode) (add f)) (λ t v. extension mode v >>= add t) (None, None) vs (one_then mode)
    ∙ gather_every (extension mode) add (None, None) vs
    ∙ bind_under (every (extension mode) vs) _ _ added

list_is : (mode : Mode) (v : Value) → gathered add mode (None, None) v ≡ extension_list mode v
unfolding gathered extension_list
list_is mode v = within_same sequence (gather (λ f. so (extension mode) (add f)) (None, None)) (λ vs. every (extension mode) vs >>= known_extensions) v (all_added mode)

pub tagged_is : (mode : Mode) (v : Value) → wrapped (context 0) (gathered add mode (None, None)) v ≡ wrapped (context 0) (extension_list mode) v
tagged_is mode v = wrapped_same (context 0) (gathered add mode (None, None)) (extension_list mode) v (list_is mode)
