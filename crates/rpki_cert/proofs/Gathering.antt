-- What an extension or a description adds to what was found so far, and what all add up to.
use Rattle.std.proofs.Common.{◌≡◌, ℕ, true, false, Option, None, Some, List, [], ◌∷◌, refl, sym, ap, ◌∙◌}
use Rattle.std.specs.Prelude.{bytes_eq, Bool}
use Rattle.rpki_common.specs.Chaining.{◌>>=◌}
use Rattle.rpki_common.specs.Collecting.{collect, once, slot, allowed, both}
use Rattle.rpki_common.proofs.Collected.{bind_both, bind_under, bind_assoc, collect_optional, collect_slot, collect_only}
use Rattle.rpki_common.proofs.Truths.{same_octets}
use Rattle.rpki_der.specs.declared.mode.Mode.{Mode}
use Rattle.rpki_der.specs.declared.mode.Mode.TheVariants.{Der}
use Rattle.rpki_der.specs.Tags.{sequence, context}
use Rattle.rpki_der.specs.Value.{Value, Values}
use Rattle.rpki_der.specs.Grammar.{within, wrapped, every, gather, so}
use Rattle.rpki_der.specs.InDer.{in_der}
use Rattle.rpki_der.proofs.Leftovers.{gather_every, gather_same, within_then, within_same, wrapped_same}
use Rattle.rpki_base.specs.ObjectIdentifiers.{basic_constraints as basic_name}
use Rattle.rpki_base.specs.Extension.{ExtensionFields, extension, gathered, is}
use Rattle.rpki_text.specs.Uri.{rsync, https}
use Rattle.rpki_cert.specs.declared.key_usage.KeyUsage.{KeyUsage}
use Rattle.rpki_cert.specs.ObjectIdentifiers as names
use Rattle.rpki_cert.specs.KeyUsage.{key_usage}
use Rattle.rpki_cert.specs.ExtendedKeyUsage.{extended_key_usage}
use Rattle.rpki_cert.specs.Access.{AccessFields, Description, access_description, either, located, first_located, accessed, subject_info_access}
use Rattle.rpki_cert.specs.Extensions.{authority, authority_in, usage_in, purposes_in, access_in, is_known, RequestedExtensions, requested, extension_list}
use Rattle.rpki_cert.specs.Gathered.{with_description, FoundSoFar, add, complete}
use Rattle.rpki_cert.specs.Cert.{unread_extensions}

-- ---- one extension

beside_one : {X Y Z : Type 0} (o : Option X) (g : X → Y) (h : Y → Z) → (o >>= λ x. Some (h (g x))) ≡ ((o >>= λ x. Some (g x)) >>= λ y. Some (h y))
unfolding ◌>>=◌
beside_one None g h = refl
beside_one (Some x) g h = refl

beside_two : {W X Y Z : Type 0} (o : Option W) (f : W → X) (g : X → Y) (h : Y → Z) → (o >>= λ x. Some (h (g (f x)))) ≡ (((o >>= λ x. Some (f x)) >>= λ x. Some (g x)) >>= λ y. Some (h y))
unfolding ◌>>=◌
beside_two None f g h = refl
beside_two (Some x) f g h = refl

beside_three : {V W X Y Z : Type 0} (o : Option V) (e : V → W) (f : W → X) (g : X → Y) (h : Y → Z) → (o >>= λ x. Some (h (g (f (e x))))) ≡ ((((o >>= λ x. Some (e x)) >>= λ x. Some (f x)) >>= λ x. Some (g x)) >>= λ y. Some (h y))
unfolding ◌>>=◌
beside_three None e f g h = refl
beside_three (Some x) e f g h = refl

abbrev Access : Type 0
Access = Option AccessFields

abbrev Purposes : Type 0
Purposes = Option (List (List ℕ))

abbrev Fourth : Type 0
Fourth = Purposes × Access

abbrev Third : Type 0
Third = Option KeyUsage × Fourth

abbrev Second : Type 0
Second = Option Bool × Third

abbrev all_of : Second → FoundSoFar
all_of x = (tt, x)

pub add_authority : (f : FoundSoFar) (e : ExtensionFields) → bytes_eq e.identifier basic_name ≡ true
    → (once f.1.0 (in_der (authority Der) e.value) >>= λ x. Some (tt, (x, f.1.1))) ≡ add f e
unfolding add both slot allowed authority_in ◌>>=◌
add_authority f e h = rw (same_octets e.identifier basic_name h) (beside_one (once f.1.0 (in_der (authority Der) e.value)) (λ x. (x, f.1.1)) all_of)

pub add_usage : (f : FoundSoFar) (e : ExtensionFields) → bytes_eq e.identifier names.key_usage ≡ true
    → (once f.1.1.0 (in_der key_usage e.value) >>= λ x. Some (tt, (f.1.0, (x, f.1.1.1)))) ≡ add f e
unfolding add both slot allowed usage_in ◌>>=◌
add_usage f e h = rw (same_octets e.identifier names.key_usage h) (beside_two (once f.1.1.0 (in_der key_usage e.value)) (λ x. (x, f.1.1.1)) (λ x. (f.1.0, x)) all_of)

pub add_purposes : (f : FoundSoFar) (e : ExtensionFields) → bytes_eq e.identifier names.extended_key_usage ≡ true
    → (once f.1.1.1.0 (in_der extended_key_usage e.value) >>= λ x. Some (tt, (f.1.0, (f.1.1.0, (x, f.1.1.1.1))))) ≡ add f e
unfolding add both slot allowed purposes_in ◌>>=◌
add_purposes f e h = rw (same_octets e.identifier names.extended_key_usage h)
    (beside_three (once f.1.1.1.0 (in_der extended_key_usage e.value)) (λ x. (x, f.1.1.1.1)) (λ x. (f.1.1.0, x)) (λ x. (f.1.0, x)) all_of)

pub add_access : (f : FoundSoFar) (e : ExtensionFields) → bytes_eq e.identifier names.subject_info_access ≡ true
    → (once f.1.1.1.1 (in_der subject_info_access e.value) >>= λ x. Some (tt, (f.1.0, (f.1.1.0, (f.1.1.1.0, x))))) ≡ add f e
unfolding add both slot allowed access_in ◌>>=◌
add_access f e h = rw (same_octets e.identifier names.subject_info_access h)
    (beside_three (once f.1.1.1.1 (in_der subject_info_access e.value)) (λ x. (f.1.1.1.0, x)) (λ x. (f.1.1.0, x)) (λ x. (f.1.0, x)) all_of)

pub add_other : (f : FoundSoFar) (e : ExtensionFields) → bytes_eq e.identifier basic_name ≡ false → bytes_eq e.identifier names.key_usage ≡ false
    → bytes_eq e.identifier names.extended_key_usage ≡ false → bytes_eq e.identifier names.subject_info_access ≡ false → add f e ≡ None
unfolding add both allowed ◌>>=◌
add_other f e a b c d = rw (a, b, c, d) refl

-- ---- all extensions

made : Unit {0} → Option Bool → Option KeyUsage → Purposes → Access → Option RequestedExtensions
made others ca usage purposes access = Some (record { basic_ca = ca; key_usage = usage; extended_key_usage = purposes; access = access })

abbrev none_found : FoundSoFar
none_found = (tt, (None, (None, (None, None))))

abbrev completed : FoundSoFar → Option RequestedExtensions
completed f = Some (complete f)

added : (all : List ExtensionFields) → (collect add none_found all >>= completed) ≡ requested all
unfolding add requested made
added all =
    let fourth = both (slot (is names.extended_key_usage) purposes_in) (slot (is names.subject_info_access) access_in) in
    let third = both (slot (is names.key_usage) usage_in) fourth in
    let second = both (slot (is basic_name) authority_in) third in
    collect_optional (allowed is_known) second tt (None, (None, (None, None))) all (λ others rest. made others rest.0 rest.1.0 rest.1.1.0 rest.1.1.1)
    ∙ bind_both _ _ _ _ (collect_only is_known all)
    (λ others. collect_optional (slot (is basic_name) authority_in) third None (None, (None, None)) all (λ ca rest. made others ca rest.0 rest.1.0 rest.1.1)
    ∙ bind_both _ _ _ _ (collect_slot (is basic_name) authority_in all)
    (λ ca. collect_optional (slot (is names.key_usage) usage_in) fourth None (None, None) all (λ usage rest. made others ca usage rest.0 rest.1)
    ∙ bind_both _ _ _ _ (collect_slot (is names.key_usage) usage_in all)
    (λ usage. collect_optional (slot (is names.extended_key_usage) purposes_in) (slot (is names.subject_info_access) access_in) None None all (made others ca usage)
    ∙ bind_both _ _ _ _ (collect_slot (is names.extended_key_usage) purposes_in all)
    (λ purposes. bind_both _ _ _ _ (collect_slot (is names.subject_info_access) access_in all) (λ access. refl)))))

one_then : {F : Type 0} (step : F → ExtensionFields → Option F) (mode : Mode) (f : F) (v : Value) → so (extension mode) (step f) v ≡ (extension mode v >>= step f)
unfolding so
one_then step mode f v = refl

all_collected : {F : Type 0} (step : F → ExtensionFields → Option F) (mode : Mode) (f : F) (vs : Values) → gather (λ s. so (extension mode) (step s)) f vs ≡ (every (extension mode) vs >>= collect step f)
all_collected step mode f vs =
    gather_same (λ s. so (extension mode) (step s)) (λ t v. extension mode v >>= step t) f vs (one_then step mode)
    ∙ gather_every (extension mode) step f vs

all_added : (mode : Mode) (vs : Values) → (gather (λ f. so (extension mode) (add f)) none_found vs >>= completed) ≡ (every (extension mode) vs >>= requested)
all_added mode vs =
    ap (λ o. o >>= completed) (all_collected add mode none_found vs)
    ∙ bind_assoc (every (extension mode) vs) (collect add none_found) completed
    ∙ bind_under (every (extension mode) vs) _ _ added

pub list_is : (mode : Mode) (v : Value) → so (gathered add mode none_found) completed v ≡ extension_list mode v
unfolding gathered extension_list so
list_is mode v =
    sym (within_then sequence (gather (λ f. so (extension mode) (add f)) none_found) completed v)
    ∙ within_same sequence (λ vs. gather (λ f. so (extension mode) (add f)) none_found vs >>= completed) (λ vs. every (extension mode) vs >>= requested) v (all_added mode)

-- ---- extensions that are unread

abbrev pass : Unit {0} → ExtensionFields → Option (Unit {0})
pass found e = Some tt

abbrev unread : List ExtensionFields → Option (Unit {0})
unread all = Some tt

passed : (all : List ExtensionFields) → collect pass tt all ≡ unread all
unfolding collect ◌>>=◌
passed [] = refl
passed (e ∷ more) = passed more

all_passed : (mode : Mode) (vs : Values) → gather (λ s. so (extension mode) (pass s)) tt vs ≡ (every (extension mode) vs >>= unread)
all_passed mode vs = all_collected pass mode tt vs ∙ bind_under (every (extension mode) vs) (collect pass tt) unread passed

unread_is : (mode : Mode) (v : Value) → gathered pass mode tt v ≡ unread_extensions mode v
unfolding gathered unread_extensions
unread_is mode v = within_same sequence (gather (λ s. so (extension mode) (pass s)) tt) (λ vs. every (extension mode) vs >>= unread) v (all_passed mode)

pub tagged_is : (mode : Mode) (v : Value) → wrapped (context 3) (gathered pass mode tt) v ≡ wrapped (context 3) (unread_extensions mode) v
tagged_is mode v = wrapped_same (context 3) (gathered pass mode tt) (unread_extensions mode) v (unread_is mode)

-- ---- descriptions

either_none : {X : Type 0} (o : Option X) → either o None ≡ o
unfolding either
either_none None = refl
either_none (Some x) = refl

either_in_turn : {X : Type 0} (a b c : Option X) → either (either a b) c ≡ either a (either b c)
unfolding either
either_in_turn None b c = refl
either_in_turn (Some x) b c = refl

abbrev with_all : AccessFields → List Description → AccessFields
with_all f all = record {
  ca_repository = either f.ca_repository (first_located names.ca_repository rsync all);
  rpki_manifest = either f.rpki_manifest (first_located names.rpki_manifest rsync all);
  rpki_notify = either f.rpki_notify (first_located names.rpki_notify https all);
}

made_access : Option (List ℕ) → Option (List ℕ) → Option (List ℕ) → AccessFields
made_access a b c = record { ca_repository = a; rpki_manifest = b; rpki_notify = c }

same_access : (a b c d e f : Option (List ℕ)) → a ≡ d → b ≡ e → c ≡ f → ◌≡◌ {A = AccessFields} (record { ca_repository = a; rpki_manifest = b; rpki_notify = c }) (record { ca_repository = d; rpki_manifest = e; rpki_notify = f })
same_access a b c d e f p q r = rw (p, q, r) refl

described : (f : AccessFields) (all : List Description) → collect with_description f all ≡ Some (with_all f all)
unfolding collect with_description first_located ◌>>=◌
described f [] = ap Some (sym (same_access _ _ _ _ _ _ (either_none f.ca_repository) (either_none f.rpki_manifest) (either_none f.rpki_notify)))
described f (d ∷ more) =
    described (record {
      ca_repository = either f.ca_repository (located names.ca_repository rsync d);
      rpki_manifest = either f.rpki_manifest (located names.rpki_manifest rsync d);
      rpki_notify = either f.rpki_notify (located names.rpki_notify https d);
    }) more
    ∙ ap Some (same_access _ _ _ _ _ _ (either_in_turn _ _ _) (either_in_turn _ _ _) (either_in_turn _ _ _))

abbrev pub no_access : AccessFields
no_access = record { ca_repository = None; rpki_manifest = None; rpki_notify = None }

described_anew : (all : List Description) → collect with_description no_access all ≡ Some (accessed all)
unfolding either
described_anew all = described no_access all

description_then : (f : AccessFields) (v : Value) → so access_description (with_description f) v ≡ (access_description v >>= with_description f)
unfolding so
description_then f v = refl

all_described : (vs : Values) → gather (λ f. so access_description (with_description f)) no_access vs ≡ (every access_description vs >>= λ all. Some (accessed all))
all_described vs =
    gather_same (λ f. so access_description (with_description f)) (λ t v. access_description v >>= with_description t) no_access vs description_then
    ∙ gather_every access_description with_description no_access vs
    ∙ bind_under (every access_description vs) _ _ described_anew

pub access_is : (v : Value) → within sequence (gather (λ f. so access_description (with_description f)) no_access) v ≡ subject_info_access v
unfolding subject_info_access
access_is v = within_same sequence _ _ v all_described
