-- How long the parts of a message are spelled: a bound for each part of a shape, which counts what is written of it. No octet of a
-- printed set is escaped.
use Rattle.std.proofs.Common.{◌≡◌, ℕ, ◌+◌, ◌*◌, ◌≤◌, Bool, true, false, cond, List, [], ◌∷◌, ◌++◌, length, sum_by, Option, Some, None, filter, refl, sym, ap, subst, arith, length-append, IfSome}
use Rattle.std.specs.Prelude.{codes, nat_eq, ◌&&◌}
use Rattle.std.specs.Fmt.{decimal}
use Rattle.std.specs.List.{flat_map, list_all}
use Rattle.std.specs.Option.{option_map}
use Rattle.std.specs.Str.{bytes_eq}
use Rattle.std.proofs.lemmas.Bool.Decides.{nat_tests}
use Rattle.std.proofs.lemmas.List.{append-nil}
use Rattle.std.proofs.lemmas.List.Sums.{sum_by-cons}
use Rattle.base64.specs.Engines.{standard, url_safe_no_pad}
use Rattle.base64.specs.GeneralPurpose.{encode_of}
use Rattle.rpki_base.specs.Civil.{civil_at}
use Rattle.rpki_base.specs.TimeText.{rfc3339_text}
use Rattle.rpki_common.proofs.Truths.{same_some, same_octets, both}
use Rattle.rpki_xmltext.specs.Parts.{required_by}
use Rattle.rpki_xmltext.specs.UriText.{uri_of_text}
use Rattle.rpki_xmltext.proofs.Attributes.{then_some}
use Rattle.rpki_xmltext.proofs.Bounds.{AtMost, attribute_size, leaf_size, one_value, the_value, uri_same}
use Rattle.rpki_xmltext.proofs.Sizes.{values}
use Rattle.rpki_sets.specs.declared.run.Run.{Run}
use Rattle.rpki_sets.specs.AsNumbers.{as_blocks, as_text}
use Rattle.rpki_sets.specs.Ipv4Addresses.{ipv4_blocks, ipv4_blocks_text}
use Rattle.rpki_sets.specs.Ipv6Addresses.{ipv6_blocks, ipv6_blocks_text}
use Rattle.rpki_sets.specs.Kinds.{is_set_octet, printed}
use Rattle.rpki_sets.specs.Resources.{Resources}
use Rattle.rpki_sets.proofs.Lengths.{as_set_short, ipv4_set_short, ipv6_set_short}
use Rattle.rpki_sets.proofs.Printed.{as_set_read, ipv4_set_read, ipv6_set_read, as_set_octets, ipv4_set_octets, ipv6_set_octets}
use Rattle.rpki_text.specs.Uri.{rsync}
use Rattle.rpki_updown.specs.Entitlements.{IssuedOf, ClassOf, AskedOf}
use Rattle.rpki_updown.specs.KeyElement.{KeyElementFields}
use Rattle.rpki_updown.specs.NotPerformedResponse.{NotPerformedFields}
use Rattle.rpki_updown.specs.PayloadType.{payload_type_text}
use Rattle.rpki_updown.specs.RequestResourceLimit.{LimitFields}
use Rattle.rpki_updown.specs.declared.payload_type.PayloadType.{PayloadType}
use Rattle.rpki_updown.specs.declared.payload_type.PayloadType.TheVariants as kind
use Rattle.rpki_xml.specs.Draft.{optional_attribute}
use Rattle.rpki_xml.specs.Element.{Attribute, Head, Elements, none, first, alone, joined_elements, elements_of, is_none, is_nil}
use Rattle.rpki_xml.specs.Name.{local_name}
use Rattle.rpki_xml.specs.Spelling.{value_character, spelled, spelled_all, spelled_attribute, spelled_attributes, spelled_namespace, spelled_start, spelled_inside, spelled_value, spelled_text, spelled_end}
use Rattle.rpki_xml.specs.Tables.{is_called, required, optional, optional_by, where_there}
use Rattle.rpki_provisioning.specs.declared.shape.PayloadShape.{PayloadShape}
use Rattle.rpki_provisioning.specs.declared.shape.PayloadShape.TheVariants as shape
use Rattle.rpki_provisioning.specs.Class.{certificate_element, issuer_element, class_children, class_element, class_of_issuance}
use Rattle.rpki_provisioning.specs.Limit.{limit_attributes, limit_in, set_or_empty, set_in, resources_in}
use Rattle.rpki_provisioning.specs.Message.{NAMESPACE, payload_elements, root_element}
use Rattle.rpki_provisioning.specs.NotPerformed.{description_elements, not_performed_elements}
use Rattle.rpki_provisioning.specs.Request.{request_element, key_element}

-- ---- attributes with distinct names are together no longer than all

abbrev pub called : List ℕ → Head → ℕ
called local h = values (filter (is_called local) h.attributes)

abbrev is_among : List ℕ → List (List ℕ) → Bool
is_among name [] = false
is_among name (l ∷ more) = cond (bytes_eq name l) true (is_among name more)

abbrev AreDistinct : List (List ℕ) → Type 0
AreDistinct [] = Unit {0}
AreDistinct (l ∷ more) = (is_among l more ≡ false) × AreDistinct more

abbrev hits : List (List ℕ) → List ℕ → ℕ → ℕ
hits [] name n = 0
hits (l ∷ more) name n = cond (bytes_eq name l) n 0 + hits more name n

abbrev sum_called : List (List ℕ) → List Attribute → ℕ
sum_called [] list = 0
sum_called (l ∷ more) list = values (filter (is_called l) list) + sum_called more list

no_hits : (locals : List (List ℕ)) (name : List ℕ) (n : ℕ) → is_among name locals ≡ false → hits locals name n ≡ 0
no_hits [] name n h = refl
no_hits (l ∷ more) name n h = go (bytes_eq name l) h (no_hits more name n)
  where
    go : (b : Bool) → cond b true (is_among name more) ≡ false → (is_among name more ≡ false → hits more name n ≡ 0) → cond b n 0 + hits more name n ≡ 0
    go true h k = absurd cc
    go false h k = let none' = k h in omega (arith, none')

hits_once : (locals : List (List ℕ)) (name : List ℕ) (n : ℕ) → AreDistinct locals → hits locals name n ≤ n
hits_once [] name n d = omega arith
hits_once (l ∷ more) name n d = go (bytes_eq name l) refl (hits_once more name n d.1)
  where
    go : (b : Bool) → bytes_eq name l ≡ b → hits more name n ≤ n → cond b n 0 + hits more name n ≤ n
    go true e h =
        let k = no_hits more name n (subst (λ (x : List ℕ). is_among x more ≡ false) (sym (same_octets name l e)) d.0) in
        omega (arith, k)
    go false e h = omega (arith, h)

one_attribute : (locals : List (List ℕ)) (a : Attribute) (list : List Attribute) → sum_called locals (a ∷ list) ≡ hits locals (local_name a.name) (length a.value) + sum_called locals list
one_attribute [] a list = omega arith
one_attribute (l ∷ more) a list = go (is_called l a) (one_attribute more a list)
  where
    go : (b : Bool) → sum_called more (a ∷ list) ≡ hits more (local_name a.name) (length a.value) + sum_called more list
        → values (cond b (a ∷ filter (is_called l) list) (filter (is_called l) list)) + sum_called more (a ∷ list)
        ≡ (cond b (length a.value) 0 + hits more (local_name a.name) (length a.value)) + (values (filter (is_called l) list) + sum_called more list)
    go true k = omega (arith, k)
    go false k = omega (arith, k)

no_attributes : (locals : List (List ℕ)) → sum_called locals [] ≡ 0
no_attributes [] = refl
no_attributes (l ∷ more) = let k = no_attributes more in omega (arith, k)

pub distinct_sum : (locals : List (List ℕ)) → AreDistinct locals → (list : List Attribute) → sum_called locals list ≤ values list
distinct_sum locals d [] = let k = no_attributes locals in omega (arith, k)
distinct_sum locals d (a ∷ list) =
    let one = one_attribute locals a list in
    let once = hits_once locals (local_name a.name) (length a.value) d in
    let more = distinct_sum locals d list in
    omega (arith, one, once, more)

pub called_size : (local : List ℕ) (h : Head) (v : List ℕ) → required local h ≡ Some v → length v ≤ called local h
unfolding required
called_size local h v e = the_value (filter (is_called local) h.attributes) (called local h) v (omega arith) e

pub called_uri : (local : List ℕ) (h : Head) (u : List ℕ) → required_by (uri_of_text rsync) local h ≡ Some u → length u ≤ called local h
unfolding required_by
called_uri local h u e =
    let p = then_some (required local h) (uri_of_text rsync) u e in
    subst (λ (l : List ℕ). length l ≤ called local h) (uri_same rsync p.0 u p.2) (called_size local h p.0 p.1)

-- ---- spellings

attribute_exact : (name value : List ℕ) → length (spelled_attribute name value) ≡ length name + length (spelled_value value) + 4
attribute_exact name value =
    let e = length-append name (61 ∷ 34 ∷ (spelled_value value ++ 34 ∷ [])) in
    let g = length-append (spelled_value value) (34 ∷ []) in
    omega (arith, e, g)

attributes_append : (a b : List Attribute) → length (spelled_attributes (a ++ b)) ≡ length (spelled_attributes a) + length (spelled_attributes b)
attributes_append [] b = omega arith
attributes_append (x ∷ a) b =
    let one = spelled_attribute x.name x.value in
    let k = attributes_append a b in
    let e = length-append one (spelled_attributes (a ++ b)) in
    let g = length-append one (spelled_attributes a) in
    omega (arith, k, e, g)

inside_most : (b : Bool) (name inside : List ℕ) → length (spelled_inside b name inside) ≤ length inside + length name + 4
inside_most true name inside = omega arith
inside_most false name inside =
    let e = length-append inside (spelled_end name) in
    let g = length-append name (62 ∷ []) in
    omega (arith, e, g)

all_first : (x : Head) (children rest : Elements) → length (spelled_all (first x children rest)) ≡ length (spelled (record { head = x; children = children })) + length (spelled_all rest)
all_first x children rest =
    let one = spelled_start x ++ spelled_inside (is_nil x.text && is_none children) x.name (spelled_text x.text ++ spelled_all children) in
    let e = length-append one (spelled_all rest) in
    let g = length-append one [] in
    omega (arith, e, g)

all_joined : (a b : Elements) → length (spelled_all (joined_elements a b)) ≡ length (spelled_all a) + length (spelled_all b)
all_joined none b = omega arith
all_joined (first x children rest) b =
    let k = all_joined rest b in
    let e = all_first x children rest in
    let g = all_first x children (joined_elements rest b) in
    omega (arith, k, e, g)

-- an element without a text
parent_size : (name : List ℕ) (namespace : Option (List ℕ)) (attributes : List Attribute) (children : Elements)
    → length (spelled (record { head = record { name = name; namespace = namespace; attributes = attributes; text = [] }; children = children }))
    ≤ 2 * length name + length (spelled_namespace namespace) + length (spelled_attributes attributes) + length (spelled_all children) + 5
unfolding spelled_text
parent_size name namespace attributes children =
    let start = 60 ∷ (name ++ (spelled_namespace namespace ++ spelled_attributes attributes)) in
    let inside = spelled_inside (is_none children) name (spelled_all children) in
    let a = length-append (start ++ inside) [] in
    let b = length-append start inside in
    let c = length-append name (spelled_namespace namespace ++ spelled_attributes attributes) in
    let d = length-append (spelled_namespace namespace) (spelled_attributes attributes) in
    let i = inside_most (is_none children) name (spelled_all children) in
    omega (arith, a, b, c, d, i)

-- ---- sets

marks : (c : ℕ) → is_set_octet c ≡ true → (nat_eq c 34 ≡ false) × (nat_eq c 39 ≡ false) × (nat_eq c 38 ≡ false) × (nat_eq c 60 ≡ false) × (nat_eq c 62 ≡ false)
marks c h = (grind (arith, nat_tests), grind (arith, nat_tests), grind (arith, nat_tests), grind (arith, nat_tests), grind (arith, nat_tests))

set_character : (c : ℕ) → is_set_octet c ≡ true → value_character c ≡ c ∷ []
set_character c h = let m = marks c h in rw (m.0, m.1, m.2, m.3, m.4) refl

set_characters : (text : List ℕ) → list_all is_set_octet text ≡ true → length (flat_map value_character text) ≡ length text
set_characters [] h = refl
set_characters (c ∷ text) h =
    let p = both (is_set_octet c) (list_all is_set_octet text) h in
    let one = ap (λ (l : List ℕ). length l) (set_character c p.0) in
    let more = set_characters text p.1 in
    let e = length-append (value_character c) (flat_map value_character text) in
    omega (arith, one, more, e)

set_spelled : (text : List ℕ) → list_all is_set_octet text ≡ true → length (spelled_value text) ≡ length text
unfolding spelled_value
set_spelled text h = set_characters text h

abbrev IsPrinted : (List Run → List ℕ) → ℕ → List Run → Type 0
IsPrinted text n runs = length (spelled_value (text runs)) ≤ 40 * n

abbrev Prints : (List ℕ → Option (List Run)) → (List Run → List ℕ) → Type 0
Prints rule text = (t : List ℕ) (runs : List Run) → rule t ≡ Some runs → IsPrinted text (length t) runs

as_printed : Prints as_blocks as_text
as_printed t runs e =
    let s = set_spelled (as_text runs) (as_set_octets runs (as_set_read t runs e)) in
    let k = as_set_short t runs e in
    omega (arith, s, k)

ipv4_printed : Prints ipv4_blocks ipv4_blocks_text
ipv4_printed t runs e =
    let s = set_spelled (ipv4_blocks_text runs) (ipv4_set_octets runs (ipv4_set_read t runs e)) in
    let k = ipv4_set_short t runs e in
    omega (arith, s, k)

ipv6_printed : Prints ipv6_blocks ipv6_blocks_text
ipv6_printed t runs e =
    let s = set_spelled (ipv6_blocks_text runs) (ipv6_set_octets runs (ipv6_set_read t runs e)) in
    let k = ipv6_set_short t runs e in
    omega (arith, s, k)

wider : (a n m : ℕ) → a ≤ 40 * n → n ≤ m → a ≤ 40 * m
wider a n m h k = omega (arith, h, k)

there_printed : (rule : List ℕ → Option (List Run)) (text : List Run → List ℕ) → Prints rule text → (n : ℕ) (found : Option (List ℕ)) (o : Option (List Run)) → AtMost n found → where_there rule found ≡ Some o
    → IfSome o (IsPrinted text n)
there_printed rule text each n None o h e = subst (λ (x : Option (List Run)). IfSome x (IsPrinted text n)) (same_some None o e) tt
there_printed rule text each n (Some t) o h e =
    let p = then_some (rule t) (λ y. Some (Some y)) o e in
    subst (λ (x : Option (List Run)). IfSome x (IsPrinted text n)) (same_some (Some p.0) o p.2) (wider (length (spelled_value (text p.0))) (length t) n (each t p.0 p.1) h)

optional_printed : (rule : List ℕ → Option (List Run)) (text : List Run → List ℕ) → Prints rule text → (local : List ℕ) (h : Head) (o : Option (List Run)) → optional_by rule local h ≡ Some o
    → IfSome o (IsPrinted text (called local h))
unfolding optional_by optional
optional_printed rule text each local h o e =
    let p = then_some (optional local h) (where_there rule) o e in
    there_printed rule text each (called local h) p.0 o (one_value (filter (is_called local) h.attributes) (called local h) p.0 (omega arith) p.1) p.2

stated_size : (name : List ℕ) (text : List Run → List ℕ) (o : Option (List Run)) (n : ℕ) → IfSome o (IsPrinted text n) → length (spelled_attributes (optional_attribute name (option_map text o))) ≤ length name + 40 * n + 4
stated_size name text None n h = omega arith
stated_size name text (Some runs) n h =
    let e = attribute_exact name (text runs) in
    let g = ap (λ (l : List ℕ). length l) (append-nil (spelled_attribute name (text runs))) in
    omega (arith, e, g, h)

abbrev pub limit_length : LimitFields → ℕ
limit_length l = length (spelled_attributes (limit_attributes l))

pub limit_size : (h : Head) (x : LimitFields) → limit_in h ≡ Some x
    → limit_length x ≤ 40 * (called (codes "req_resource_set_as") h + (called (codes "req_resource_set_ipv4") h + called (codes "req_resource_set_ipv6") h)) + 73
unfolding limit_in
limit_size h x is =
    let a = then_some (optional_by as_blocks (codes "req_resource_set_as") h) _ x is in
    let b = then_some (optional_by ipv4_blocks (codes "req_resource_set_ipv4") h) _ x a.2 in
    let c = then_some (optional_by ipv6_blocks (codes "req_resource_set_ipv6") h) _ x b.2 in
    let na = called (codes "req_resource_set_as") h in
    let nb = called (codes "req_resource_set_ipv4") h in
    let nc = called (codes "req_resource_set_ipv6") h in
    let la = optional_attribute (codes "req_resource_set_as") (option_map as_text a.0) in
    let lb = optional_attribute (codes "req_resource_set_ipv4") (option_map ipv4_blocks_text b.0) in
    let lc = optional_attribute (codes "req_resource_set_ipv6") (option_map ipv6_blocks_text c.0) in
    let sa = stated_size (codes "req_resource_set_as") as_text a.0 na (optional_printed as_blocks as_text as_printed (codes "req_resource_set_as") h a.0 a.1) in
    let sb = stated_size (codes "req_resource_set_ipv4") ipv4_blocks_text b.0 nb (optional_printed ipv4_blocks ipv4_blocks_text ipv4_printed (codes "req_resource_set_ipv4") h b.0 b.1) in
    let sc = stated_size (codes "req_resource_set_ipv6") ipv6_blocks_text c.0 nc (optional_printed ipv6_blocks ipv6_blocks_text ipv6_printed (codes "req_resource_set_ipv6") h c.0 c.1) in
    subst (λ (y : LimitFields). limit_length y ≤ 40 * (na + (nb + nc)) + 73) (same_some (record { asn = a.0; ipv4 = b.0; ipv6 = c.0 }) x c.2)
    (three (length (spelled_attributes (la ++ (lb ++ lc)))) (length (spelled_attributes (lb ++ lc))) (length (spelled_attributes la)) (length (spelled_attributes lb)) (length (spelled_attributes lc)) na nb nc
    (attributes_append la (lb ++ lc)) (attributes_append lb lc) sa sb sc)
  where
    three : (all more a b c x y z : ℕ) → all ≡ a + more → more ≡ b + c → a ≤ 19 + 40 * x + 4 → b ≤ 21 + 40 * y + 4 → c ≤ 21 + 40 * z + 4 → all ≤ 40 * (x + (y + z)) + 73
    three all more a b c x y z e g h k l = omega (arith, e, g, h, k, l)

set_there : (text : List Run → List ℕ) (n : ℕ) → length (spelled_value (text [])) ≡ 0 → (o : Option (List Run)) (runs : List Run) → IfSome o (IsPrinted text n) → set_or_empty o ≡ Some runs → IsPrinted text n runs
set_there text n empty None runs h e = subst (IsPrinted text n) (same_some [] runs e) (omega (arith, empty))
set_there text n empty (Some found) runs h e = subst (IsPrinted text n) (same_some found runs e) h

set_size : (rule : List ℕ → Option (List Run)) (text : List Run → List ℕ) → Prints rule text → length (spelled_value (text [])) ≡ 0 → (local : List ℕ) (h : Head) (runs : List Run) → set_in rule local h ≡ Some runs
    → IsPrinted text (called local h) runs
unfolding set_in
set_size rule text each empty local h runs e =
    let p = then_some (optional_by rule local h) set_or_empty runs e in
    set_there text (called local h) empty p.0 runs (optional_printed rule text each local h p.0 p.1) p.2

no_as : length (spelled_value (as_text [])) ≡ 0
unfolding spelled_value printed
no_as = refl

no_ipv4 : length (spelled_value (ipv4_blocks_text [])) ≡ 0
unfolding spelled_value printed
no_ipv4 = refl

no_ipv6 : length (spelled_value (ipv6_blocks_text [])) ≡ 0
unfolding spelled_value printed
no_ipv6 = refl

abbrev pub set_length : Resources → ℕ
set_length s = length (spelled_value (as_text s.asn)) + (length (spelled_value (ipv4_blocks_text s.ipv4)) + length (spelled_value (ipv6_blocks_text s.ipv6)))

pub resources_size : (h : Head) (x : Resources) → resources_in h ≡ Some x
    → set_length x ≤ 40 * (called (codes "resource_set_as") h + (called (codes "resource_set_ipv4") h + called (codes "resource_set_ipv6") h))
unfolding resources_in
resources_size h x is =
    let a = then_some (set_in as_blocks (codes "resource_set_as") h) _ x is in
    let b = then_some (set_in ipv4_blocks (codes "resource_set_ipv4") h) _ x a.2 in
    let c = then_some (set_in ipv6_blocks (codes "resource_set_ipv6") h) _ x b.2 in
    let na = called (codes "resource_set_as") h in
    let nb = called (codes "resource_set_ipv4") h in
    let nc = called (codes "resource_set_ipv6") h in
    let sa = set_size as_blocks as_text as_printed no_as (codes "resource_set_as") h a.0 a.1 in
    let sb = set_size ipv4_blocks ipv4_blocks_text ipv4_printed no_ipv4 (codes "resource_set_ipv4") h b.0 b.1 in
    let sc = set_size ipv6_blocks ipv6_blocks_text ipv6_printed no_ipv6 (codes "resource_set_ipv6") h c.0 c.1 in
    subst (λ (y : Resources). set_length y ≤ 40 * (na + (nb + nc))) (same_some (record { asn = a.0; ipv4 = b.0; ipv6 = c.0 }) x c.2)
    (three (length (spelled_value (as_text a.0))) (length (spelled_value (ipv4_blocks_text b.0))) (length (spelled_value (ipv6_blocks_text c.0))) na nb nc sa sb sc)
  where
    three : (a b c x y z : ℕ) → a ≤ 40 * x → b ≤ 40 * y → c ≤ 40 * z → a + (b + c) ≤ 40 * (x + (y + z))
    three a b c x y z h k l = omega (arith, h, k, l)

-- ---- a bound for each part, which counts what is written of it

abbrev pub text_length : List ℕ → ℕ
text_length octets = length (encode_of standard octets)

abbrev pub issued_bound : IssuedOf (List ℕ) → ℕ
issued_bound i = 6 * length i.uri + limit_length i.req_limit + 6 * text_length i.cert + 39

abbrev pub issuer_bound : List ℕ → ℕ
issuer_bound o = 6 * text_length o + 220

abbrev pub class_bound : ClassOf (List ℕ) → ℕ
class_bound c = 6 * length c.class_name + 6 * length c.signing_cert.url + set_length c.resource_set + (sum_by issued_bound c.issued_certs + issuer_bound c.signing_cert.cert) + 60

abbrev pub asked_bound : AskedOf (List ℕ) → ℕ
asked_bound a = 6 * length a.class_name + limit_length a.limit + 6 * text_length a.csr + 60

abbrev pub key_bound : KeyElementFields → ℕ
key_bound k = 6 * length k.class_name + 6 * length (encode_of url_safe_no_pad k.key) + 60

abbrev pub description_bound : Option (List ℕ) → ℕ
description_bound None = 0
description_bound (Some text) = 6 * length text + 40

abbrev pub not_performed_bound : NotPerformedFields → ℕ
not_performed_bound r = 6 * length (decimal r.status) + description_bound r.description + 40

abbrev pub payload_bound : PayloadShape → ℕ
payload_bound shape.List = 0
payload_bound (shape.ListResponse classes) = sum_by class_bound classes
payload_bound (shape.Issue request) = asked_bound request
payload_bound (shape.IssueResponse response) = class_bound (class_of_issuance response)
payload_bound (shape.Revoke key) = key_bound key
payload_bound (shape.RevokeResponse key) = key_bound key
payload_bound (shape.ErrorResponse response) = not_performed_bound response

-- ---- what is written keeps to the bounds

certificate_spelled : (i : IssuedOf (List ℕ)) → length (spelled (certificate_element i)) ≤ issued_bound i
certificate_spelled i =
    let k = leaf_size (codes "certificate") (certificate_element i).head.attributes (encode_of standard i.cert) in
    let a = attribute_size (codes "cert_url") i.uri in
    let e = length-append (spelled_attribute (codes "cert_url") i.uri) (spelled_attributes (limit_attributes i.req_limit)) in
    omega (arith, k, a, e)

certificates_spelled : (list : List (IssuedOf (List ℕ))) → length (spelled_all (elements_of certificate_element list)) ≤ sum_by issued_bound list
certificates_spelled [] = omega arith
certificates_spelled (i ∷ list) =
    let rest = elements_of certificate_element list in
    let one = certificate_spelled i in
    let more = certificates_spelled list in
    let split = sum_by-cons issued_bound i list in
    let e = all_first (certificate_element i).head none rest in
    together (length (spelled_all (elements_of certificate_element (i ∷ list)))) (length (spelled (certificate_element i))) (length (spelled_all rest)) (sum_by issued_bound (i ∷ list)) (issued_bound i) (sum_by issued_bound list)
    e split one more
  where
    together : (all a b s x y : ℕ) → all ≡ a + b → s ≡ x + y → a ≤ x → b ≤ y → all ≤ s
    together all a b s x y e g h k = omega (arith, e, g, h, k)

issuer_spelled : (o : List ℕ) → length (spelled (issuer_element o)) ≤ 6 * text_length o + 17
issuer_spelled o = let k = leaf_size (codes "issuer") [] (encode_of standard o) in omega (arith, k)

start_spelled : (c : ClassOf (List ℕ)) → length (spelled_attributes (class_element c).head.attributes) ≤ 6 * length c.class_name + 6 * length c.signing_cert.url + set_length c.resource_set + 232
start_spelled c =
    let name = spelled_attribute (codes "class_name") c.class_name in
    let url = spelled_attribute (codes "cert_url") c.signing_cert.url in
    let asn = spelled_attribute (codes "resource_set_as") (as_text c.resource_set.asn) in
    let ipv4 = spelled_attribute (codes "resource_set_ipv4") (ipv4_blocks_text c.resource_set.ipv4) in
    let ipv6 = spelled_attribute (codes "resource_set_ipv6") (ipv6_blocks_text c.resource_set.ipv6) in
    let time = spelled_attribute (codes "resource_set_notafter") (rfc3339_text (civil_at c.not_after)) in
    let e1 = length-append name (url ++ (asn ++ (ipv4 ++ (ipv6 ++ (time ++ []))))) in
    let e2 = length-append url (asn ++ (ipv4 ++ (ipv6 ++ (time ++ [])))) in
    let e3 = length-append asn (ipv4 ++ (ipv6 ++ (time ++ []))) in
    let e4 = length-append ipv4 (ipv6 ++ (time ++ [])) in
    let e5 = length-append ipv6 (time ++ []) in
    let e6 = length-append time [] in
    let s1 = attribute_size (codes "class_name") c.class_name in
    let s2 = attribute_size (codes "cert_url") c.signing_cert.url in
    let s3 = attribute_exact (codes "resource_set_as") (as_text c.resource_set.asn) in
    let s4 = attribute_exact (codes "resource_set_ipv4") (ipv4_blocks_text c.resource_set.ipv4) in
    let s5 = attribute_exact (codes "resource_set_ipv6") (ipv6_blocks_text c.resource_set.ipv6) in
    let s6 = attribute_size (codes "resource_set_notafter") (rfc3339_text (civil_at c.not_after)) in
    omega (arith, e1, e2, e3, e4, e5, e6, s1, s2, s3, s4, s5, s6)

class_spelled : (c : ClassOf (List ℕ)) → length (spelled (class_element c)) ≤ class_bound c
class_spelled c =
    let s = start_spelled c in
    let p = parent_size (codes "class") None (class_element c).head.attributes (class_children c) in
    let e = all_joined (elements_of certificate_element c.issued_certs) (alone (issuer_element c.signing_cert.cert)) in
    let k = certificates_spelled c.issued_certs in
    let i = issuer_spelled c.signing_cert.cert in
    together (length (spelled (class_element c))) (length (spelled_attributes (class_element c).head.attributes)) (length (spelled_all (class_children c))) (length (spelled_all (elements_of certificate_element c.issued_certs)))
    (length (spelled (issuer_element c.signing_cert.cert))) (sum_by issued_bound c.issued_certs) (6 * text_length c.signing_cert.cert) (6 * length c.class_name) (6 * length c.signing_cert.url) (set_length c.resource_set) p s e k i
  where
    together : (all start inside a b x y m n o : ℕ) → all ≤ 10 + 0 + start + inside + 5 → start ≤ m + n + o + 232 → inside ≡ a + b → a ≤ x → b ≤ y + 17 → all ≤ m + n + o + (x + (y + 220)) + 60
    together all start inside a b x y m n o p s e k i = omega (arith, p, s, e, k, i)

classes_spelled : (list : List (ClassOf (List ℕ))) → length (spelled_all (elements_of class_element list)) ≤ sum_by class_bound list
classes_spelled [] = omega arith
classes_spelled (c ∷ list) =
    let rest = elements_of class_element list in
    let one = class_spelled c in
    let more = classes_spelled list in
    let split = sum_by-cons class_bound c list in
    let e = all_first (class_element c).head (class_element c).children rest in
    together (length (spelled_all (elements_of class_element (c ∷ list)))) (length (spelled (class_element c))) (length (spelled_all rest)) (sum_by class_bound (c ∷ list)) (class_bound c) (sum_by class_bound list) e split one more
  where
    together : (all a b s x y : ℕ) → all ≡ a + b → s ≡ x + y → a ≤ x → b ≤ y → all ≤ s
    together all a b s x y e g h k = omega (arith, e, g, h, k)

request_spelled : (a : AskedOf (List ℕ)) → length (spelled (request_element a)) ≤ asked_bound a
request_spelled a =
    let k = leaf_size (codes "request") (request_element a).head.attributes (encode_of standard a.csr) in
    let s = attribute_size (codes "class_name") a.class_name in
    let e = length-append (spelled_attribute (codes "class_name") a.class_name) (spelled_attributes (limit_attributes a.limit)) in
    omega (arith, k, s, e)

key_spelled : (k : KeyElementFields) → length (spelled (key_element k)) ≤ key_bound k
key_spelled k =
    let l = leaf_size (codes "key") (key_element k).head.attributes [] in
    let name = spelled_attribute (codes "class_name") k.class_name in
    let ski = spelled_attribute (codes "ski") (encode_of url_safe_no_pad k.key) in
    let a = attribute_size (codes "class_name") k.class_name in
    let b = attribute_size (codes "ski") (encode_of url_safe_no_pad k.key) in
    let e = length-append name (ski ++ []) in
    let g = length-append ski [] in
    together (length (spelled (key_element k))) (length (spelled_attributes (key_element k).head.attributes)) (length name) (length (ski ++ [])) (length ski) (6 * length k.class_name) (6 * length (encode_of url_safe_no_pad k.key)) l e g a b
  where
    together : (all list a m b x y : ℕ) → all ≤ 6 + list + 0 + 5 → list ≡ a + m → m ≡ b + 0 → a ≤ 10 + x + 4 → b ≤ 3 + y + 4 → all ≤ x + y + 60
    together all list a m b x y l e g h k = omega (arith, l, e, g, h, k)

description_spelled : (text : Option (List ℕ)) → length (spelled_all (description_elements text)) ≤ description_bound text
description_spelled None = omega arith
description_spelled (Some text) = let k = leaf_size (codes "description") [] text in omega (arith, k)

not_performed_spelled : (r : NotPerformedFields) → length (spelled_all (not_performed_elements r)) ≤ not_performed_bound r
not_performed_spelled r =
    let status : Head = record { name = codes "status"; namespace = None; attributes = []; text = decimal r.status } in
    let k = leaf_size (codes "status") [] (decimal r.status) in
    let d = description_spelled r.description in
    let e = all_first status none (description_elements r.description) in
    omega (arith, k, d, e)

pub payload_spelled : (p : PayloadShape) → length (spelled_all (payload_elements p)) ≤ payload_bound p
unfolding payload_elements
payload_spelled shape.List = omega arith
payload_spelled (shape.ListResponse classes) = classes_spelled classes
payload_spelled (shape.Issue request) = request_spelled request
payload_spelled (shape.IssueResponse response) = class_spelled (class_of_issuance response)
payload_spelled (shape.Revoke key) = key_spelled key
payload_spelled (shape.RevokeResponse key) = key_spelled key
payload_spelled (shape.ErrorResponse response) = not_performed_spelled response

type_size : (t : PayloadType) → length (payload_type_text t) ≤ 15
type_size kind.List = omega arith
type_size kind.ListResponse = omega arith
type_size kind.Issue = omega arith
type_size kind.IssueResponse = omega arith
type_size kind.Revoke = omega arith
type_size kind.RevokeResponse = omega arith
type_size kind.ErrorResponse = omega arith

pub root_spelled : (s r : List ℕ) (t : PayloadType) (children : Elements) → length (spelled (root_element s r (payload_type_text t) children)) ≤ 6 * length s + 6 * length r + length (spelled_all children) + 450
root_spelled s r t children =
    let p = parent_size (codes "message") (Some NAMESPACE) (root_element s r (payload_type_text t) children).head.attributes children in
    let n = attribute_size (codes "xmlns") NAMESPACE in
    let type = payload_type_text t in
    let a = spelled_attribute (codes "version") (codes "1") in
    let b = spelled_attribute (codes "sender") s in
    let c = spelled_attribute (codes "recipient") r in
    let d = spelled_attribute (codes "type") type in
    let e1 = length-append a (b ++ (c ++ (d ++ []))) in
    let e2 = length-append b (c ++ (d ++ [])) in
    let e3 = length-append c (d ++ []) in
    let e4 = length-append d [] in
    let s1 = attribute_size (codes "version") (codes "1") in
    let s2 = attribute_size (codes "sender") s in
    let s3 = attribute_size (codes "recipient") r in
    let s4 = attribute_size (codes "type") type in
    let w = type_size t in
    omega (arith, p, n, e1, e2, e3, e4, s1, s2, s3, s4, w)
