-- URIs and handles in messages: they are read as themselves, and consist of octets that a document may have.
use Rattle.std.proofs.Common.{◌≡◌, ◌≢◌, ℕ, Bool, true, false, not, List, [], ◌∷◌, Option, Some, None, length, refl, subst, IfSome, arith}
use Rattle.std.specs.Prelude.{nat_lt, if◌then◌else◌}
use Rattle.std.specs.List.{list_all}
use Rattle.std.proofs.lemmas.Bool.Decides.{nat_tests}
use Rattle.std.proofs.lemmas.List.Sums.{list_all-from_AllPass}
use Rattle.rpki_common.proofs.Truths.{both, none_some, same_some}
use Rattle.rpki_text.specs.Handle.{is_handle_octet, IsHandle}
use Rattle.rpki_text.specs.Uri.{Kind, has_scheme, is_uri_octet, parts_fault, parts_behind, fault_of}
use Rattle.rpki_text.specs.declared.uri.Error.{Error as UriError}
use Rattle.rpki_text.specs.declared.uri.Error.TheVariants as uri
use Rattle.rpki_xml.specs.Answers.{Fails}
use Rattle.rpki_xml.specs.Lettered.{AreOctets}
use Rattle.rpki_xml.specs.Lexing.{is_octet}
use Rattle.rpki_xml.specs.Tables.{where_there}
use Rattle.rpki_xmltext.specs.UriText.{where_lawful, uri_of_text, xml_of_uri}
use Rattle.rpki_xmltext.proofs.Attributes.{then_some}

pub uri_is : (kind : Kind) (text : List ℕ) → fault_of kind text ≡ None → uri_of_text kind text ≡ Some text
unfolding uri_of_text
uri_is kind text h = rw h refl

uri_none : (kind : Kind) (text : List ℕ) (e : UriError) → fault_of kind text ≡ Some e → uri_of_text kind text ≡ None
unfolding uri_of_text
uri_none kind text e h = rw h refl

pub uri_fails : (kind : Kind) (text : List ℕ) (e : UriError) → (e ≢ uri.OutOfMemory → fault_of kind text ≡ Some e) → Fails (xml_of_uri e) (uri_of_text kind text)
uri_fails kind text uri.TooLong h = uri_none kind text uri.TooLong (h (λ e. cc))
uri_fails kind text uri.BadCharacter h = uri_none kind text uri.BadCharacter (h (λ e. cc))
uri_fails kind text uri.BadScheme h = uri_none kind text uri.BadScheme (h (λ e. cc))
uri_fails kind text uri.BadUri h = uri_none kind text uri.BadUri (h (λ e. cc))
uri_fails kind text uri.DotSegments h = uri_none kind text uri.DotSegments (h (λ e. cc))
uri_fails kind text uri.OutOfMemory h = tt

pub all_weaker : (f g : ℕ → Bool) → ((c : ℕ) → f c ≡ true → g c ≡ true) → (text : List ℕ) → list_all f text ≡ true → list_all g text ≡ true
all_weaker f g each [] h = refl
all_weaker f g each (c ∷ text) h = let p = both (f c) (list_all f text) h in rw (each c p.0, all_weaker f g each text p.1) refl

-- ---- handles

handle_octet : (c : ℕ) → is_handle_octet c ≡ true → is_octet c ≡ true
handle_octet c h = grind (arith, nat_tests)

pub handle_octets : (h : List ℕ) → IsHandle h → AreOctets h
handle_octets h lawful = all_weaker is_handle_octet is_octet handle_octet h (list_all-from_AllPass is_handle_octet h lawful.2)

-- ---- URIs

uri_octet : (c : ℕ) → is_uri_octet c ≡ true → is_octet c ≡ true
uri_octet c h = grind (arith, nat_tests)

passed : (long octets scheme : Bool) (rest : Option UriError)
    → (if long then Some uri.TooLong else if not octets then Some uri.BadCharacter else if not scheme then Some uri.BadScheme else rest) ≡ None → (octets ≡ true) × (scheme ≡ true)
passed true octets scheme rest e = cc
passed false false scheme rest e = cc
passed false true false rest e = cc
passed false true true rest e = (refl, refl)

pub lawful_parts : (kind : Kind) (u : List ℕ) → fault_of kind u ≡ None → (list_all is_uri_octet u ≡ true) × (has_scheme kind.scheme u ≡ true)
lawful_parts kind u h = passed (nat_lt 65535 (length u)) (list_all is_uri_octet u) (has_scheme kind.scheme u) (parts_fault kind.has_parts (parts_behind kind.scheme u)) h

pub uri_octets : (kind : Kind) (u : List ℕ) → fault_of kind u ≡ None → AreOctets u
uri_octets kind u h = all_weaker is_uri_octet is_octet uri_octet u (lawful_parts kind u h).0

-- ---- what is read is lawful

pub lawful_text : (text : List ℕ) (fault : Option UriError) (u : List ℕ) → where_lawful text fault ≡ Some u → (fault ≡ None) × (text ≡ u)
lawful_text text None u e = (refl, same_some text u e)
lawful_text text (Some f) u e = absurd (none_some u e)

pub uri_lawful : (kind : Kind) (text u : List ℕ) → uri_of_text kind text ≡ Some u → fault_of kind u ≡ None
unfolding uri_of_text
uri_lawful kind text u e = let p = lawful_text text (fault_of kind text) u e in subst (λ (t : List ℕ). fault_of kind t ≡ None) p.1 p.0

pub there_lawful : (kind : Kind) (text u : Option (List ℕ)) → where_there (uri_of_text kind) text ≡ Some u → IfSome u (λ v. fault_of kind v ≡ None)
there_lawful kind None u e = subst (λ (o : Option (List ℕ)). IfSome o (λ v. fault_of kind v ≡ None)) (same_some None u e) tt
there_lawful kind (Some text) u e =
    let p = then_some (uri_of_text kind text) (λ x. Some (Some x)) u e in
    subst (λ (o : Option (List ℕ)). IfSome o (λ v. fault_of kind v ≡ None)) (same_some (Some p.0) u p.2) (uri_lawful kind text p.0 p.1)
