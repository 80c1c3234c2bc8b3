-- Texts that are lawful consist of octets that a document may have, and are read as themselves.
use Rattle.std.proofs.Common.{◌≡◌, ℕ, Bool, true, false, ◌&&◌, List, [], ◌∷◌, Some, None, map, take, refl, arith}
use Rattle.std.specs.Prelude.{codes, nat_eq}
use Rattle.std.specs.Char.{to_ascii_lowercase}
use Rattle.std.specs.Cmp.Lexicographic.{pointwise}
use Rattle.std.proofs.lemmas.Bool.Decides.{nat_tests}
use Rattle.rpki_common.proofs.Truths.{both}
use Rattle.rpki_text.specs.Uri.{https, has_scheme, fault_of}
use Rattle.rpki_xml.specs.Lettered.{AreOctets}
use Rattle.rpki_setup.specs.ServiceUri.{is_http, service_uri_of_text, service_text, IsWritableService}
use Rattle.rpki_setup.specs.declared.service_uri.ServiceUri.{ServiceUri}
use Rattle.rpki_setup.specs.declared.service_uri.ServiceUri.TheVariants.{Https, Http}
use Rattle.rpki_xmltext.proofs.Uris.{lawful_parts, uri_octets}
use Rattle.rpki_setup.proofs.Services.{kept, lawful}

-- ---- the two schemes

unlike : (n : ℕ) → nat_eq n 115 ≡ true → nat_eq n 58 ≡ false
unlike n h = grind (arith, nat_tests)

first_true : (s t : Bool) → (s && t) ≡ true → s ≡ true
first_true s t e = (both s t e).0

rest_true : (s t : Bool) → (s && t) ≡ true → t ≡ true
rest_true s t e = (both s t e).1

never : false ≡ true → ⊥
never e = cc

abbrev begins : ℕ → ℕ → Bool
begins c d = nat_eq (to_ascii_lowercase c) d

not_http : (u : List ℕ) → has_scheme (codes "https://") u ≡ true → is_http u ≡ false
not_http [] h = refl
not_http (a ∷ []) h = absurd (never (rest_true (begins a 104) false h))
not_http (a ∷ b ∷ []) h = absurd (never (rest_true (begins b 116) false (rest_true (begins a 104) (begins b 116 && false) h)))
not_http (a ∷ b ∷ c ∷ []) h = absurd (never (rest_true (begins c 116) false (rest_true (begins b 116) (begins c 116 && false) (rest_true (begins a 104) (begins b 116 && (begins c 116 && false)) h))))
not_http (a ∷ b ∷ c ∷ d ∷ []) h =
    absurd (never (rest_true (begins d 112) false (rest_true (begins c 116) (begins d 112 && false) (rest_true (begins b 116) (begins c 116 && (begins d 112 && false)) (rest_true (begins a 104) (begins b 116 && (begins c 116 && (begins d 112 && false))) h)))))
not_http (a ∷ b ∷ c ∷ d ∷ e ∷ rest) h =
    let more : Bool = pointwise nat_eq (map to_ascii_lowercase (take 3 rest)) (codes "://") in
    let p = rest_true (begins a 104) (begins b 116 && (begins c 116 && (begins d 112 && (begins e 115 && more)))) h in
    let q = rest_true (begins b 116) (begins c 116 && (begins d 112 && (begins e 115 && more))) p in
    let r = rest_true (begins c 116) (begins d 112 && (begins e 115 && more)) q in
    let s = rest_true (begins d 112) (begins e 115 && more) r in
    let t = first_true (begins e 115) more s in
    none_of (begins a 104) (begins b 116) (begins c 116) (begins d 112) (begins e 58) (pointwise nat_eq (map to_ascii_lowercase (take 2 rest)) (codes "//")) (unlike (to_ascii_lowercase e) t)
  where
    none_of : (a b c d e more : Bool) → e ≡ false → (a && (b && (c && (d && (e && more))))) ≡ false
    none_of false b c d e more h = refl
    none_of true false c d e more h = refl
    none_of true true false d e more h = refl
    none_of true true true false e more h = refl
    none_of true true true true e more h = rw h refl

-- ---- service URIs

-- an https URI is read as itself
pub https_again : (u : List ℕ) → fault_of https u ≡ None → service_uri_of_text u ≡ Some (Https u)
https_again u h = lawful u (not_http u (lawful_parts https u h).1) h

pub service_again : (s : ServiceUri) → IsWritableService s → service_uri_of_text (service_text s) ≡ Some s
service_again (Https u) h = https_again u h
service_again (Http text) h = kept text h.0

pub service_octets : (s : ServiceUri) → IsWritableService s → AreOctets (service_text s)
service_octets (Https u) h = uri_octets https u h
service_octets (Http text) h = h.1
