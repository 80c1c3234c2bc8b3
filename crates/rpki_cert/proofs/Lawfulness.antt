-- A lawful URI is a text.
use Rattle.std.proofs.Common.{◌≡◌, ℕ, ◌<◌, Bool, true, false, Option, None, Some, List, [], ◌∷◌, refl, arith}
use Rattle.std.specs.Prelude.{bytes_eq, is_none, if◌then◌else◌, not}
use Rattle.std.specs.List.{list_all}
use Rattle.std.specs.Str.{IsUtf8, IsAscii}
use Rattle.std.proofs.lemmas.Str.{IsUtf8-from_ascii}
use Rattle.std.proofs.lemmas.Str.Ascii.{IsAscii-cons, IsAscii-nil}
use Rattle.rpki_common.proofs.Truths.{both, some_none}
use Rattle.std.proofs.lemmas.Bool.Decides.{nat_tests}
use Rattle.rpki_text.specs.declared.uri.Error.{Error}
use Rattle.rpki_text.specs.declared.uri.Error.TheVariants.{TooLong, BadCharacter}
use Rattle.rpki_common.specs.Chaining.{◌>>=◌}
use Rattle.rpki_cert.specs.Access.{Description, lawful, located}
use Rattle.rpki_text.specs.Uri.{Kind, is_uri_octet, fault_of}

octet_low : (o : ℕ) → is_uri_octet o ≡ true → o < 128
octet_low o h = grind (arith, nat_tests)

octets_ascii : (octets : List ℕ) → list_all is_uri_octet octets ≡ true → IsAscii octets
octets_ascii [] h = IsAscii-nil
octets_ascii (o ∷ more) h =
    let parts = both (is_uri_octet o) (list_all is_uri_octet more) h in
    IsAscii-cons o more (octet_low o parts.0) (octets_ascii more parts.1)

holds_octets : (long octets : Bool) (rest : Option Error) → (if long then Some TooLong else if not octets then Some BadCharacter else rest) ≡ None → octets ≡ true
holds_octets true octets rest e = absurd (some_none _ e)
holds_octets false true rest e = refl
holds_octets false false rest e = absurd (some_none _ e)

lawful_is_text : (kind : Kind) (octets : List ℕ) → fault_of kind octets ≡ None → IsUtf8 octets
lawful_is_text kind octets e = IsUtf8-from_ascii octets (octets_ascii octets (holds_octets _ _ _ e))

chosen : (octets : List ℕ) (fault : Option Error) → (fault ≡ None → ⊥) → (if is_none fault then Some octets else None) ≡ None
chosen octets None n = absurd (n refl)
chosen octets (Some e) n = refl

pub not_text : (kind : Kind) (octets : List ℕ) → (IsUtf8 octets → ⊥) → lawful kind octets ≡ None
not_text kind octets n = chosen octets (fault_of kind octets) (λ e. n (lawful_is_text kind octets e))

-- ---- what a description gives

pub other_method : (method : List ℕ) (kind : Kind) (d : Description) → bytes_eq d.method method ≡ false → located method kind d ≡ None
unfolding located
other_method method kind d e = rw e refl

nowhere : {X Y : Type 0} (b : Bool) (f : X → Option Y) → (if b then (None >>= f) else None) ≡ None
unfolding ◌>>=◌
nowhere true f = refl
nowhere false f = refl

pub no_location : (method : List ℕ) (kind : Kind) (d : Description) → d.location ≡ None → located method kind d ≡ None
unfolding located
no_location method kind d e = rw e (nowhere (bytes_eq d.method method) (lawful kind))

pub located_at : (method : List ℕ) (kind : Kind) (d : Description) (octets : List ℕ) → bytes_eq d.method method ≡ true → d.location ≡ Some octets → located method kind d ≡ lawful kind octets
unfolding located ◌>>=◌
located_at method kind d octets e f = rw (e, f) refl
