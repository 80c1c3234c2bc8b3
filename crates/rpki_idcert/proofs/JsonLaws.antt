-- What is read of octets in JSON texts, and read again.
use Rattle.std.proofs.Common.{◌≡◌, ℕ, List, [], ◌++◌, Option, None, Some, refl, subst}
use Rattle.std.proofs.lemmas.List.{append-nil}
use Rattle.rpki_common.specs.Chaining.{◌>>=◌}
use Rattle.rpki_text.specs.Base64.{octets_of_json}
use Rattle.rpki_der.specs.declared.error.DecodeError.{DecodeError}
use Rattle.rpki_der.specs.declared.error.DecodeError.TheVariants.{Malformed}
use Rattle.rpki_der.specs.declared.mode.Mode.{Mode}
use Rattle.rpki_der.specs.declared.mode.Mode.TheVariants.{Der}
use Rattle.rpki_der.specs.InDer.{in_der}
use Rattle.rpki_der.specs.Takes.{BeginsAs, RefusesOctets}
use Rattle.rpki_der.specs.Value.{Value}
use Rattle.rpki_der.specs.Whole.{whole_of}
use Rattle.rpki_der.proofs.Decoding.{decoded_ok, decoded_none}
use Rattle.rpki_base.specs.AlgorithmLaws.{x509_named, x509_again, x509_value}
use Rattle.rpki_base.specs.RpkiSignatureAlgorithm.{x509_algorithm, spelled_x509}
use Rattle.rpki_idcert.specs.IdCert.{CertificateFields, identity_certificate}
use Rattle.rpki_idcert.specs.Json.{in_json}
use Rattle.rpki_idcert.specs.Making.{IsReadAgain}
use Rattle.rpki_idcert.specs.TbsIdCert.{tbs_certificate}
use Rattle.rpki_idcert.proofs.Rewriting.{written_again}

-- where the text spells octets, what it holds is what begins them
pub in_json-octets : {X : Type 0} (grammar : Value → Option X) (text octets : List ℕ) → octets_of_json text ≡ Some octets → in_json grammar text ≡ in_der grammar octets
unfolding in_json ◌>>=◌
in_json-octets grammar text octets e = rw e refl

pub in_json-none : {X : Type 0} (grammar : Value → Option X) (text : List ℕ) → octets_of_json text ≡ None → in_json grammar text ≡ None
unfolding in_json ◌>>=◌
in_json-none grammar text e = rw e refl

pub in_json-some : {X : Type 0} (grammar : Value → Option X) (text octets given : List ℕ) (x : X) → octets_of_json text ≡ Some octets → given ≡ octets → BeginsAs grammar Der given x → in_json grammar text ≡ Some x
in_json-some grammar text octets given x e p b = rw (in_json-octets grammar text octets e, ← p) (decoded_ok grammar Der given x b)

pub in_json-other : {X : Type 0} (grammar : Value → Option X) (text octets given : List ℕ) (e : DecodeError) → octets_of_json text ≡ Some octets → given ≡ octets → RefusesOctets grammar Der given e → e ≡ Malformed → in_json grammar text ≡ None
in_json-other grammar text octets given e is p n m = rw (in_json-octets grammar text octets is, ← p) (decoded_none grammar Der given (subst (λ x. RefusesOctets grammar Der given x) m n))

-- octets that begin with something, whatever stands behind them, do so by themselves
pub alone : {X : Type 0} (grammar : Value → Option X) (octets : List ℕ) (x : X) → BeginsAs grammar Der (octets ++ []) x → BeginsAs grammar Der octets x
alone grammar octets x b = subst (λ o. BeginsAs grammar Der o x) (append-nil octets) b

-- what is written of a certificate that was read is read as it
pub read_again : (mode : Mode) (octets : List ℕ) (c : CertificateFields) → BeginsAs (identity_certificate mode) mode octets c → IsReadAgain mode c
unfolding identity_certificate
read_again mode octets c b rest h =
    let w = written_again tbs_certificate (whole_of x509_algorithm) spelled_x509 mode b.value c rest b.begins.lawful b.reads h (λ o a e. x509_again mode a (x509_named mode o a e)) (λ a. x509_value mode a []) in
    record { value = w.0; rest = rest; begins = w.1; reads = w.2 }
