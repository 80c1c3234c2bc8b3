-- The octets of a certificate that was read: they are read again, they determine it, and they stand at the beginning of what was read.
use Rattle.std.proofs.Common.{◌≡◌, ℕ, ◌≤◌, length, length-append, arith, Some, List, [], ◌++◌, sym, ap, ◌∙◌}
use Rattle.rpki_common.proofs.Bounds.{bound}
use Rattle.rpki_common.proofs.Truths.{same_some}
use Rattle.rpki_der.specs.declared.mode.Mode.{Mode}
use Rattle.rpki_der.specs.declared.mode.Mode.TheVariants.{Der}
use Rattle.rpki_der.specs.Value.{Value, spelling}
use Rattle.rpki_der.specs.Takes.{BeginsAs}
use Rattle.rpki_der.specs.Whole.{whole_of}
use Rattle.rpki_der.proofs.Uniqueness.{same_value}
use Rattle.rpki_base.specs.RpkiSignatureAlgorithm.{x509_algorithm}
use Rattle.rpki_base.specs.SignedData.{signed_as}
use Rattle.rpki_cert.specs.Cert.{CertFields, certificate, tbs_certificate, what_is_signed}

pub slice_is : (mode : Mode) (v : Value) (c : CertFields) → certificate mode v ≡ Some c → c.slice ≡ spelling v
unfolding certificate
slice_is mode v c e =
    let b = bound (signed_as (tbs_certificate mode) what_is_signed (whole_of x509_algorithm) mode v) _ c e in
    sym (ap (λ (k : CertFields). k.slice) (same_some _ c b.then'))

pub certificate_again : (octets rest : List ℕ) (c : CertFields) → BeginsAs (certificate Der) Der octets c → BeginsAs (certificate Der) Der (c.slice ++ rest) c
certificate_again octets rest c b = record {
  value = b.value;
  rest = rest;
  begins = record { lawful = b.begins.lawful; parts = ap (λ o. o ++ rest) (slice_is Der b.value c b.reads) };
  reads = b.reads;
}

pub same_slices : (m n : List ℕ) (a b : CertFields) → BeginsAs (certificate Der) Der m a → BeginsAs (certificate Der) Der n b → a.slice ≡ b.slice → a ≡ b
same_slices m n a b p q e =
    let same : spelling p.value ≡ spelling q.value = sym (slice_is Der p.value a p.reads) ∙ e ∙ slice_is Der q.value b q.reads in
    let s = same_value Der p.value q.value [] [] p.begins.lawful q.begins.lawful (ap (λ o. o ++ []) same) in
    same_some a b (sym p.reads ∙ ap (certificate Der) s.value ∙ q.reads)

pub slice_within : (octets : List ℕ) (c : CertFields) → BeginsAs (certificate Der) Der octets c → length c.slice ≤ length octets
slice_within octets c b =
    let same : length c.slice ≡ length (spelling b.value) = ap length (slice_is Der b.value c b.reads) in
    let parts : length octets ≡ length (spelling b.value ++ b.rest) = ap length b.begins.parts in
    omega (arith, length-append (spelling b.value) b.rest)
