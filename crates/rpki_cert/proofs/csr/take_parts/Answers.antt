-- by tools/proofs/answers.py rpki_cert csr take_parts Csr certification_request+rpki_base.specs.SignedData.signed_value+rpki_base.specs.SignedData.signed_as enter_counted
--     'octets@rpki_der.specs.Held.with_octets+rpki_cert.specs.Csr.request_info=(λ m. with_octets (request_info g.Attributes.CsrAttributes.reads m))' '!slice'
--     '&1signature@rpki_base.specs.SignedData.signature_in=(signature_in g.Alg.SignatureAlgorithm.reads)' =new-signed =in_ok-slice
use Rattle.std.proofs.Common.{refl, ◌∙◌}
use Rattle.rpki_base.specs.SignedData.{signature_in, signed_as, signed_value}
use Rattle.rpki_cert.specs.Csr.{certification_request, request_info}
use Rattle.rpki_der.proofs.Counting.{reads_first, refuses_inside, refuses_within, stops_first, stops_later, stops_memory, takes_err, takes_within}
use Rattle.rpki_der.proofs.Leftovers.{reads_bind, reads_slower, stops_bind, stops_slower}
use Rattle.rpki_der.proofs.Modes.{reads_in, refuses_in, stops_in, takes_in}
use Rattle.rpki_der.specs.Held.{with_octets}
use Rattle.rpki_cert.proofs.csr.take_parts.Goals as goal

pub returns-in_err-enter_counted : goal.returns-in_err-enter_counted
unfolding certification_request signed_value signed_as
returns-in_err-enter_counted g c = takes_err _ _ _ _ _ _ _ _ _ c.from_residual.ensures.1
    (refuses_within _ _ _ c.args.cursor.now _ _ _ c.in_err-enter_counted.ensures.place c.in_err-enter_counted.ensures.ticks)

pub returns-in_err-octets : goal.returns-in_err-octets
unfolding certification_request signed_value signed_as
returns-in_err-octets g c = takes_err _ _ _ _ _ _ _ _ _ c.from_residual-in_err-octets.ensures.1
    (refuses_inside _ _ _ _ _ _ _ _ _ _ refl c.in_ok-enter_counted.ensures.place c.in_ok-enter_counted.ensures.ticks
    (stops_first _ _ _ _ _ _ _ _ refl (refuses_in _ (λ m. with_octets (request_info g.Attributes.CsrAttributes.reads m)) _ _ _ _ _ c.in_ok-enter_counted.ensures.place.mode c.in_err-octets.ensures)))

pub returns-in_err-slice : goal.returns-in_err-slice
unfolding certification_request signed_value signed_as
returns-in_err-slice g c = takes_err _ _ _ _ _ _ _ _ _ c.from_residual-in_err-slice.ensures.1
    (refuses_inside _ _ _ _ _ _ _ _ _ _ refl c.in_ok-enter_counted.ensures.place c.in_ok-enter_counted.ensures.ticks
    (stops_later _ _ _ _ _ _ _ _ _ _ _ _ refl
    (takes_in _ (λ m. with_octets (request_info g.Attributes.CsrAttributes.reads m)) _ _ _ _ _ _ c.in_ok-enter_counted.ensures.place.mode c.in_ok-octets.ensures)
    (stops_memory _ _ _ _ _ refl)))

pub returns-in_err-signature : goal.returns-in_err-signature
unfolding certification_request signed_value signed_as
returns-in_err-signature g c = takes_err _ _ _ _ _ _ _ _ _ c.from_residual-in_err-signature.ensures.1
    (refuses_inside _ _ _ _ _ _ _ _ _ _ refl c.in_ok-enter_counted.ensures.place c.in_ok-enter_counted.ensures.ticks
    (stops_later _ _ _ _ _ _ _ _ _ _ _ _ refl
    (takes_in _ (λ m. with_octets (request_info g.Attributes.CsrAttributes.reads m)) _ _ _ _ _ _ c.in_ok-enter_counted.ensures.place.mode c.in_ok-octets.ensures)
    (stops_bind _ _ _ _ _ _ _ _
    (stops_slower _ 1 _ _ _ _ _ _ refl
    (stops_in _ _ (signature_in g.Alg.SignatureAlgorithm.reads) _ _ _ _ _ (c.in_ok-octets.ensures.takes.mode ∙ c.in_ok-enter_counted.ensures.place.mode) c.in_err-signature.ensures)))))

pub returns : goal.returns
unfolding certification_request signed_value signed_as
returns g c = rw (c.new-signed.ensures, c.in_ok-slice.ensures)
    (takes_within _ _ _ _ _ _ _ _ _ _ _ refl c.in_ok-enter_counted.ensures.place c.in_ok-enter_counted.ensures.ticks
    (reads_first _ _ _ _ _ _ _ _ _ _ _ _ _ refl
    (takes_in _ (λ m. with_octets (request_info g.Attributes.CsrAttributes.reads m)) _ _ _ _ _ _ c.in_ok-enter_counted.ensures.place.mode c.in_ok-octets.ensures)
    (reads_bind _ _ _ _ _ _ _ _ _ _
    (reads_slower _ 1 _ _ _ _ _ _ _ refl
    (reads_in _ _ (signature_in g.Alg.SignatureAlgorithm.reads) _ _ _ _ _ _ (c.in_ok-octets.ensures.takes.mode ∙ c.in_ok-enter_counted.ensures.place.mode) c.in_ok-signature.ensures)) refl)))
