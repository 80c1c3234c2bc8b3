use Rattle.std.proofs.Common.{◌≡◌, ◌++◌, ◌∙◌, ℕ, List, ap, append_assoc, codes}
use Rattle.rpki_idcert.specs.Spelling.{spelled_tbs}
use Rattle.rpki_sigmsg.specs.Making.{made_covered}
use Rattle.rpki_sigmsg.specs.Spelling.{spelled_tbs_crl}
use Rattle.rpki_external.specs.Running.{named_on_line}
use Rattle.rpki_external.proofs.output.lines_to_sign.Goals as goal

three : (x y z a b d : List ℕ) → x ≡ a → y ≡ b → z ≡ d → (x ++ y) ++ z ≡ a ++ (b ++ d)
three x y z a b d p q r =
    ap (λ (l : List ℕ). (l ++ y) ++ z) p ∙ ap (λ (l : List ℕ). (a ++ l) ++ z) q ∙ ap (λ (l : List ℕ). (a ++ b) ++ l) r ∙ append_assoc a b d

pub returns : goal.returns
returns c =
    let u = c.args.unsigned.now in
    let line = λ (name octets : List ℕ). named_on_line name octets in
    c.in_ok-extend_from_slice-2.ensures.items
    ∙ ap (λ (l : List ℕ). l ++ c.deref-2.result.now) c.in_ok-extend_from_slice.ensures.items
    ∙ three c.in_ok-text.text.items c.deref.result.now c.deref-2.result.now
    (line (codes "attributes") (made_covered u.content.content u.content.moment)) (line (codes "crl") (spelled_tbs_crl u.crl)) (line (codes "certificate") (spelled_tbs u.certificate))
    (c.in_ok-text.ensures ∙ ap (line (codes "attributes")) c.attributes.ensures)
    (c.deref.ensures.value ∙ c.in_ok-crl.ensures ∙ ap (line (codes "crl")) c.crl.ensures)
    (c.deref-2.ensures.value ∙ c.in_ok-certificate.ensures ∙ ap (line (codes "certificate")) c.certificate.ensures)
