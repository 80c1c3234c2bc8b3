use Rattle.std.proofs.Common.{◌≡◌, ℕ, List, Some, take, sym, ap, subst, ◌∙◌}
use Rattle.std.specs.Result.{is_ok}
use Rattle.std.proofs.lemmas.List.{take_at}
use Rattle.base64.specs.GeneralPurpose.{decoded_of, decoded_bytes_of, IsBytes}
use Rattle.rpki_text.proofs.KeyIdentifierLaws.{sliced_ok, sliced_err, twenty-some, twenty-none, twenty-other}
use Rattle.rpki_text.proofs.key_identifiers.twenty_octets.Goals as goal

pub returns-in_default-clause-octets : goal.returns-in_default-clause-octets
returns-in_default-clause-octets c = sym (twenty-none (decoded_of c.args.engine.now c.args.text.now) (sliced_err c.args.engine.now c.args.text.now c.decode_slice.result c.requires c.decode_slice.ensures.value (ap is_ok c.in_default.is)))

pub returns-then-count-ne20-clause-octets : goal.returns-then-count-ne20-clause-octets
returns-then-count-ne20-clause-octets c =
    let p = sliced_ok c.args.engine.now c.args.text.now c.decode_slice.result c.in-Ok.count c.requires c.decode_slice.ensures.value c.in-Ok.is in
    sym (twenty-other (decoded_of c.args.engine.now c.args.text.now) _ p.0 (λ e. c.if-count-ne20.true (sym p.1 ∙ e)))

pub returns-clause-octets : goal.returns-clause-octets
returns-clause-octets c =
    let p = sliced_ok c.args.engine.now c.args.text.now c.decode_slice.result c.in-Ok.count c.requires c.decode_slice.ensures.value c.in-Ok.is in
    let copied : c.copy_from_slice.new.self ≡ decoded_bytes_of c.args.engine.now c.args.text.now =
    c.copy_from_slice.ensures.after ∙ ap (λ (l : List ℕ). take 20 l) c.in-Ok.ensures.written
    ∙ take_at (decoded_bytes_of c.args.engine.now c.args.text.now) _ 20 (p.1 ∙ c.if-count-ne20.false) in
    sym (twenty-some (decoded_of c.args.engine.now c.args.text.now) _ (p.0 ∙ ap Some (sym copied)) c.copy_from_slice.ensures.len)

pub returns-clause-bytes : goal.returns-clause-bytes
returns-clause-bytes c =
    let p = sliced_ok c.args.engine.now c.args.text.now c.decode_slice.result c.in-Ok.count c.requires c.decode_slice.ensures.value c.in-Ok.is in
    let copied : c.copy_from_slice.new.self ≡ decoded_bytes_of c.args.engine.now c.args.text.now =
    c.copy_from_slice.ensures.after ∙ ap (λ (l : List ℕ). take 20 l) c.in-Ok.ensures.written
    ∙ take_at (decoded_bytes_of c.args.engine.now c.args.text.now) _ 20 (p.1 ∙ c.if-count-ne20.false) in
    subst (λ (l : List ℕ). IsBytes l) (sym copied) c.in-Ok.ensures.bytes
