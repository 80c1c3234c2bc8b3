use Rattle.std.proofs.Common.{sym, arith}
use Rattle.base64.specs.Engines.{url_safe, url_safe_no_pad}
use Rattle.base64.specs.GeneralPurpose.{decoded_of, IsBytes}
use Rattle.rpki_text.specs.KeyIdentifier.{twenty}
use Rattle.rpki_text.proofs.KeyIdentifierLaws.{too_long, first, second, plain-told, padded-if, none-told, none-if}
use Rattle.rpki_text.proofs.key_identifiers.read_key_identifier.Goals as goal

pub returns-then-octets-gt-MOST_OCTETS-clause-octets : goal.returns-then-octets-gt-MOST_OCTETS-clause-octets
returns-then-octets-gt-MOST_OCTETS-clause-octets c =
    let fits : IsBytes c.args.text.now = λ i. let f = c.type_inv.text i in omega arith in
    sym (too_long c.args.text.now fits (rw c.as_bytes-octets.ensures.value at c.if-octets-gt-MOST_OCTETS.true))

pub returns-in-Some-clause-octets : goal.returns-in-Some-clause-octets
returns-in-Some-clause-octets c =
    first (twenty (decoded_of url_safe_no_pad c.args.text.now)) (twenty (decoded_of url_safe c.args.text.now)) c.in-Some.found
    (rw c.as_bytes-octets.ensures.value at c.in-Some.ensures.octets)

pub returns-in-Some-clause-spelled : goal.returns-in-Some-clause-spelled
returns-in-Some-clause-spelled c =
    let fits : IsBytes c.args.text.now = λ i. let f = c.type_inv.text i in omega arith in
    plain-told c.args.text.now c.in-Some.found fits c.in-Some.ensures.bytes (sym (rw c.as_bytes-octets.ensures.value at c.in-Some.ensures.octets))

pub returns-in-None-clause-octets : goal.returns-in-None-clause-octets
returns-in-None-clause-octets c =
    second (twenty (decoded_of url_safe_no_pad c.args.text.now)) (twenty (decoded_of url_safe c.args.text.now)) c.padded_octets.result
    (rw c.as_bytes-octets.ensures.value at c.in-None.ensures.octets) (rw c.as_bytes-octets.ensures.value at c.padded_octets.ensures.octets)

pub returns-in-None-clause-spelled : goal.returns-in-None-clause-spelled
returns-in-None-clause-spelled c =
    let fits : IsBytes c.args.text.now = λ i. let f = c.type_inv.text i in omega arith in
    padded-if c.args.text.now c.padded_octets.result fits c.padded_octets.ensures.bytes (rw c.as_bytes-octets.ensures.value at c.padded_octets.ensures.octets)

pub returns-then-octets-gt-MOST_OCTETS-clause-none : goal.returns-then-octets-gt-MOST_OCTETS-clause-none
returns-then-octets-gt-MOST_OCTETS-clause-none c =
    let fits : IsBytes c.args.text.now = λ i. let f = c.type_inv.text i in omega arith in
    none-told c.args.text.now fits
    (too_long c.args.text.now fits (rw c.as_bytes-octets.ensures.value at c.if-octets-gt-MOST_OCTETS.true))

pub returns-in-None-clause-none : goal.returns-in-None-clause-none
returns-in-None-clause-none c =
    let fits : IsBytes c.args.text.now = λ i. let f = c.type_inv.text i in omega arith in
    none-if c.args.text.now c.padded_octets.result fits
    (second (twenty (decoded_of url_safe_no_pad c.args.text.now)) (twenty (decoded_of url_safe c.args.text.now)) c.padded_octets.result
    (rw c.as_bytes-octets.ensures.value at c.in-None.ensures.octets) (rw c.as_bytes-octets.ensures.value at c.padded_octets.ensures.octets))
