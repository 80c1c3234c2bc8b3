use Rattle.std.proofs.Common.{refl}
use Rattle.rpki_ca.proofs.Spelled.{no_octets, key_there, key_missing}
use Rattle.rpki_ca.proofs.lines.spelled_key.Goals as goal

pub returns-in_default : goal.returns-in_default
returns-in_default c = no_octets c.args.word.now c.args.word.now _ refl (c.in_ok-octets.ensures.none (rw c.in_default.is refl)) refl

pub returns-in-Ok : goal.returns-in-Ok
returns-in-Ok c = key_there c.args.word.now c.args.word.now _ c.deref.result.now c.in-Ok.key (rw c.in-Some.is at c.in_ok-octets.ensures.some) refl c.deref.ensures.value c.in-Ok.ensures

pub returns-in-Err-Malformed : goal.returns-in-Err-Malformed
returns-in-Err-Malformed c = key_missing c.args.word.now c.args.word.now _ c.deref.result.now c.in-Err-Malformed.field-0 c.in-Err-Malformed.field-0-is (rw c.in-Some.is at c.in_ok-octets.ensures.some) refl c.deref.ensures.value c.in-Err-Malformed.ensures
