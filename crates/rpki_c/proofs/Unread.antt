-- Arguments and octets that are read as nothing.
use Rattle.std.proofs.Common.{◌≡◌, ◌≢◌, refl, Err, ℕ, Option, None, Some, List, sym, ap, ◌∙◌, subst}
use Rattle.std.specs.Prelude.{is_none, if◌then◌else◌}
use Rattle.std.specs.Str.{IsUtf8}
use Rattle.rpki_base.specs.PublicKey.{KeyFields, public_key}
use Rattle.rpki_cert.specs.Access.{lawful}
use Rattle.rpki_cert.proofs.Lawfulness.{not_text}
use Rattle.rpki_common.proofs.Truths.{none_some}
use Rattle.rpki_der.specs.declared.error.DecodeError.{DecodeError}
use Rattle.rpki_der.specs.declared.error.DecodeError.TheVariants as der
use Rattle.rpki_der.specs.declared.mode.Mode.TheVariants.{Der}
use Rattle.rpki_der.specs.Position.{Position}
use Rattle.rpki_der.specs.Takes.{NoneStands, Refuses}
use Rattle.rpki_der.specs.Whole.{RefusesWhole}
use Rattle.rpki_text.specs.Uri.{Kind, fault_of}
use Rattle.rpki_text.specs.declared.uri.Error.{Error}
use Rattle.rpki_der.specs.Takes.{RefusesOctets}
use Rattle.rpki_der.specs.declared.mode.Mode.TheVariants.{Ber}
use Rattle.rpki_replay.proofs.Judging.{no_signed}
use Rattle.rpki_sigmsg.specs.Message.{signed_message}
use Rattle.rpki_external.specs.Running.{refusal_of_no_message}
use Rattle.rpki_ca.specs.Acceptance.{HoldsNoSigned}
use Rattle.rpki_c.specs.Calls.{ReadsContent, no_cms}
use Rattle.rpki_c.specs.HandingOver.{out_of_memory}
use Rattle.rpki_c.specs.Arguments.{IsKeyIn}

malformed_key : (octets : List ℕ) → RefusesWhole public_key Der octets der.Malformed → (key : KeyFields) → IsKeyIn octets key → ⊥
unfolding RefusesWhole
malformed_key octets refused key w = none_some key (sym (refused w.value w.begins) ∙ w.reads)

-- the octets are no key
pub no_key : (octets : List ℕ) (e : DecodeError) → e ≡ der.Malformed → RefusesWhole public_key Der octets e → (key : KeyFields) → IsKeyIn octets key → ⊥
no_key octets e is refused = malformed_key octets (subst (λ (x : DecodeError). RefusesWhole public_key Der octets x) is refused)

-- no key stands next
pub no_next_key : (old : Position) (e : DecodeError) → e ≡ der.Malformed → Refuses public_key old e → NoneStands public_key old
unfolding Refuses
no_next_key old e is refused = subst (λ (x : DecodeError). Refuses public_key old x) is refused

-- what is no text is no lawful URI
pub not_lawful : (kind : Kind) (octets : List ℕ) → (IsUtf8 octets → ⊥) → fault_of kind octets ≡ None → ⊥
not_lawful kind octets none is =
    let some : lawful kind octets ≡ Some octets = ap (λ (fault : Option Error). if is_none fault then Some octets else None) is in
    none_some octets (sym (not_text kind octets none) ∙ some)

-- ---- octets that begin with no signed message

pub no_content : (octets : List ℕ) (e : DecodeError) → RefusesOctets (signed_message Ber) Ber octets e → refusal_of_no_message e ≢ out_of_memory → ReadsContent octets (Err (refusal_of_no_message e))
no_content octets der.Malformed refused other = no_signed octets refused
no_content octets der.OutOfMemory refused other = absurd (other refl)

pub nothing_asked : (octets : List ℕ) (e : DecodeError) → (e ≡ der.Malformed → HoldsNoSigned octets) → refusal_of_no_message e ≢ out_of_memory → (refusal_of_no_message e ≡ no_cms) × HoldsNoSigned octets
nothing_asked octets der.Malformed none other = (refl, none refl)
nothing_asked octets der.OutOfMemory none other = absurd (other refl)
