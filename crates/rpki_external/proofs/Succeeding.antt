-- What can be prepared or finished fails for want of memory alone.
use Rattle.std.proofs.Common.{◌≡◌, inl, inr, ℕ, None, Some, Option, List, refl, sym, ◌∙◌}
use Rattle.rpki_base.specs.PublicKey.{KeyFields}
use Rattle.rpki_signer.specs.Limits.{IsShort}
use Rattle.rpki_text.specs.declared.uri.Error.{Error}
use Rattle.rpki_external.specs.Making.{AreShort, CanPrepare, CanPrepareAnchor, CanPrepareRequest, FinishAnchorFails, FinishFails, FinishRequestFails, PrepareAnchorFails, PrepareFails, PrepareRequestFails}
use Rattle.rpki_external.specs.declared.preparing.Plan.{Plan}
use Rattle.rpki_external.specs.declared.preparing.PrepareError.{PrepareError}
use Rattle.rpki_external.specs.declared.preparing.PrepareError.TheVariants as errors
use Rattle.rpki_external.specs.declared.preparing.Signatures.{Signatures}
use Rattle.rpki_external.specs.declared.preparing_requests.RequestPlan.{RequestPlan}

pub prepared : (content : List ℕ) (p : Plan) (e : PrepareError) → CanPrepare content p → PrepareFails content p e → e ≡ errors.OutOfMemory
prepared content p errors.Moment can f = absurd (f can.window_is)
prepared content p errors.TooLong can f = absurd (f.1 can.within)
prepared content p errors.IncompatibleKey can f = absurd (f.2 can.formats)
prepared content p errors.KeyReused can f = absurd (can.other f.3)
prepared content p (errors.Uri e) can f = absurd f
prepared content p errors.OutOfMemory can f = refl

pub finished : (content : List ℕ) (p : Plan) (s : Signatures) (e : PrepareError) → CanPrepare content p → AreShort s → FinishFails content p s e → e ≡ errors.OutOfMemory
finished content p s errors.TooLong can short (inl f) = prepared content p errors.TooLong can f
finished content p s errors.TooLong can short (inr f) = absurd (f.1 short)
finished content p s errors.Moment can short f = prepared content p errors.Moment can f
finished content p s errors.IncompatibleKey can short f = prepared content p errors.IncompatibleKey can f
finished content p s errors.KeyReused can short f = prepared content p errors.KeyReused can f
finished content p s (errors.Uri e) can short f = prepared content p (errors.Uri e) can f
finished content p s errors.OutOfMemory can short f = refl

pub anchor_prepared : (key : KeyFields) (e : PrepareError) → CanPrepareAnchor key → PrepareAnchorFails key e → e ≡ errors.OutOfMemory
anchor_prepared key errors.TooLong can f = absurd (f can.within)
anchor_prepared key errors.IncompatibleKey can f = absurd (f.1 can.format)
anchor_prepared key errors.Moment can f = absurd f
anchor_prepared key errors.KeyReused can f = absurd f
anchor_prepared key (errors.Uri e) can f = absurd f
anchor_prepared key errors.OutOfMemory can f = refl

pub anchor_finished : (key : KeyFields) (signature : List ℕ) (e : PrepareError) → CanPrepareAnchor key → IsShort signature → FinishAnchorFails key signature e → e ≡ errors.OutOfMemory
anchor_finished key signature errors.TooLong can short (inl f) = anchor_prepared key errors.TooLong can f
anchor_finished key signature errors.TooLong can short (inr f) = absurd (f.1 short)
anchor_finished key signature errors.IncompatibleKey can short f = anchor_prepared key errors.IncompatibleKey can f
anchor_finished key signature errors.Moment can short f = absurd f
anchor_finished key signature errors.KeyReused can short f = absurd f
anchor_finished key signature (errors.Uri e) can short f = absurd f
anchor_finished key signature errors.OutOfMemory can short f = refl

none_some : (e : Error) → ◌≡◌ {A = Option Error} None (Some e) → ⊥
none_some e k = cc

pub request_prepared : (p : RequestPlan) (e : PrepareError) → CanPrepareRequest p → PrepareRequestFails p e → e ≡ errors.OutOfMemory
request_prepared p errors.TooLong can f = absurd (f can.within)
request_prepared p errors.IncompatibleKey can f = absurd (f.1 can.format)
request_prepared p (errors.Uri e) can f = absurd (none_some e (sym can.lawful ∙ f.3))
request_prepared p errors.Moment can f = absurd f
request_prepared p errors.KeyReused can f = absurd f
request_prepared p errors.OutOfMemory can f = refl

pub request_finished : (p : RequestPlan) (signature : List ℕ) (e : PrepareError) → CanPrepareRequest p → IsShort signature → FinishRequestFails p signature e → e ≡ errors.OutOfMemory
request_finished p signature errors.TooLong can short (inl f) = request_prepared p errors.TooLong can f
request_finished p signature errors.TooLong can short (inr f) = absurd (f.1 short)
request_finished p signature errors.IncompatibleKey can short f = request_prepared p errors.IncompatibleKey can f
request_finished p signature (errors.Uri e) can short f = request_prepared p (errors.Uri e) can f
request_finished p signature errors.Moment can short f = absurd f
request_finished p signature errors.KeyReused can short f = absurd f
request_finished p signature errors.OutOfMemory can short f = refl
