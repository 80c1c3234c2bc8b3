-- What a counted reading of octets says, and how often it ticks.
use Rattle.std.proofs.Common.{◌≡◌, ℕ, Option, Result, List, [], ap}
use Rattle.rpki_der.specs.declared.error.DecodeError.{DecodeError}
use Rattle.rpki_der.specs.declared.mode.Mode.{Mode}
use Rattle.rpki_der.specs.Position.{Position}
use Rattle.rpki_der.specs.Ticks.{TakesCounted, DecodesCounted}
use Rattle.rpki_der.specs.Value.{Value}
use Rattle.rpki_der.proofs.Counting.{decodes}
use Rattle.rpki_der.proofs.Modes.{all_in}

pub counted_message : {X Y : Type 0} (grammar : Mode → Value → Option X) (mode : Mode) (octets : List ℕ) (old new : Position) (view : Y → X) (b a : ℕ) (r : Result Y DecodeError) → old ≡ record { mode = mode; here = octets; levels = [] } → TakesCounted 3 (grammar old.mode) view old new b a r → DecodesCounted 3 (grammar mode) view mode octets b a r
counted_message grammar mode octets old new view b a r e t = decodes 3 (grammar mode) view mode octets old new b a r e (all_in 3 grammar view mode old new b a r (ap (λ (p : Position). p.mode) e) t)
