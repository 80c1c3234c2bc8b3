-- A grammar that depends on the mode, at the mode where the reading began.
use Rattle.std.proofs.Common.{◌≡◌, ℕ, Option, Result, List, [], ap, subst}
use Rattle.rpki_der.specs.declared.error.DecodeError.{DecodeError}
use Rattle.rpki_der.specs.declared.mode.Mode.{Mode}
use Rattle.rpki_der.specs.Value.{Value, Values}
use Rattle.rpki_der.specs.Position.{Position}
use Rattle.rpki_der.specs.Takes.{Takes, Decodes}
use Rattle.rpki_der.proofs.Reading.{decodes}
use Rattle.rpki_der.specs.Ticks.{CountedOne, CountedRefuses, CountedFields, CountedRefusesFields, CountedReads, CountedStops, TakesCounted, TakesRestCounted}

pub takes_in : {X : Type 0} (c : ℕ) (grammar : Mode → Value → Option X) (mode : Mode) (p q : Position) (b a : ℕ) (x : X) → p.mode ≡ mode → CountedOne c (grammar p.mode) p q b a x → CountedOne c (grammar mode) p q b a x
takes_in c grammar mode p q b a x e t = subst (λ (m : Mode). CountedOne c (grammar m) p q b a x) e t

pub refuses_in : {X : Type 0} (c : ℕ) (grammar : Mode → Value → Option X) (mode : Mode) (p : Position) (b a : ℕ) (error : DecodeError) → p.mode ≡ mode → CountedRefuses c (grammar p.mode) p b a error → CountedRefuses c (grammar mode) p b a error
refuses_in c grammar mode p b a error e n = subst (λ (m : Mode). CountedRefuses c (grammar m) p b a error) e n

pub reads_in : {X : Type 0} (c k : ℕ) (fields : Mode → Values → Option X) (mode : Mode) (p q : Position) (b a : ℕ) (x : X) → p.mode ≡ mode → CountedReads c k (fields p.mode) p q b a x → CountedReads c k (fields mode) p q b a x
reads_in c k fields mode p q b a x e r = subst (λ (m : Mode). CountedReads c k (fields m) p q b a x) e r

pub stops_in : {X : Type 0} (c k : ℕ) (fields : Mode → Values → Option X) (mode : Mode) (p : Position) (b a : ℕ) (error : DecodeError) → p.mode ≡ mode → CountedStops c k (fields p.mode) p b a error → CountedStops c k (fields mode) p b a error
stops_in c k fields mode p b a error e n = subst (λ (m : Mode). CountedStops c k (fields m) p b a error) e n

-- ---- fields that are not one value

pub part_in : {X : Type 0} (c k : ℕ) (fields : Mode → Values → Option (X × Values)) (mode : Mode) (p q : Position) (b a : ℕ) (x : X) → p.mode ≡ mode → CountedFields c k (fields p.mode) p q b a x → CountedFields c k (fields mode) p q b a x
part_in c k fields mode p q b a x e t = subst (λ (m : Mode). CountedFields c k (fields m) p q b a x) e t

pub refuses_part_in : {X : Type 0} (c k : ℕ) (fields : Mode → Values → Option (X × Values)) (mode : Mode) (p : Position) (b a : ℕ) (error : DecodeError) → p.mode ≡ mode → CountedRefusesFields c k (fields p.mode) p b a error → CountedRefusesFields c k (fields mode) p b a error
refuses_part_in c k fields mode p b a error e n = subst (λ (m : Mode). CountedRefusesFields c k (fields m) p b a error) e n

-- ---- a whole answer

pub all_in : {X Y : Type 0} (c : ℕ) (grammar : Mode → Value → Option X) (view : Y → X) (mode : Mode) (p q : Position) (b a : ℕ) (r : Result Y DecodeError) → p.mode ≡ mode → TakesCounted c (grammar p.mode) view p q b a r → TakesCounted c (grammar mode) view p q b a r
all_in c grammar view mode p q b a r e t = subst (λ (m : Mode). TakesCounted c (grammar m) view p q b a r) e t

pub rest_in : {X Y : Type 0} (c k : ℕ) (fields : Mode → Values → Option X) (view : Y → X) (mode : Mode) (p q : Position) (b a : ℕ) (r : Result Y DecodeError) → p.mode ≡ mode → TakesRestCounted c k (fields p.mode) view p q b a r → TakesRestCounted c k (fields mode) view p q b a r
rest_in c k fields view mode p q b a r e t = subst (λ (m : Mode). TakesRestCounted c k (fields m) view p q b a r) e t

-- ---- a cursor before the first value

pub decodes_in : {X Y : Type 0} (grammar : Mode → Value → Option X) (view : Y → X) (mode : Mode) (octets : List ℕ) (old new : Position) (r : Result Y DecodeError) → old ≡ record { mode = mode; here = octets; levels = [] } → Takes (grammar old.mode) view old new r → Decodes (grammar mode) view mode octets r
decodes_in grammar view mode octets old new r e t =
    decodes (grammar mode) view mode octets old new r e (subst (λ (m : Mode). Takes (grammar m) view old new r) (ap (λ (p : Position). p.mode) e) t)
