-- What is written in pieces ends as a whole.
use Rattle.std.proofs.Common.{◌≡◌, ℕ, List, [], ◌∷◌, ◌++◌, Result, Ok, Err, sym, ap, subst, inl, inr, ◌∙◌}
use Rattle.std.specs.Prelude.{OnOk, IfErr, Option}
use Rattle.std.specs.Io.KnownBytes.{Appends}
use Rattle.std.proofs.KnownBytes.{Appends-trans}
use Rattle.std.proofs.lemmas.List.{flat_map_more}
use Rattle.rpki_common.specs.Causes.{Rose}
use Rattle.rpki_text.specs.Sink.{AppendsPart}
use Rattle.rpki_ca.specs.declared.refusals.Refusal.{Refusal}
use Rattle.rpki_ca.specs.declared.lines.Stop.{Stop}
use Rattle.rpki_ca.specs.declared.lines.Stop.TheVariants.{Refused, WriteFault}
use Rattle.rpki_ca.specs.Refusal.{status_of}
use Rattle.rpki_ca.specs.Answer.{line_of}
use Rattle.rpki_ca.specs.Seen.{seen, HasFailed, IsSteady}
use Rattle.rpki_ca.specs.Lines.{answer_lines, AppendsBehind, EndsBehind, EndsWith, EndsLines, EndsStopped, Answered}

-- a part of the rest behind answers that were written whole
pub part_behind : (a b c : Option (List ℕ)) (texts : List (List ℕ)) (rest : List ℕ) → Appends a b (answer_lines texts) → AppendsPart b c rest → AppendsBehind a c texts rest
part_behind a b c texts rest whole part = (part.0, part.1, part.2, Appends-trans a b c (answer_lines texts) part.0 whole part.3)

-- the line of one more answer
one_more : (texts : List (List ℕ)) (text : List ℕ) → answer_lines texts ++ (text ++ 10 ∷ []) ≡ answer_lines (texts ++ text ∷ [])
one_more texts text = flat_map_more (λ answer. answer ++ 10 ∷ []) [] texts text

-- what a sink was seen to do, from a to b and from there to c
module _ {X : Type 0} (written : X → Option (List ℕ)) (faults : X → ℕ) (a b c : X) where
  pub steady_both : IsSteady (seen written faults a b) → IsSteady (seen written faults b c) → IsSteady (seen written faults a c)
  steady_both one two = two ∙ one

  pub failed_later : IsSteady (seen written faults a b) → HasFailed (seen written faults b c) → HasFailed (seen written faults a c)
  failed_later one two = subst (λ (n : ℕ). Rose n (faults c)) one two

  -- an end behind what was written whole
  pub ends_behind : (wanted status : ℕ) (texts : List (List ℕ)) (rest : List ℕ) → Appends (written a) (written b) (answer_lines texts) → IsSteady (seen written faults a b)
      → EndsWith wanted rest status (seen written faults b c) → EndsBehind wanted texts rest status (seen written faults a c)
  ends_behind wanted status texts rest whole steady (inl e) =
      inl (e.0, Appends-trans (written a) (written b) (written c) (answer_lines texts) rest whole e.1, steady_both steady e.2)
  ends_behind wanted status texts rest whole steady (inr e) =
      inr (e.0, part_behind (written a) (written b) (written c) texts rest whole e.1, failed_later steady e.2)

  -- a program that answered line by line, and then ended where it stopped
  pub ends_lines : (all : List (List ℕ) → List ℕ → Type 0) (first : List (List ℕ) → Type 0) (stops : List (List ℕ) → Refusal → Type 0) (answered : Result (Unit {0}) Stop) (status : ℕ)
      → Answered all first stops answered (seen written faults a b) → OnOk answered ((status ≡ 0) × (c ≡ b))
      → IfErr answered (λ stop. EndsStopped stop status (seen written faults b c)) → EndsLines all first stops status (seen written faults a c)
  ends_lines all first stops (Ok done) status answered end stopped =
      let output : List ℕ = answer_lines answered.texts ++ answered.closing in
      let at = subst (λ (x : X). Appends (written a) (written x) output × IsSteady (seen written faults a x)) (sym end.1) (answered.whole, answered.steady) in
      inl (record { texts = answered.texts; closing = answered.closing; are = answered.are; ends = inl (end.0, at.0, at.1) })
  ends_lines all first stops (Err (Refused refusal)) status answered end stopped =
      inr (inl (record {
        texts = answered.texts;
        refusal = refusal;
        stopped = answered.stopped;
        ends = ends_behind (status_of refusal) status answered.texts (line_of (Err refusal)) answered.whole answered.steady stopped;
      }))
  ends_lines all first stops (Err WriteFault) status (inl early) end stopped =
      inr (inr (record {
        texts = early.texts;
        last = early.last;
        are = early.are;
        is = stopped.0;
        part = subst (λ (o : Option (List ℕ)). AppendsBehind (written a) o early.texts (early.last ++ 10 ∷ [])) (sym stopped.1) early.part;
        failed = subst (λ (n : ℕ). Rose (faults a) n) (sym stopped.2) early.failed;
      }))
  ends_lines all first stops (Err WriteFault) status (inr late) end stopped =
      let part = subst (λ (o : Option (List ℕ)). AppendsBehind (written a) o late.texts late.closing) (sym stopped.1) late.part in
      let failed = subst (λ (n : ℕ). Rose (faults a) n) (sym stopped.2) late.failed in
      inl (record { texts = late.texts; closing = late.closing; are = late.are; ends = inr (stopped.0, part, failed) })

  -- one more answer behind those that were written
  pub one_more_written : (texts : List (List ℕ)) (text line : List ℕ) → line ≡ text ++ 10 ∷ [] → Appends (written a) (written b) (answer_lines texts) → IsSteady (seen written faults a b)
      → Appends (written b) (written c) line → IsSteady (seen written faults b c) → Appends (written a) (written c) (answer_lines (texts ++ text ∷ [])) × IsSteady (seen written faults a c)
  one_more_written texts text line is whole steady more kept = (
    subst (λ (l : List ℕ). Appends (written a) (written c) l) (ap (λ (l : List ℕ). answer_lines texts ++ l) is ∙ one_more texts text) (Appends-trans (written a) (written b) (written c) (answer_lines texts) line whole more),
    steady_both steady kept,
  )

  -- a part of one more
  pub part_of_more : (texts : List (List ℕ)) (text line : List ℕ) → line ≡ text ++ 10 ∷ [] → Appends (written a) (written b) (answer_lines texts) → IsSteady (seen written faults a b)
      → AppendsPart (written b) (written c) line → HasFailed (seen written faults b c) → AppendsBehind (written a) (written c) texts (text ++ 10 ∷ []) × HasFailed (seen written faults a c)
  part_of_more texts text line is whole steady part failed = (
    part_behind (written a) (written b) (written c) texts (text ++ 10 ∷ []) whole (subst (λ (l : List ℕ). AppendsPart (written b) (written c) l) is part),
    failed_later steady failed,
  )
