use Rattle.std.proofs.Common.{[], ◌++◌, sym, ap, ◌∙◌, append_assoc, append-nil, rules}
use Rattle.std.proofs.Output.{has_written_append, has_written_of_eq, writes_in_calls_nil}
use Rattle.std.proofs.Math.Utf8.{encode}
use Rattle.std.proofs.lemmas.List.{nil_from_length}
use Rattle.rpki_xml.specs.Spelling.{spelled_value}
use Rattle.rpki_xmltext.proofs.Characters.{spelled_value-append}
use Rattle.rpki_xmltext.proofs.printing.write_value.Goals as goal

pub loop-c-init : goal.loop-c-init
unfolding spelled_value
loop-c-init g c = λ plain. ([], record { wrote = writes_in_calls_nil _ _; plain = plain }, search rules)

pub loop-c-preserved : goal.loop-c-preserved
loop-c-preserved g c =
    λ plain.
    let now = c.loop-c.invariant plain in
    let ch = c.in-Some.c in (
      now.0 ++ encode ch,
      has_written_of_eq _ _ _ _ _ (sym (spelled_value-append now.0 (encode ch))) (has_written_append _ _ _ _ _ _ now.1 (c.write_character.ensures now.1.plain (search rules))),
      append_assoc now.0 (encode ch) _ ∙ ap (λ l. now.0 ++ l) (sym c.in-Some.ensures.steps.0) ∙ now.2,
    )

pub returns : goal.returns
returns g c =
    λ plain ok.
    let now = c.loop-c.invariant plain in
    let none = nil_from_length _ c.in-None.ensures.steps.0.0 in
    has_written_of_eq _ _ _ _ _ (ap spelled_value (sym (append-nil now.0) ∙ ap (λ l. now.0 ++ l) (sym none) ∙ now.2)) now.1
