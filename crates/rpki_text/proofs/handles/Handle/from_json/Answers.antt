use Rattle.std.proofs.Common.{Err, ap}
use Rattle.rpki_text.proofs.HandleLaws.{handle_of_json-some, handle_of_json-none}
use Rattle.rpki_text.proofs.handles.Handle.from_json.Goals as goal

pub returns-in-Ok-clause-name : goal.returns-in-Ok-clause-name
returns-in-Ok-clause-name g c =
    handle_of_json-some _ _ _ c.in_ok-name.ensures.ok (rw c.in-Ok.ensures.name c.as_str.ensures.value) (rw c.as_str.ensures.value at c.in-Ok.ensures.accepted)

pub returns-in-Err-Pattern-clause-malformed : goal.returns-in-Err-Pattern-clause-malformed
returns-in-Err-Pattern-clause-malformed g c =
    λ _. handle_of_json-none _ _ c.in_ok-name.ensures.ok (rw c.as_str.ensures.value at (c.in-Err-Pattern.ensures.pattern (ap Err c.in-Err-Pattern.field-0-is)))
