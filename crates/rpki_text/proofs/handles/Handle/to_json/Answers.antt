use Rattle.std.specs.Prelude.{Some, string_bytes}
use Rattle.std.proofs.Common.{◌≡◌, refl}
use Rattle.std.proofs.lemmas.Result.{IfOk-weaker}
use Rattle.rpki_text.specs.Json.{string_of_json}
use Rattle.rpki_text.specs.Handle.{IsHandle, handle_of_json}
use Rattle.rpki_text.proofs.HandleLaws.{handle_of_json-some}
use Rattle.rpki_text.proofs.handles.Handle.to_json.Goals as goal

pub returns-clause-again : goal.returns-clause-again
returns-clause-again g c =
    IfOk-weaker c.write_string.result (λ s. string_of_json (string_bytes s) ≡ Some c.as_str.result.now)
    (λ s. IsHandle c.args.self.now → handle_of_json (string_bytes s) ≡ Some c.args.self.now)
    (λ s e h. handle_of_json-some _ _ _ (rw c.as_str.ensures at e) refl h) c.write_string.ensures.again
