use Rattle.std.specs.Prelude.{List, ℕ, Some, string_bytes}
use Rattle.std.proofs.Common.{◌≡◌, sym}
use Rattle.std.proofs.lemmas.Result.{IfOk-weaker}
use Rattle.rpki_text.specs.Json.{string_of_json}
use Rattle.rpki_setup.specs.ServiceUri.{service_uri_of_text, service_uri_of_json}
use Rattle.rpki_setup.proofs.Services.{string_is}
use Rattle.rpki_setup.proofs.service_uri.ServiceUri.to_json.Goals as goal

pub returns-clause-again : goal.returns-clause-again
returns-clause-again c =
    IfOk-weaker c.write_string.result (λ s. string_of_json (string_bytes s) ≡ Some c.as_str.result.now)
    (λ s. (text : List ℕ) → service_uri_of_text text ≡ Some c.args.self.now → service_uri_of_json (string_bytes s) ≡ Some c.args.self.now)
    (λ s e text h. string_is _ _ _ _ e (sym c.as_str.ensures) (c.printed_service_uri_is_read.ensures text c.args.self.now h)) c.write_string.ensures.again
