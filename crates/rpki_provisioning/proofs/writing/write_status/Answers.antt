use Rattle.std.proofs.Common.{◌∙◌, Some, ap, sym}
use Rattle.std.specs.Fmt.{decimal}
use Rattle.std.proofs.lemmas.Result.{on_ok_weaker}
use Rattle.rpki_provisioning.proofs.Writings.{status_written, status_alone, described}
use Rattle.rpki_provisioning.proofs.writing.write_status.Goals as goal

pub returns-in-None : goal.returns-in-None
returns-in-None c =
    status_alone c.args.response.now _ _ (sym c.in-None.ensures)
    (status_written c.args.response.now.status _ _ _ _ _ (c.as_str.ensures.value ∙ c.in_ok-status.ensures.ok ∙ ap decimal c.status.ensures)
    c.in_ok-element.ensures.ok c.in_ok-text.ensures.ok c.in_ok-close.ensures.ok)

pub returns : goal.returns
returns c =
    on_ok_weaker c.close-in-Some.result
    (described c.args.response.now _ _ _ _ _ _ (sym c.in-Some.ensures ∙ ap Some (sym c.as_str-in-Some.ensures.value))
    (status_written c.args.response.now.status _ _ _ _ _ (c.as_str.ensures.value ∙ c.in_ok-status.ensures.ok ∙ ap decimal c.status.ensures)
    c.in_ok-element.ensures.ok c.in_ok-text.ensures.ok c.in_ok-close.ensures.ok)
    c.in_ok-element-in-Some.ensures.ok c.in_ok-text-in-Some.ensures.ok)
    c.close-in-Some.ensures.ok
