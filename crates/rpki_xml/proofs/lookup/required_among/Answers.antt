use Rattle.std.proofs.Common.{ap, ◌∙◌}
use Rattle.std.proofs.lemmas.Result.{err_from_is_err_and}
use Rattle.std.specs.Option.{option_copied}
use Rattle.std.specs.Prelude.{filter}
use Rattle.rpki_xml.specs.Kept.{attributes_of}
use Rattle.rpki_xml.specs.Tables.{is_called}
use Rattle.rpki_xml.proofs.Found.{the_one_is, the_one_fails}
use Rattle.rpki_xml.proofs.lookup.required_among.Goals as goal

pub returns-in_err-optional_among : goal.returns-in_err-optional_among
returns-in_err-optional_among c =
    let p = err_from_is_err_and c.from_residual.result c.from_residual.ensures.1 in
    rw p.1 (the_one_fails (filter (is_called c.args.local.now) (attributes_of c.args.source.now c.args.attributes.now)) c.in_err-optional_among.ensures)

pub returns-in-None : goal.returns-in-None
returns-in-None c = the_one_is (filter (is_called c.args.local.now) (attributes_of c.args.source.now c.args.attributes.now)) (option_copied c.in_ok-optional_among.field-0) c.in_ok-optional_among.ensures ∙ ap option_copied c.in-None.is

pub returns-in-Some : goal.returns-in-Some
returns-in-Some c = the_one_is (filter (is_called c.args.local.now) (attributes_of c.args.source.now c.args.attributes.now)) (option_copied c.in_ok-optional_among.field-0) c.in_ok-optional_among.ensures ∙ ap option_copied c.in-Some.is
