use Rattle.std.proofs.Common.{Some, None, ◌+◌}
use Rattle.rpki_text.proofs.UriLaws.{rest_of, slash_told, cut_at, not_cut}
use Rattle.rpki_text.proofs.uri.cut.Goals as goal

pub returns-in-Some-clause-parts : goal.returns-in-Some-clause-parts
returns-in-Some-clause-parts c =
    let told = slash_told c.args.text.now (Some c.in-Some.at) c.in-Some.ensures in
    rw (rest_of (c.in-Some.at + 1) c.args.text.now) (cut_at c.args.text.now c.in-Some.at told.0 (rw told.0 told.1))

pub returns-in-None-clause-parts : goal.returns-in-None-clause-parts
returns-in-None-clause-parts c = not_cut c.args.text.now (slash_told c.args.text.now None c.in-None.ensures)
