use Rattle.rpki_xml.specs.Kept.{kept_text}
use Rattle.rpki_xml.specs.Views.{parts_of, parts_in}
use Rattle.rpki_xml.proofs.Apart.{run_put}
use Rattle.rpki_xml.proofs.stack.with_run.Goals as goal

pub returns : goal.returns
returns c =
    run_put c.args.source.now (kept_text c.args.source.now c.in_ok-joined.joined) (kept_text c.args.source.now c.args.run) (parts_of c.args.source.now c.taken_apart-text.result.0 c.taken_apart-text.result.1 c.taken_apart-text.result.2.items) (parts_in c.args.source.now c.args.rest)
    c.rest_of.result c.in_ok-joined.ensures (c.taken_apart-text.ensures c.args.source.now) (c.rest_of.ensures c.args.source.now)
