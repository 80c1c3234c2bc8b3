use Rattle.rpki_updown.proofs.LimitLaws.{names_are}
use Rattle.rpki_updown.proofs.limit_json.is_limit.Goals as goal

pub returns-in-Some : goal.returns-in-Some
returns-in-Some c = names_are _ _ _ c.in-Some.ensures c.have_limit_names.ensures
