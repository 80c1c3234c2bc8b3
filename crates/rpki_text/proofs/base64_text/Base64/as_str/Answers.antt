use Rattle.rpki_text.proofs.Base64Laws.{held_again}
use Rattle.rpki_text.proofs.base64_text.Base64.as_str.Goals as goal

pub returns-clause-again : goal.returns-clause-again
returns-clause-again c = held_again c.self.inside.text _ c.args.self.now c.self.invariant c.self.view_is c.as_str.ensures
