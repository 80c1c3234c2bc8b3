use Rattle.std.proofs.Common.{◌∙◌, rules}
use Rattle.rpki_base.proofs.Choosing.{utc_whole, generalized_whole, neither_whole}
use Rattle.rpki_base.proofs.time.Time.take.Goals as goal

pub returns-in-Some : goal.returns-in-Some
returns-in-Some c = c.utc_time.ensures ∙ utc_whole c.args.mode c.args.octets.now c.in-Some.text.now c.in-Some.ensures

pub returns-in_err-text-in-None : goal.returns-in_err-text-in-None
returns-in_err-text-in-None c = let n = neither_whole c.args.mode c.args.octets.now c.in-None.ensures c.in_err-text-in-None.ensures in search rules

pub returns-in_ok-text-in-None : goal.returns-in_ok-text-in-None
returns-in_ok-text-in-None c = c.generalized_time.ensures ∙ generalized_whole c.args.mode c.args.octets.now c.in_ok-text-in-None.text.now c.in-None.ensures c.in_ok-text-in-None.ensures
