use Rattle.std.proofs.Common.{◌∙◌}
use Rattle.rpki_sets.proofs.ItemLemmas.{prefix_address_none, prefix_len_none, prefix_some}
use Rattle.rpki_sets.proofs.item.read_prefix.Goals as goal

pub returns-in_err-address : goal.returns-in_err-address
returns-in_err-address g c =
    c.from_residual.ensures ∙ prefix_address_none g.N.Numbers.kind c.args.address.now c.args.len.now c.in_err-address.ensures

pub returns-in_err-len : goal.returns-in_err-len
returns-in_err-len g c =
    c.from_residual-in_err-len.ensures
    ∙ prefix_len_none g.N.Numbers.kind c.args.address.now c.args.len.now _ _ _ c.in_ok-address.ensures c.width-width.ensures c.from.ensures c.in_err-len.ensures.number

pub returns : goal.returns
returns g c =
    prefix_some g.N.Numbers.kind c.args.address.now c.args.len.now _ _ _ _ _ c.prefix.ensures c.in_ok-address.ensures c.width-width.ensures c.from.ensures c.in_ok-len.ensures.number
