use Rattle.std.proofs.Common.{◌∙◌, sym}
use Rattle.rpki_sets.proofs.ItemLemmas.{item_prefix, item_no_prefix, item_range}
use Rattle.rpki_sets.proofs.item.read_item.Goals as goal

pub returns-then-not-has_prefixes : goal.returns-then-not-has_prefixes
returns-then-not-has_prefixes g c = c.read_range.ensures ∙ item_range _ _ (sym c.if-not-has_prefixes.ensures)

pub returns-in-Some : goal.returns-in-Some
returns-in-Some g c = c.read_prefix.ensures ∙ item_prefix _ _ _ (sym c.if-not-has_prefixes.ensures) c.in-Some.ensures.some

pub returns-in-None : goal.returns-in-None
returns-in-None g c = c.read_range-in-None.ensures ∙ item_no_prefix _ _ (sym c.if-not-has_prefixes.ensures) c.in-None.ensures.none
