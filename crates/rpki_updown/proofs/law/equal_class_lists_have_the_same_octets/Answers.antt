use Rattle.rpki_updown.proofs.Equal.{lists_alike}
use Rattle.rpki_updown.proofs.law.equal_class_lists_have_the_same_octets.Goals as goal

pub returns : goal.returns
returns c = lists_alike _ _ c.equal_classes_have_the_same_octets.ensures.class_of
