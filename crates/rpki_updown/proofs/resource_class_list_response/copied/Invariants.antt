use Rattle.std.proofs.Common.{◌≡◌, take}
use Rattle.rpki_updown.proofs.resource_class_list_response.copied.Given as goal

abbrev pub invariant-loop-class : goal.invariant-loop-class
invariant-loop-class l = l.copies.items ≡ take l.class-index l.fn.classes
