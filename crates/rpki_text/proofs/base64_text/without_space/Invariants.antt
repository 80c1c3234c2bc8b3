use Rattle.std.proofs.Common.{◌≡◌, take, filter}
use Rattle.rpki_text.specs.Base64.{is_not_space}
use Rattle.rpki_text.proofs.base64_text.without_space.Given as goal

abbrev pub invariant-loop-octet : goal.invariant-loop-octet
invariant-loop-octet l = l.kept.items ≡ filter is_not_space (take l.octet-index l.text)
