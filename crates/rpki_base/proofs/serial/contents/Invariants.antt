use Rattle.std.proofs.Common.{◌≡◌, ◌<◌, length, get_or, drop}
use Rattle.rpki_base.specs.Serial.{significant, unsigned_content, serial_content}
use Rattle.rpki_base.proofs.serial.contents.Given as goal

-- only zeros that can go were passed
abbrev pub invariant-loop-start : goal.invariant-loop-start
invariant-loop-start l = (length l.longer ≡ 21) × (get_or l.longer l.start 0 < 128) × (unsigned_content (significant (drop l.start l.longer)) ≡ serial_content l.octets)
