use Rattle.std.proofs.Common.{◌≡◌, drop}
use Rattle.std.specs.List.{list_any}
use Rattle.std.specs.Prelude.{bytes_eq}
use Rattle.rpki_sigmsg.proofs.revoked.RevokedCertificates.contains.Given as goal

abbrev pub invariant-loop-entry : goal.invariant-loop-entry
invariant-loop-entry l = list_any (λ e. bytes_eq e.user_certificate l.fn.serial) (drop l.entry-index l.entry-items) ≡ list_any (λ e. bytes_eq e.user_certificate l.fn.serial) l.entry-items
