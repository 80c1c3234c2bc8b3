use Rattle.std.proofs.Common.{◌≡◌, ◌<◌, ℕ, None}
use Rattle.rpki_text.specs.Uri.{rsync, fault_of}
use Rattle.rpki_ca.specs.Summary.{uri_at, changes}
use Rattle.rpki_ca.proofs.make_line.made_message.Given as goal

abbrev pub invariant-loop-place : goal.invariant-loop-place
invariant-loop-place l = (l.delta ≡ changes l.seed l.place) × ((i : ℕ) → i < l.place → fault_of rsync (uri_at i) ≡ None)
