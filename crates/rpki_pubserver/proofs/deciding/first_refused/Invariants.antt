use Rattle.std.proofs.Common.{◌≤◌, ◌-◌, length}
use Rattle.rpki_pubserver.specs.Deciding.{AgreesOn}
use Rattle.rpki_pubserver.specs.Store.{IsStore, Store}
use Rattle.rpki_pubserver.proofs.Decided.{AreDecided}
use Rattle.rpki_pubserver.proofs.deciding.first_refused.Given as goal

-- the first changes are made of every store of which what is told is so
abbrev pub invariant-deciding : goal.invariant-deciding
invariant-deciding l = record {
  within : l.place ≤ length l.changes;
  decided : (store : Store) → IsStore store → AgreesOn store l.initial.told l.changes → AreDecided l.base store l.changes l.place l.told;
}

abbrev pub decreases-deciding : goal.decreases-deciding
decreases-deciding l = length l.changes - l.place
