use Rattle.rpki_external.proofs.Succeeding.{anchor_finished, anchor_prepared, finished, prepared, request_finished, request_prepared}
use Rattle.rpki_external.proofs.law.nothing_but_memory_is_wanting.Goals as goal

pub returns-clause-prepared : goal.returns-clause-prepared
returns-clause-prepared c = prepared

pub returns-clause-finished : goal.returns-clause-finished
returns-clause-finished c = finished

pub returns-clause-anchor_prepared : goal.returns-clause-anchor_prepared
returns-clause-anchor_prepared c = anchor_prepared

pub returns-clause-anchor_finished : goal.returns-clause-anchor_finished
returns-clause-anchor_finished c = anchor_finished

pub returns-clause-request_prepared : goal.returns-clause-request_prepared
returns-clause-request_prepared c = request_prepared

pub returns-clause-request_finished : goal.returns-clause-request_finished
returns-clause-request_finished c = request_finished
