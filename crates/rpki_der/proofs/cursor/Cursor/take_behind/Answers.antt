use Rattle.std.proofs.Common.{arith}
use Rattle.rpki_der.proofs.Stops.{stops_first}
use Rattle.rpki_der.proofs.cursor.Cursor.take_behind.Goals as goal

pub returns-in-None-clause-stopped : goal.returns-in-None-clause-stopped
returns-in-None-clause-stopped g c = stops_first 0 _ _ _ _ _ (omega arith)
