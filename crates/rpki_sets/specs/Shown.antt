-- What errors print.
use Rattle.std.specs.Prelude.{ℕ, List, codes}
use Rattle.rpki_sets.specs.declared.error.BlocksError.{BlocksError}
use Rattle.rpki_sets.specs.declared.error.BlocksError.TheVariants as errors

-- the text that each error prints
abbrev pub shown_error : BlocksError → List ℕ
shown_error errors.Malformed = codes "malformed blocks"
shown_error errors.OutOfMemory = codes "out of memory"
