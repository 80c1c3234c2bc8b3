-- What is written of an answer of the guard.
use Rattle.std.specs.Prelude.{ℕ, ℤ, Result, Ok, Err, List, ◌++◌, codes}
use Rattle.std.specs.Fmt.{decimal, signed_decimal}
use Rattle.rpki_replay.specs.declared.guard.GuardError.{GuardError}
use Rattle.rpki_replay.specs.declared.guard.GuardError.TheVariants.{Validation, NoTime, Replayed, OutOfMemory}

-- why a message isn't admitted, with the number of the check, or the last time and the message's
abbrev pub error_text : GuardError → List ℕ
error_text (Validation failed) = codes "Validation " ++ decimal failed.check
error_text NoTime = codes "NoTime"
error_text (Replayed last seen) =
    codes "Replayed " ++ (signed_decimal last ++ (codes " " ++ signed_decimal seen))
error_text OutOfMemory = codes "OutOfMemory"

-- what is answered to a message: that it is admitted, with its time, or why not
abbrev pub answer_text : Result ℤ GuardError → List ℕ
answer_text (Ok time) = codes "ok " ++ signed_decimal time
answer_text (Err error) = error_text error
