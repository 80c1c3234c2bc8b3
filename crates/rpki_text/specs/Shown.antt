-- What errors print.
use Rattle.std.specs.Prelude.{ℕ, List, codes}
use Rattle.rpki_text.specs.declared.handles.InvalidHandle.{InvalidHandle}
use Rattle.rpki_text.specs.declared.handles.InvalidHandle.TheVariants.{Pattern, OutOfMemory}

-- the text that each error of a handle prints
abbrev pub shown_invalid_handle : InvalidHandle → List ℕ
shown_invalid_handle Pattern = codes "Handle MUST have pattern: [-_A-Za-z0-9/]{1,255}"
shown_invalid_handle OutOfMemory = codes "out of memory"
