-- The exit status and the name of each refusal.
use Rattle.std.specs.Prelude.{ℕ, List, ◌++◌, codes}
use Rattle.std.specs.Fmt.{signed_decimal}
use Rattle.rpki_ca.specs.Refusal.{status_of, name_of}
use Rattle.rpki_external.specs.declared.keys_refusal.KeysRefusal.{KeysRefusal}
use Rattle.rpki_external.specs.declared.keys_refusal.KeysRefusal.TheVariants.{General, OtherQuestions, Signature, NoTime, Replayed}

-- the exit status of each refusal
abbrev pub keys_status_of : KeysRefusal → ℕ
keys_status_of (General refusal) = status_of refusal
keys_status_of Signature = 6
keys_status_of OtherQuestions = 14
keys_status_of NoTime = 15
keys_status_of (Replayed last seen) = 15

-- the name of each refusal; behind Replayed stand the last time and the message's, in seconds since
-- 1970
abbrev pub keys_name_of : KeysRefusal → List ℕ
keys_name_of (General refusal) = name_of refusal
keys_name_of Signature = codes "Signature"
keys_name_of OtherQuestions = codes "OtherQuestions"
keys_name_of NoTime = codes "NoTime"
keys_name_of (Replayed last seen) =
    codes "Replayed " ++ (signed_decimal last ++ (codes " " ++ signed_decimal seen))
