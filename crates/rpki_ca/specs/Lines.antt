-- Lines: an input cut into them, a line cut into words, and what a program writes that answers line
-- by line.
use Rattle.std.specs.Prelude.{◌≡◌, ◌≢◌, ◌==◌, ◌<◌, ◌≤◌, ◌^◌, ◌⊎◌, ℕ, Bool, true, false, Option, List, [], ◌∷◌, ◌++◌, Result, Ok, Err, length}
use Rattle.std.specs.List.{AllByRecursion, slice_split, flat_map}
use Rattle.std.specs.Io.{StartsWith}
use Rattle.std.specs.Io.KnownBytes.{Appends, IsAtEnd}
use Rattle.rpki_common.specs.Limits.{most_input}
use Rattle.rpki_text.specs.Sink.{AppendsPart}
use Rattle.rpki_ca.specs.declared.refusals.Refusal.{Refusal}
use Rattle.rpki_ca.specs.declared.refusals.Refusal.TheVariants.{OutOfMemory}
use Rattle.rpki_ca.specs.declared.lines.Stop.{Stop}
use Rattle.rpki_ca.specs.declared.lines.Stop.TheVariants.{Refused, WriteFault}
use Rattle.rpki_ca.specs.Refusal.{status_of}
use Rattle.rpki_ca.specs.Answer.{line_of, Ends, IsUnread}
use Rattle.rpki_text.specs.Source.{OfInput}
use Rattle.rpki_ca.specs.Seen.{Seen, HasFailed, IsSteady}

-- ---- what is read

-- the pieces between the octets that are the separator: one more than there are of these, and each
-- may be empty
abbrev pub pieces_of : ℕ → List ℕ → List (List ℕ)
pieces_of separator octets = slice_split (λ octet. octet == separator) octets

-- pieces without the last one if that is empty
abbrev pub without_empty_end : List (List ℕ) → List (List ℕ)
without_empty_end [] = []
without_empty_end ([] ∷ []) = []
without_empty_end (piece ∷ pieces) = piece ∷ without_empty_end pieces

-- The lines of an input: it is cut at each line feed, and a last piece that is empty is no line. So
-- the last line may lack its line feed.
abbrev pub lines_of : List ℕ → List (List ℕ)
lines_of input = without_empty_end (pieces_of 10 input)

-- the words of a line, between which one space stands
abbrev pub words_of : List ℕ → List (List ℕ)
words_of line = pieces_of 32 line

-- ---- what is written

-- the answers, each on a line of its own
abbrev pub answer_lines : List (List ℕ) → List ℕ
answer_lines answers = flat_map (λ answer. answer ++ 10 ∷ []) answers

-- The input is these lines, of which none holds a line feed, each with one behind it; behind the
-- last one it may be missing.
pub record AreLines (input : List ℕ) (lines : List (List ℕ)) : Type 0 where
  pub are : (answer_lines lines ≡ input) ⊎ (answer_lines lines ≡ input ++ 10 ∷ [])
  pub whole : AllByRecursion (λ line. AllByRecursion (λ octet. octet ≢ 10) line) lines

-- an answer to a question as a digit, 1 for yes
abbrev pub digit_of : Bool → ℕ
digit_of true = 49
digit_of false = 48

-- The output is written whole, with the status; or a part of it, and the status is 11, where the
-- sink's count rose.
abbrev pub EndsWith : ℕ → List ℕ → ℕ → Seen → Type 0
EndsWith wanted output status sink =
    ((status ≡ wanted) × Appends sink.before sink.after output × IsSteady sink)
    ⊎ ((status ≡ 11) × AppendsPart sink.before sink.after output × HasFailed sink)

-- The octets written grew by all of the answers, and by some front of the rest behind them, and not
-- by all of it.
abbrev pub AppendsBehind : Option (List ℕ) → Option (List ℕ) → List (List ℕ) → List ℕ → Type 0
AppendsBehind before after texts rest =
    (front : List ℕ) × StartsWith rest front × (length front < length rest)
    × Appends before after (answer_lines texts ++ front)

-- The answers and the rest are written whole, with the status; or the answers and a part of the
-- rest, and the status is 11, where the sink's count rose.
abbrev pub EndsBehind : ℕ → List (List ℕ) → List ℕ → ℕ → Seen → Type 0
EndsBehind wanted texts rest status sink =
    ((status ≡ wanted) × Appends sink.before sink.after (answer_lines texts ++ rest)
    × IsSteady sink)
    ⊎ ((status ≡ 11) × AppendsBehind sink.before sink.after texts rest × HasFailed sink)

-- What is written behind answers to lines. Of texts `all` says that they are the answers to all
-- lines, with this closing text; `first` that they are the answers to the first lines, and that
-- nothing was done for a line behind them; and `stops` that they are so, and that for this refusal
-- no more lines are answered.
--
-- With 0 the answers to all lines were written, and the closing text.
pub record EndsDone (all : List (List ℕ) → List ℕ → Type 0) (status : ℕ) (sink : Seen) : Type 0
  where
    pub texts : List (List ℕ)
    pub closing : List ℕ
    pub are : all texts closing
    pub ends : EndsBehind 0 texts closing status sink

-- With the status of a refusal the answers to the first lines were written, and the refusal's line.
pub record EndsRefused (stops : List (List ℕ) → Refusal → Type 0) (status : ℕ) (sink : Seen)
    : Type 0 where
  pub texts : List (List ℕ)
  pub refusal : Refusal
  pub stopped : stops texts refusal
  pub ends : EndsBehind (status_of refusal) texts (line_of (Err refusal)) status sink

-- With 11 the sink failed: the answers to the first lines were written, and a part of the line with
-- the answer to the next one, which is the last.
pub record EndsFailed (first : List (List ℕ) → Type 0) (status : ℕ) (sink : Seen) : Type 0 where
  pub texts : List (List ℕ)
  pub last : List ℕ
  pub are : first (texts ++ last ∷ [])
  pub is : status ≡ 11
  pub part : AppendsBehind sink.before sink.after texts (last ++ 10 ∷ [])
  pub failed : HasFailed sink

-- how a program ends that answers line by line, and what it wrote then
abbrev pub EndsLines : (List (List ℕ) → List ℕ → Type 0) → (List (List ℕ) → Type 0)
    → (List (List ℕ) → Refusal → Type 0) → ℕ → Seen → Type 0
EndsLines all first stops status sink =
    EndsDone all status sink
    ⊎ (EndsRefused stops status sink ⊎ EndsFailed first status sink)

-- the texts are the answers to the first lines, and for want of memory no more lines are answered
abbrev pub StopsForMemory : (List (List ℕ) → Type 0) → List (List ℕ) → Refusal → Type 0
StopsForMemory first texts refusal = first texts × (refusal ≡ OutOfMemory)

-- The input isn't read whole, and the program ends with the cause of that.
pub record EndsUnread (status : ℕ) (source sink : Seen) : Type 0 where
  pub refusal : Refusal
  pub unread : IsUnread source refusal
  pub ends : Ends (Err refusal) status sink

-- The input, of at most 2^26 octets, is read up to its end, and the program ends on it as `ends_on`
-- says.
pub record EndsRead (ends_on : List ℕ → Type 0) (source : Seen) : Type 0 where
  pub steady : IsSteady source
  pub whole : IsAtEnd source.after
  pub ends : OfInput source.before (λ input. (length input ≤ most_input) × ends_on input)

-- how a program ends that reads its input whole
abbrev pub EndsRun : (List ℕ → Type 0) → ℕ → Seen → Seen → Type 0
EndsRun ends_on status source sink = EndsUnread status source sink ⊎ EndsRead ends_on source

-- ---- what was written before the program ends; `EndsLines` says what was when it ended

-- the answers to all lines were written, and the closing text
pub record WroteAll (all : List (List ℕ) → List ℕ → Type 0) (sink : Seen) : Type 0 where
  pub texts : List (List ℕ)
  pub closing : List ℕ
  pub are : all texts closing
  pub whole : Appends sink.before sink.after (answer_lines texts ++ closing)
  pub steady : IsSteady sink

-- the answers to the first lines were written, and the program stops with the refusal
pub record WroteFirst (stops : List (List ℕ) → Refusal → Type 0) (refusal : Refusal) (sink : Seen)
    : Type 0 where
  pub texts : List (List ℕ)
  pub stopped : stops texts refusal
  pub whole : Appends sink.before sink.after (answer_lines texts)
  pub steady : IsSteady sink

-- the answers to the first lines were written, and a part of the line with the next one, where the
-- sink failed
pub record FailedFirst (first : List (List ℕ) → Type 0) (sink : Seen) : Type 0 where
  pub texts : List (List ℕ)
  pub last : List ℕ
  pub are : first (texts ++ last ∷ [])
  pub part : AppendsBehind sink.before sink.after texts (last ++ 10 ∷ [])
  pub failed : HasFailed sink

-- all answers were written, and a part of the closing text, where the sink failed
pub record FailedAll (all : List (List ℕ) → List ℕ → Type 0) (sink : Seen) : Type 0 where
  pub texts : List (List ℕ)
  pub closing : List ℕ
  pub are : all texts closing
  pub part : AppendsBehind sink.before sink.after texts closing
  pub failed : HasFailed sink

-- what was written where all lines were answered, or answering stopped for this cause
abbrev pub Answered : (List (List ℕ) → List ℕ → Type 0) → (List (List ℕ) → Type 0)
    → (List (List ℕ) → Refusal → Type 0) → Result (Unit {0}) Stop → Seen → Type 0
Answered all first stops (Ok done) sink = WroteAll all sink
Answered all first stops (Err (Refused refusal)) sink = WroteFirst stops refusal sink
Answered all first stops (Err WriteFault) sink = FailedFirst first sink ⊎ FailedAll all sink

-- how a program ends that stopped for this cause, behind what it wrote
abbrev pub EndsStopped : Stop → ℕ → Seen → Type 0
EndsStopped (Refused refusal) status sink = Ends (Err refusal) status sink
EndsStopped WriteFault status sink =
    (status ≡ 11) × (sink.after ≡ sink.before) × IsSteady sink
