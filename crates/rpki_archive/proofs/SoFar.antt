-- Lines answered one behind the other.
use Rattle.std.proofs.Common.{◌≡◌, ◌+◌, ◌<◌, ◌≤◌, ◌^◌, ℕ, suc, Bool, true, false, List, [], ◌∷◌, ◌++◌, length, map, take, Option, Result, Ok, Err, is_ok, if◌then◌else◌, refl, sym, ap, subst, ◌∙◌, arith, length-append}
use Rattle.std.specs.Io.KnownBytes.{Appends}
use Rattle.std.proofs.lemmas.List.{append_assoc, append-nil, length-map}
use Rattle.rpki_base.specs.Scheme.{Relation}
use Rattle.rpki_ca.specs.Lines.{answer_lines, lines_of}
use Rattle.rpki_ca.specs.declared.refusals.Refusal.{Refusal}
use Rattle.rpki_archive.specs.Explanation.{AreExplanations, IsExplanation}
use Rattle.rpki_archive.specs.Verdict.{AreLineAnswers, IsLineAnswer, accepted_of, total_of, verdict_text}
use Rattle.rpki_archive.specs.Checking.{AreAllExplanations, AreAllVerdicts, AreFirstExplanations, AreFirstVerdicts, IsArchiveTask, task_word}
use Rattle.rpki_archive.specs.declared.checking.Task.{Task}
use Rattle.rpki_archive.specs.declared.checking.Task.TheVariants.{Batch, Explain}
use Rattle.rpki_archive.specs.Lines.{IsLine}
use Rattle.rpki_archive.proofs.Cut.{at_one, lines_are, lines_few}

-- ---- the lines that are behind

one_behind : (before : List (List ℕ)) (line : List ℕ) (behind next all : List (List ℕ)) → before ++ behind ≡ all → behind ≡ line ∷ next → before ++ line ∷ next ≡ all
one_behind before line behind next all e f = ap (λ (l : List (List ℕ)). before ++ l) (sym f) ∙ e

pub line_is : (input : List ℕ) (before : List (List ℕ)) (line : List ℕ) (behind next : List (List ℕ)) → length input ≤ 2 ^ 26 → before ++ behind ≡ lines_of input → behind ≡ line ∷ next → IsLine line
line_is input before line behind next le e f = at_one IsLine before line next (lines_of input) (one_behind before line behind next (lines_of input) e f) (lines_are input le)

more_before : (before : List (List ℕ)) (line : List ℕ) (behind next all : List (List ℕ)) → before ++ behind ≡ all → behind ≡ line ∷ next → (before ++ line ∷ []) ++ next ≡ all
more_before before line behind next all e f = append_assoc before (line ∷ []) next ∙ one_behind before line behind next all e f

take_front : {X : Type 0} (xs ys : List X) → take (length xs) (xs ++ ys) ≡ xs
take_front [] ys = refl
take_front (x ∷ xs) ys = ap (λ l. x ∷ l) (take_front xs ys)

first_of : (n : ℕ) (before behind all : List (List ℕ)) → n ≡ length before → before ++ behind ≡ all → take n all ≡ before
first_of n before behind all count e = ap (λ (l : List (List ℕ)). take n l) (sym e) ∙ ap (λ (m : ℕ). take m (before ++ behind)) count ∙ take_front before behind

-- ---- explanations

pub explained_count : (scheme : Relation) (lines texts : List (List ℕ)) → AreExplanations scheme lines texts → length texts ≡ length lines
explained_count scheme [] [] are = refl
explained_count scheme [] (t ∷ texts) are = absurd are
explained_count scheme (l ∷ lines) [] are = absurd are
explained_count scheme (l ∷ lines) (t ∷ texts) are = ap (λ (n : ℕ). suc n) (explained_count scheme lines texts are.1)

explained_more : (scheme : Relation) (lines texts : List (List ℕ)) (line text : List ℕ) → AreExplanations scheme lines texts → IsExplanation scheme line text → AreExplanations scheme (lines ++ line ∷ []) (texts ++ text ∷ [])
explained_more scheme [] [] line text are is = (is, tt)
explained_more scheme [] (t ∷ texts) line text are is = absurd are
explained_more scheme (l ∷ lines) [] line text are is = absurd are
explained_more scheme (l ∷ lines) (t ∷ texts) line text are is = (are.0, explained_more scheme lines texts line text are.1 is)

pub record ExplainedSo (scheme : Relation) (lines behind : List (List ℕ)) (old new : Option (List ℕ)) : Type 0 where
  pub before : List (List ℕ)
  pub texts : List (List ℕ)
  pub cut : before ++ behind ≡ lines
  pub are : AreExplanations scheme before texts
  pub whole : Appends old new (answer_lines texts)

pub no_explained : (scheme : Relation) (lines : List (List ℕ)) (old : Option (List ℕ)) → Appends old old [] → ExplainedSo scheme lines lines old old
no_explained scheme lines old none = record { before = []; texts = []; cut = refl; are = tt; whole = none }

pub one_explained : (scheme : Relation) (lines behind next : List (List ℕ)) (old new after : Option (List ℕ)) (line text : List ℕ) (so : ExplainedSo scheme lines behind old new) → behind ≡ line ∷ next → IsExplanation scheme line text
    → Appends old after (answer_lines (so.texts ++ text ∷ [])) → ExplainedSo scheme lines next old after
one_explained scheme lines behind next old new after line text so step is whole = record {
  before = so.before ++ line ∷ [];
  texts = so.texts ++ text ∷ [];
  cut = more_before so.before line behind next lines so.cut step;
  are = explained_more scheme so.before so.texts line text so.are is;
  whole = whole;
}

pub first_explained : (scheme : Relation) (lines before behind texts : List (List ℕ)) → before ++ behind ≡ lines → AreExplanations scheme before texts → AreFirstExplanations scheme lines texts
first_explained scheme lines before behind texts cut are =
    subst (λ (l : List (List ℕ)). AreExplanations scheme l texts) (sym (first_of (length texts) before behind lines (explained_count scheme before texts are) cut)) are

pub more_explained : (scheme : Relation) (lines behind next : List (List ℕ)) (old new : Option (List ℕ)) (line text : List ℕ) (so : ExplainedSo scheme lines behind old new) → behind ≡ line ∷ next → IsExplanation scheme line text
    → AreFirstExplanations scheme lines (so.texts ++ text ∷ [])
more_explained scheme lines behind next old new line text so step is =
    first_explained scheme lines (so.before ++ line ∷ []) next (so.texts ++ text ∷ []) (more_before so.before line behind next lines so.cut step) (explained_more scheme so.before so.texts line text so.are is)

pub all_explained : (scheme : Relation) (lines behind : List (List ℕ)) (old new : Option (List ℕ)) (so : ExplainedSo scheme lines behind old new) → behind ≡ [] → AreAllExplanations scheme lines so.texts []
all_explained scheme lines behind old new so end = record {
  are = subst (λ (l : List (List ℕ)). AreExplanations scheme l so.texts) (sym (append-nil so.before) ∙ ap (λ (l : List (List ℕ)). so.before ++ l) (sym end) ∙ so.cut) so.are;
  nothing = refl;
}

-- ---- verdicts

judged_count : (scheme : Relation) (lines : List (List ℕ)) (answers : List (Result (List ℕ) Refusal)) → AreLineAnswers scheme lines answers → length answers ≡ length lines
judged_count scheme [] [] are = refl
judged_count scheme [] (t ∷ texts) are = absurd are
judged_count scheme (l ∷ lines) [] are = absurd are
judged_count scheme (l ∷ lines) (t ∷ texts) are = ap (λ (n : ℕ). suc n) (judged_count scheme lines texts are.1)

judged_more : (scheme : Relation) (lines : List (List ℕ)) (answers : List (Result (List ℕ) Refusal)) (line : List ℕ) (answer : Result (List ℕ) Refusal) → AreLineAnswers scheme lines answers → IsLineAnswer scheme line answer
    → AreLineAnswers scheme (lines ++ line ∷ []) (answers ++ answer ∷ [])
judged_more scheme [] [] line text are is = (is, tt)
judged_more scheme [] (t ∷ texts) line text are is = absurd are
judged_more scheme (l ∷ lines) [] line text are is = absurd are
judged_more scheme (l ∷ lines) (t ∷ texts) line text are is = (are.0, judged_more scheme lines texts line text are.1 is)

map_more : {X Y : Type 0} (f : X → Y) (xs : List X) (x : X) → map f (xs ++ x ∷ []) ≡ map f xs ++ f x ∷ []
map_more f [] x = refl
map_more f (y ∷ xs) x = ap (λ l. f y ∷ l) (map_more f xs x)

-- one more answer
accepted_more : (answers : List (Result (List ℕ) Refusal)) (answer : Result (List ℕ) Refusal) (accepts : Bool) → accepts ≡ is_ok answer → accepted_of (answers ++ answer ∷ []) ≡ (if accepts then accepted_of answers + 1 else accepted_of answers)
accepted_more [] (Ok text) true e = refl
accepted_more [] (Err f) false e = refl
accepted_more answers (Ok text) false e = absurd (differ e)
  where
    differ : false ≡ true → ⊥
    differ e = cc
accepted_more answers (Err f) true e = absurd (differ e)
  where
    differ : true ≡ false → ⊥
    differ e = cc
accepted_more (Ok t ∷ answers) (Ok text) true e = let more = accepted_more answers (Ok text) true e in omega (arith, more)
accepted_more (Ok t ∷ answers) (Err f) false e = let more = accepted_more answers (Err f) false e in omega (arith, more)
accepted_more (Err g ∷ answers) (Ok text) true e = accepted_more answers (Ok text) true e
accepted_more (Err g ∷ answers) (Err f) false e = accepted_more answers (Err f) false e

accepted_few : (answers : List (Result (List ℕ) Refusal)) → accepted_of answers ≤ length answers
accepted_few [] = omega arith
accepted_few (Ok t ∷ answers) = let few = accepted_few answers in omega (arith, few)
accepted_few (Err e ∷ answers) = let few = accepted_few answers in omega (arith, few)

pub record JudgedSo (scheme : Relation) (lines behind : List (List ℕ)) (counted taken : ℕ) (old new : Option (List ℕ)) : Type 0 where
  pub before : List (List ℕ)
  pub answers : List (Result (List ℕ) Refusal)
  pub cut : before ++ behind ≡ lines
  pub are : AreLineAnswers scheme before answers
  pub whole : Appends old new (answer_lines (map verdict_text answers))
  pub count : counted ≡ length answers
  pub accepted : taken ≡ accepted_of answers

pub no_judged : (scheme : Relation) (lines : List (List ℕ)) (old : Option (List ℕ)) → Appends old old [] → JudgedSo scheme lines lines 0 0 old old
no_judged scheme lines old none = record { before = []; answers = []; cut = refl; are = tt; whole = none; count = refl; accepted = refl }

-- the texts that are written so far
abbrev pub judged_texts : {scheme : Relation} {lines behind : List (List ℕ)} {counted taken : ℕ} {old new : Option (List ℕ)} → JudgedSo scheme lines behind counted taken old new → List (List ℕ)
judged_texts so = map verdict_text so.answers

pub one_judged : (scheme : Relation) (lines behind next : List (List ℕ)) (counted taken counts takes : ℕ) (old new after : Option (List ℕ)) (line : List ℕ) (answer : Result (List ℕ) Refusal) (accepts : Bool) (so : JudgedSo scheme lines behind counted taken old new)
    → behind ≡ line ∷ next → IsLineAnswer scheme line answer → accepts ≡ is_ok answer → counts ≡ counted + 1 → takes ≡ (if accepts then taken + 1 else taken)
    → Appends old after (answer_lines (map verdict_text so.answers ++ verdict_text answer ∷ [])) → JudgedSo scheme lines next counts takes old after
one_judged scheme lines behind next counted taken counts takes old new after line answer accepts so step is same more more_taken whole = record {
  before = so.before ++ line ∷ [];
  answers = so.answers ++ answer ∷ [];
  cut = more_before so.before line behind next lines so.cut step;
  are = judged_more scheme so.before so.answers line answer so.are is;
  whole = subst (λ (texts : List (List ℕ)). Appends old after (answer_lines texts)) (sym (map_more verdict_text so.answers answer)) whole;
  count = let count = so.count in let long = length-append so.answers (answer ∷ []) in omega (arith, more, count, long);
  accepted = more_taken ∙ ap (λ (n : ℕ). if accepts then n + 1 else n) so.accepted ∙ sym (accepted_more so.answers answer accepts same);
}

first_judged : (scheme : Relation) (lines before behind : List (List ℕ)) (answers : List (Result (List ℕ) Refusal)) → before ++ behind ≡ lines → AreLineAnswers scheme before answers → AreFirstVerdicts scheme lines (map verdict_text answers)
first_judged scheme lines before behind answers cut are = record {
  answers = answers;
  are = subst (λ (l : List (List ℕ)). AreLineAnswers scheme l answers) (sym (first_of (length (map verdict_text answers)) before behind lines (length-map answers verdict_text ∙ judged_count scheme before answers are) cut)) are;
  written = refl;
}

pub so_far_judged : (scheme : Relation) (lines behind : List (List ℕ)) (counted taken : ℕ) (old new : Option (List ℕ)) (so : JudgedSo scheme lines behind counted taken old new) → AreFirstVerdicts scheme lines (map verdict_text so.answers)
so_far_judged scheme lines behind counted taken old new so = first_judged scheme lines so.before behind so.answers so.cut so.are

pub more_judged : (scheme : Relation) (lines behind next : List (List ℕ)) (counted taken : ℕ) (old new : Option (List ℕ)) (line : List ℕ) (answer : Result (List ℕ) Refusal) (so : JudgedSo scheme lines behind counted taken old new)
    → behind ≡ line ∷ next → IsLineAnswer scheme line answer → AreFirstVerdicts scheme lines (map verdict_text so.answers ++ verdict_text answer ∷ [])
more_judged scheme lines behind next counted taken old new line answer so step is =
    subst (AreFirstVerdicts scheme lines) (map_more verdict_text so.answers answer)
    (first_judged scheme lines (so.before ++ line ∷ []) next (so.answers ++ answer ∷ []) (more_before so.before line behind next lines so.cut step) (judged_more scheme so.before so.answers line answer so.are is))

pub all_judged : (scheme : Relation) (lines behind : List (List ℕ)) (counted taken : ℕ) (old new : Option (List ℕ)) (closing : List ℕ) (so : JudgedSo scheme lines behind counted taken old new) → behind ≡ [] → closing ≡ total_of counted taken
    → AreAllVerdicts scheme lines (map verdict_text so.answers) closing
all_judged scheme lines behind counted taken old new closing so end is = record {
  answers = so.answers;
  are = subst (λ (l : List (List ℕ)). AreLineAnswers scheme l so.answers) (sym (append-nil so.before) ∙ ap (λ (l : List (List ℕ)). so.before ++ l) (sym end) ∙ so.cut) so.are;
  written = refl;
  total = is ∙ ap (λ (n : ℕ). total_of n taken) so.count ∙ ap (total_of (length so.answers)) so.accepted;
}

-- there are fewer lines than octets
pub few_lines : (scheme : Relation) (input line : List ℕ) (behind next : List (List ℕ)) (counted taken : ℕ) (old new : Option (List ℕ)) (so : JudgedSo scheme (lines_of input) behind counted taken old new) → length input ≤ 2 ^ 26 → behind ≡ line ∷ next → counted < 2 ^ 26
few_lines scheme input line behind next counted taken old new so le step =
    let count = so.count in
    let held = judged_count scheme so.before so.answers so.are in
    let whole = ap (λ (l : List (List ℕ)). length l) (one_behind so.before line behind next (lines_of input) so.cut step) in
    let long = length-append so.before (line ∷ next) in
    let few = lines_few input in
    omega (arith, le, count, held, whole, long, few)

pub few_accepted : (scheme : Relation) (lines behind : List (List ℕ)) (counted taken : ℕ) (old new : Option (List ℕ)) (so : JudgedSo scheme lines behind counted taken old new) → taken ≤ counted
few_accepted scheme lines behind counted taken old new so = let count = so.count in let accepted = so.accepted in let few = accepted_few so.answers in omega (arith, count, accepted, few)

-- ---- the task

pub one_task : (words : List (List ℕ)) (one other : Task) → IsArchiveTask words one → IsArchiveTask words other → one ≡ other
one_task words Batch Batch a b = refl
one_task words Explain Explain a b = refl
one_task words Batch Explain a b = absurd (differ (sym a ∙ b))
  where
    differ : task_word Batch ∷ [] ≡ task_word Explain ∷ [] → ⊥
    differ e = cc
one_task words Explain Batch a b = absurd (differ (sym a ∙ b))
  where
    differ : task_word Explain ∷ [] ≡ task_word Batch ∷ [] → ⊥
    differ e = cc
