-- Lists of words, and the commands that they are.
use Rattle.std.proofs.Common.{◌≡◌, ◌≤◌, ◌<◌, ◌+◌, ◌^◌, ℕ, zero, suc, ℤ, Bool, true, false, Option, Some, None, List, [], ◌∷◌, ◌++◌, length, map, drop, pos, negsuc, refl, sym, ap, subst, ◌∙◌, append_assoc, arith, inl, inr, lit<}
use Rattle.std.specs.Prelude.{codes, bytes_eq, if◌then◌else◌, slice_get, IsSome}
use Rattle.std.proofs.lemmas.Fmt.{signed_decimal_injective, decimal_injective}
use Rattle.std.proofs.Math.ListN.{drop_of_length-le}
use Rattle.std.proofs.lemmas.List.{append-nil}
use Rattle.std.proofs.lemmas.Option.{slice_get_cases}
use Rattle.std.proofs.lemmas.Slice.Eq.{bytes_eq-Decides}
use Rattle.rpki_common.specs.Chaining.{◌>>=◌}
use Rattle.rpki_base.specs.PublicKey.{KeyFields}
use Rattle.rpki_ca.specs.declared.receiving.Kind.{Kind}
use Rattle.rpki_ca.specs.declared.receiving.Kind.TheVariants.{Publication, Provisioning}
use Rattle.rpki_ca.specs.declared.command.Verb.{Verb}
use Rattle.rpki_ca.specs.declared.command.Verb.TheVariants as verbs
use Rattle.rpki_ca.specs.declared.command.Command.{Command}
use Rattle.rpki_ca.specs.declared.command.Command.TheVariants.{Content, Receive, Create, Setup, Make}
use Rattle.rpki_ca.specs.declared.setup_message.SetupKind.{SetupKind}
use Rattle.rpki_ca.specs.declared.setup_message.SetupKind.TheVariants as setup
use Rattle.rpki_common.proofs.Truths.{same_some}
use Rattle.rpki_ca.specs.Words.{SpellsMoment, IsMomentAt, IsNumber, IsNumberAt, key_of_word, key_at}
use Rattle.rpki_ca.specs.Command.{setup_kind_word, setup_kind_of, setup_kind_at, IsSetup, IsMake, AreNoMake, ReadsInput}
use Rattle.rpki_ca.specs.Command.{kind_word, kind_of, kind_at, verb_word, verb_of, verb_in, AreKeys, IsReceive, IsDated, IsCreate, AreNoCreate, AsksSigner, AskToReceive, Ask, IsCommand, IsNoCommand, AskInVain, IsLimited}

abbrev some_word : List ℕ → Option (List ℕ)
some_word w = Some w

abbrev some_key : KeyFields → Option KeyFields
some_key k = Some k

abbrev some_verb : Verb → Option Verb
some_verb v = Some v

-- ---- what stands at an index

pub at_word : {X : Type 0} (f : List ℕ → Option X) (words : List (List ℕ)) (i : ℕ) (word : List ℕ) (y : Option X) → slice_get words i ≡ Some word → y ≡ f word → y ≡ (slice_get words i >>= f)
unfolding ◌>>=◌
at_word f words i word y e is = rw e is

pub at_none : {X : Type 0} (f : List ℕ → Option X) (words : List (List ℕ)) (i : ℕ) → (i < length words → ⊥) → None ≡ (slice_get words i >>= f)
unfolding ◌>>=◌
at_none f words i past =
    elim ((slice_get_cases words i).1) [
      | inl there ↦ absurd (past there.1)
      | inr none ↦ rw none.1 refl
    ]

pub none_within : (words : List (List ℕ)) (i : ℕ) → (i < length words → IsSome {T = List ℕ} None) → i < length words → ⊥
none_within words i f l = let e : false ≡ true = f l in cc

-- ---- kinds

same_kind : (kind : Kind) → kind_of (kind_word kind) ≡ Some kind
same_kind Publication = refl
same_kind Provisioning = refl

abbrev some_kind : Kind → Option Kind
some_kind k = Some k

named_kind : (word : List ℕ) (kind : Kind) → some_kind kind ≡ kind_of word → word ≡ kind_word kind
named_kind word kind e = first (bytes_eq word (kind_word Publication)) refl e
  where
    second_on : Option Kind
    second_on = if bytes_eq word (kind_word Provisioning) then Some Provisioning else None

    second : (b : Bool) → bytes_eq word (kind_word Provisioning) ≡ b → some_kind kind ≡ (if b then Some Provisioning else None) → word ≡ kind_word kind
    second true t e = let same : Provisioning ≡ kind = cc in (bytes_eq-Decides word (kind_word Provisioning)).0 t ∙ ap kind_word same
    second false t e = cc

    first : (b : Bool) → bytes_eq word (kind_word Publication) ≡ b → some_kind kind ≡ (if b then Some Publication else second_on) → word ≡ kind_word kind
    first true t e = let same : Publication ≡ kind = cc in (bytes_eq-Decides word (kind_word Publication)).0 t ∙ ap kind_word same
    first false t e = second (bytes_eq word (kind_word Provisioning)) refl e

one_kind : (a b : Kind) → kind_word a ≡ kind_word b → a ≡ b
one_kind a b word = same (sym (same_kind a) ∙ ap kind_of word ∙ same_kind b)
  where
    same : some_kind a ≡ some_kind b → a ≡ b
    same e = cc

-- ---- the first word

named_verb : (word : List ℕ) (verb : Verb) → verb_of word ≡ Some verb → word ≡ verb_word verb
named_verb word verb e = first (bytes_eq word (verb_word verbs.Content)) refl e
  where
    -- from the fifth verb on, from the fourth, from the third, and from the second
    fifth_on : Option Verb
    fifth_on = if bytes_eq word (verb_word verbs.Make) then Some verbs.Make else None

    fourth_on : Option Verb
    fourth_on = if bytes_eq word (verb_word verbs.Setup) then Some verbs.Setup else fifth_on

    third_on : Option Verb
    third_on = if bytes_eq word (verb_word verbs.Create) then Some verbs.Create else fourth_on

    second_on : Option Verb
    second_on = if bytes_eq word (verb_word verbs.Receive) then Some verbs.Receive else third_on

    fifth : (b : Bool) → bytes_eq word (verb_word verbs.Make) ≡ b → (if b then Some verbs.Make else None) ≡ some_verb verb → word ≡ verb_word verb
    fifth true t e = let same : verbs.Make ≡ verb = cc in (bytes_eq-Decides word (verb_word verbs.Make)).0 t ∙ ap verb_word same
    fifth false t e = cc

    fourth : (b : Bool) → bytes_eq word (verb_word verbs.Setup) ≡ b → (if b then Some verbs.Setup else fifth_on) ≡ some_verb verb → word ≡ verb_word verb
    fourth true t e = let same : verbs.Setup ≡ verb = cc in (bytes_eq-Decides word (verb_word verbs.Setup)).0 t ∙ ap verb_word same
    fourth false t e = fifth (bytes_eq word (verb_word verbs.Make)) refl e

    third : (b : Bool) → bytes_eq word (verb_word verbs.Create) ≡ b → (if b then Some verbs.Create else fourth_on) ≡ some_verb verb → word ≡ verb_word verb
    third true t e = let same : verbs.Create ≡ verb = cc in (bytes_eq-Decides word (verb_word verbs.Create)).0 t ∙ ap verb_word same
    third false t e = fourth (bytes_eq word (verb_word verbs.Setup)) refl e

    second : (b : Bool) → bytes_eq word (verb_word verbs.Receive) ≡ b → (if b then Some verbs.Receive else third_on) ≡ some_verb verb → word ≡ verb_word verb
    second true t e = let same : verbs.Receive ≡ verb = cc in (bytes_eq-Decides word (verb_word verbs.Receive)).0 t ∙ ap verb_word same
    second false t e = third (bytes_eq word (verb_word verbs.Create)) refl e

    first : (b : Bool) → bytes_eq word (verb_word verbs.Content) ≡ b → (if b then Some verbs.Content else second_on) ≡ some_verb verb → word ≡ verb_word verb
    first true t e = let same : verbs.Content ≡ verb = cc in (bytes_eq-Decides word (verb_word verbs.Content)).0 t ∙ ap verb_word same
    first false t e = second (bytes_eq word (verb_word verbs.Receive)) refl e

-- the words begin with the word for the verb
pub record BeginWith (words : List (List ℕ)) (verb : Verb) : Type 0 where
  pub rest : List (List ℕ)
  pub are : words ≡ verb_word verb ∷ rest

pub begin_with : (words : List (List ℕ)) (verb : Verb) → verb_in words ≡ Some verb → BeginWith words verb
unfolding ◌>>=◌
begin_with [] verb e = cc
begin_with (word ∷ rest) verb e = record { rest = rest; are = ap (λ (w : List ℕ). w ∷ rest) (named_verb word verb e) }

-- words that ask for what a verb says begin with its word
pub ask_with : (verb : Verb) (words : List (List ℕ)) (c : Command) → Ask verb words c → verb_in words ≡ Some verb
unfolding ◌>>=◌
ask_with verbs.Content words c a = ap verb_in a.0
ask_with verbs.Receive words c a = ap verb_in a.receive.are
ask_with verbs.Create words c a = ap verb_in a.create.are
ask_with verbs.Setup words c a = ap verb_in a.setup_words.are
ask_with verbs.Make words c a = ap verb_in a.make.are

one_verb : (words : List (List ℕ)) (v w : Verb) → verb_in words ≡ Some v → verb_in words ≡ Some w → v ≡ w
one_verb words v w a b = same (sym a ∙ b)
  where
    same : some_verb v ≡ some_verb w → v ≡ w
    same e = cc

pub no_other : (words : List (List ℕ)) (verb : Verb) → verb_in words ≡ Some verb → AskInVain verb words → IsNoCommand words
no_other words verb e none c a = none c (subst (λ (v : Verb). Ask v words c) (one_verb words a.verb verb (ask_with a.verb words c a.ask) e) a.ask)

pub no_verb : (words : List (List ℕ)) → verb_in words ≡ None → IsNoCommand words
no_verb words e c a = never (sym e ∙ ask_with a.verb words c a.ask)
  where
    never : None ≡ some_verb a.verb → ⊥
    never k = cc

-- ---- `content`

pub one_word : (words : List (List ℕ)) → verb_in words ≡ Some verbs.Content → length words ≡ 1 → Ask verbs.Content words Content
one_word words e l = (are (begin_with words verbs.Content e), refl)
  where
    are : BeginWith words verbs.Content → words ≡ verb_word verbs.Content ∷ []
    are b = alone b.rest b.are (sym (ap length b.are) ∙ l)
      where
        alone : (rest : List (List ℕ)) → words ≡ verb_word verbs.Content ∷ rest → length (verb_word verbs.Content ∷ rest) ≡ 1 → words ≡ verb_word verbs.Content ∷ []
        alone [] e l = e
        alone (x ∷ rest) e l = absurd (omega (arith, l))

pub not_one : (words : List (List ℕ)) → (length words ≡ 1 → ⊥) → AskInVain verbs.Content words
not_one words other c a = other (ap length a.0)

-- ---- keys

pub same_count : {A B C : Type 0} (f : A → C) (g : B → C) (xs : List A) (ys : List B) → map f xs ≡ map g ys → length xs ≡ length ys
same_count f g [] [] e = refl
same_count f g [] (y ∷ ys) e = cc
same_count f g (x ∷ xs) [] e = cc
same_count f g (x ∷ xs) (y ∷ ys) e = ap suc (same_count f g xs ys (ap (drop 1) e))

one_list : (words : List (List ℕ)) (ks ls : List KeyFields) → AreKeys words ks → AreKeys words ls → ks ≡ ls
one_list words ks ls p q = same ks ls (sym p ∙ q)
  where
    same : (ks ls : List KeyFields) → map some_key ks ≡ map some_key ls → ks ≡ ls
    same [] [] e = refl
    same [] (l ∷ ls) e = cc
    same (k ∷ ks) [] e = cc
    same (k ∷ ks) (l ∷ ls) e = let rest = same ks ls (ap (drop 1) e) in let first : k ≡ l = cc in rw (first, rest) refl

-- what stands at an index, and behind it
pub record StandsAt (words : List (List ℕ)) (i : ℕ) : Type 0 where
  pub word : List ℕ
  pub parts : drop i words ≡ word ∷ drop (suc i) words
  pub stands : slice_get words i ≡ Some word

stands_at : (words : List (List ℕ)) (i : ℕ) → i < length words → StandsAt words i
stands_at [] i l = absurd (omega (arith, l))
stands_at (w ∷ ws) zero l = record { word = w; parts = refl; stands = refl }
stands_at (w ∷ ws) (suc i) l = let r = stands_at ws i (omega (arith, l)) in record { word = r.word; parts = r.parts; stands = r.stands }

-- the words from one index up to another spell these keys: what spells the rest then spells all, and all spells some rest
pub record SpellSoFar (words : List (List ℕ)) (from i : ℕ) (keys : List KeyFields) : Type 0 where
  pub rest : (all : List KeyFields) → AreKeys (drop from words) all → (more : List KeyFields) × AreKeys (drop i words) more
  pub whole : (more : List KeyFields) → AreKeys (drop i words) more → AreKeys (drop from words) (keys ++ more)

pub none_so_far : (words : List (List ℕ)) (from : ℕ) → SpellSoFar words from from []
none_so_far words from = record { rest = λ all a. (all, a); whole = λ more a. a }

behind_one : (word : List ℕ) (words : List (List ℕ)) (all : List KeyFields) → AreKeys (word ∷ words) all → (more : List KeyFields) × AreKeys words more
behind_one word words [] e = cc
behind_one word words (k ∷ more) e = (more, ap (drop 1) e)

in_front : (word : List ℕ) (words : List (List ℕ)) (key : KeyFields) (more : List KeyFields) → key_of_word word ≡ Some key → AreKeys words more → AreKeys (word ∷ words) (key ∷ more)
in_front word words key more e a = rw (e, a) refl

spelled_at : (words : List (List ℕ)) (i : ℕ) (s : StandsAt words i) (key : Option KeyFields) → key ≡ key_at words i → key_of_word s.word ≡ key
unfolding ◌>>=◌
spelled_at words i s key e = sym (rw s.stands at e)

pub one_more : (words : List (List ℕ)) (from i : ℕ) (keys : List KeyFields) (key : KeyFields) → i < length words → Some key ≡ key_at words i → SpellSoFar words from i keys → SpellSoFar words from (i + 1) (keys ++ key ∷ [])
one_more words from i keys key l e sofar =
    let s = stands_at words i l in
    let next : suc i ≡ i + 1 = omega arith in
    subst (λ (n : ℕ). SpellSoFar words from n (keys ++ key ∷ [])) next (record {
      rest = λ all a. let m = sofar.rest all a in behind_one s.word (drop (suc i) words) m.0 (subst (λ (ws : List (List ℕ)). AreKeys ws m.0) s.parts m.1);
      whole = λ more a.
          subst (AreKeys (drop from words)) (sym (append_assoc keys (key ∷ []) more))
          (sofar.whole (key ∷ more) (subst (λ (ws : List (List ℕ)). AreKeys ws (key ∷ more)) (sym s.parts) (in_front s.word (drop (suc i) words) key more (spelled_at words i s (Some key) e) a)));
    })

pub no_key_here : (words : List (List ℕ)) (from i : ℕ) (keys : List KeyFields) → i < length words → None ≡ key_at words i → SpellSoFar words from i keys → (all : List KeyFields) → AreKeys (drop from words) all → ⊥
no_key_here words from i keys l e sofar all a =
    let s = stands_at words i l in
    let m = sofar.rest all a in
    none s.word (drop (suc i) words) m.0 (spelled_at words i s None e) (subst (λ (ws : List (List ℕ)). AreKeys ws m.0) s.parts m.1)
  where
    none : (word : List ℕ) (words : List (List ℕ)) (all : List KeyFields) → key_of_word word ≡ None → AreKeys (word ∷ words) all → ⊥
    none word words [] f b = unlike (ap (λ (l : List (Option KeyFields)). length l) b)
      where
        unlike : suc (length (map key_of_word words)) ≡ 0 → ⊥
        unlike k = cc
    none word words (k ∷ more) f b = unlike (sym f ∙ first b)
      where
        first : map key_of_word (word ∷ words) ≡ map some_key (k ∷ more) → key_of_word word ≡ Some k
        first k = cc

        unlike : None ≡ some_key k → ⊥
        unlike k = cc

pub all_spelled : (words : List (List ℕ)) (from i : ℕ) (keys : List KeyFields) → length words ≤ i → SpellSoFar words from i keys → AreKeys (drop from words) keys
all_spelled words from i keys l sofar = subst (AreKeys (drop from words)) (append-nil keys) (sofar.whole [] (ap (map key_of_word) (drop_of_length-le words l)))

-- ---- `receive`

pub few : (words : List (List ℕ)) (c : Command) → AskToReceive words c → (4 ≤ length words) × (length words ≤ 11)
few words c a =
    let n : length words ≡ suc (suc (suc (length a.receive.key_words))) = ap length a.receive.are in
    (omega (arith, n, a.receive.some), omega (arith, n, a.receive.few))

pub no_count : (words : List (List ℕ)) → ((4 ≤ length words) × (length words ≤ 11) → ⊥) → AskInVain verbs.Receive words
no_count words other c a = other (few words c a)

pub no_kind : (words : List (List ℕ)) → None ≡ kind_at words 1 → AskInVain verbs.Receive words
unfolding ◌>>=◌
no_kind words none c a =
    let k : None ≡ Some a.kind = subst (λ (ws : List (List ℕ)). None ≡ kind_at ws 1) a.receive.are none ∙ same_kind a.kind in absurd (never k)
  where
    never : None ≡ Some a.kind → ⊥
    never k = cc

pub no_moment : (words : List (List ℕ)) → ((when : ℤ) → IsMomentAt words 2 when → ⊥) → AskInVain verbs.Receive words
no_moment words none c a =
    none a.when (record { word = a.receive.moment_word; stands = ap (λ (ws : List (List ℕ)). slice_get ws 2) a.receive.are; moment = a.receive.moment })

pub no_keys : (words : List (List ℕ)) → ((keys : List KeyFields) → AreKeys (drop 3 words) keys → ⊥) → AskInVain verbs.Receive words
no_keys words none c a = none a.keys (subst (λ (ws : List (List ℕ)). AreKeys (drop 3 ws) a.keys) (sym a.receive.are) a.receive.spell)

three_words : (words : List (List ℕ)) (rest : List (List ℕ)) → words ≡ codes "receive" ∷ rest → 4 ≤ length words → (b : List ℕ) × (c : List ℕ) × (words ≡ codes "receive" ∷ b ∷ c ∷ drop 3 words)
three_words words [] e l = absurd (never (ap length e))
  where
    never : length words ≡ 1 → ⊥
    never n = omega (arith, n, l)
three_words words (b ∷ []) e l = absurd (never (ap length e))
  where
    never : length words ≡ 2 → ⊥
    never n = omega (arith, n, l)
three_words words (b ∷ c ∷ rest) e l = (b, c, e ∙ ap (λ (ws : List (List ℕ)). codes "receive" ∷ b ∷ c ∷ ws) (sym (ap (drop 3) e)))

pub received : (words : List (List ℕ)) (kind : Kind) (when : ℤ) (keys : List KeyFields) → verb_in words ≡ Some verbs.Receive → (4 ≤ length words) × (length words ≤ 11)
    → Some kind ≡ kind_at words 1 → IsMomentAt words 2 when → AreKeys (drop 3 words) keys → Ask verbs.Receive words (Receive kind when keys)
unfolding ◌>>=◌
received words kind when keys e l k m s =
    let f = begin_with words verbs.Receive e in
    let w = three_words words f.rest f.are l.0 in
    let n : length words ≡ suc (suc (suc (length (drop 3 words)))) = ap length w.2 in
    let b : w.0 ≡ kind_word kind = named_kind w.0 kind (k ∙ ap (λ (ws : List (List ℕ)). kind_at ws 1) w.2) in
    let third : some_word m.word ≡ some_word w.1 = sym m.stands ∙ ap (λ (ws : List (List ℕ)). slice_get ws 2) w.2 in
    let same : m.word ≡ w.1 = cc in
    record {
      kind = kind;
      when = when;
      keys = keys;
      receive = record {
        moment_word = w.1;
        key_words = drop 3 words;
        are = w.2 ∙ ap (λ (x : List ℕ). codes "receive" ∷ x ∷ w.1 ∷ drop 3 words) b;
        some = omega (arith, n, l.0);
        few = omega (arith, n, l.1);
        moment = subst (λ (w : List ℕ). SpellsMoment w when) same m.moment;
        spell = s;
      };
      is = refl;
    }

-- ---- `create`

pub not_three : (words : List (List ℕ)) → (length words ≡ 3 → ⊥) → AskInVain verbs.Create words
not_three words other c a = other (ap length a.create.are)

pub no_kind_to_create : (words : List (List ℕ)) → None ≡ kind_at words 1 → AskInVain verbs.Create words
unfolding ◌>>=◌
no_kind_to_create words none c a =
    let k : None ≡ Some a.kind = subst (λ (ws : List (List ℕ)). None ≡ kind_at ws 1) a.create.are none ∙ same_kind a.kind in absurd (never k)
  where
    never : None ≡ Some a.kind → ⊥
    never k = cc

no_date : (verb about : List ℕ) (words : List (List ℕ)) (when : ℤ) → ((when : ℤ) → IsMomentAt words 2 when → ⊥) → IsDated verb about words when → ⊥
no_date verb about words when none d =
    none when (record { word = d.moment_word; stands = ap (λ (ws : List (List ℕ)). slice_get ws 2) d.are; moment = d.moment })

pub no_moment_to_create : (words : List (List ℕ)) → ((when : ℤ) → IsMomentAt words 2 when → ⊥) → AskInVain verbs.Create words
no_moment_to_create words none c a = no_date (codes "create") (kind_word a.kind) words a.when none a.create

pub just_three : (words : List (List ℕ)) (first : List ℕ) (rest : List (List ℕ)) → words ≡ first ∷ rest → length words ≡ 3 → (b : List ℕ) × (c : List ℕ) × (words ≡ first ∷ b ∷ c ∷ [])
just_three words first [] e l = absurd (never (ap length e))
  where
    never : length words ≡ 1 → ⊥
    never n = omega (arith, n, l)
just_three words first (b ∷ []) e l = absurd (never (ap length e))
  where
    never : length words ≡ 2 → ⊥
    never n = omega (arith, n, l)
just_three words first (b ∷ c ∷ []) e l = (b, c, e)
just_three words first (b ∷ c ∷ d ∷ more) e l = absurd (never (ap length e))
  where
    never : length words ≡ suc (suc (suc (suc (length more)))) → ⊥
    never n = omega (arith, n, l)

dated : (words : List (List ℕ)) (verb : Verb) (about : List ℕ) (when : ℤ) → verb_in words ≡ Some verb → length words ≡ 3 → ((word : List ℕ) (rest : List (List ℕ)) → words ≡ verb_word verb ∷ word ∷ rest → word ≡ about) → IsMomentAt words 2 when
    → IsDated (verb_word verb) about words when
dated words verb about when e l named m =
    let f = begin_with words verb e in
    let w = just_three words (verb_word verb) f.rest f.are l in
    let third : some_word m.word ≡ some_word w.1 = sym m.stands ∙ ap (λ (ws : List (List ℕ)). slice_get ws 2) w.2 in
    let same : m.word ≡ w.1 = cc in
    record {
      moment_word = w.1;
      are = w.2 ∙ ap (λ (x : List ℕ). verb_word verb ∷ x ∷ w.1 ∷ []) (named w.0 (w.1 ∷ []) w.2);
      moment = subst (λ (w : List ℕ). SpellsMoment w when) same m.moment;
    }

pub created : (words : List (List ℕ)) (kind : Kind) (when : ℤ) → verb_in words ≡ Some verbs.Create → length words ≡ 3 → Some kind ≡ kind_at words 1 → IsMomentAt words 2 when → Ask verbs.Create words (Create kind when)
unfolding ◌>>=◌
created words kind when e l k m = record {
  kind = kind;
  when = when;
  create = dated words verbs.Create (kind_word kind) when e l (λ word rest are. named_kind word kind (k ∙ ap (λ (ws : List (List ℕ)). kind_at ws 1) are)) m;
  is = refl;
}

-- ---- `setup`

same_setup_kind : (kind : SetupKind) → setup_kind_of (setup_kind_word kind) ≡ Some kind
same_setup_kind setup.ChildRequest = refl
same_setup_kind setup.ParentResponse = refl
same_setup_kind setup.PublisherRequest = refl
same_setup_kind setup.RepositoryResponse = refl

abbrev some_setup : SetupKind → Option SetupKind
some_setup k = Some k

named_setup : (word : List ℕ) (kind : SetupKind) → some_setup kind ≡ setup_kind_of word → word ≡ setup_kind_word kind
named_setup word kind e = first (bytes_eq word (setup_kind_word setup.ChildRequest)) refl e
  where
    fourth_on : Option SetupKind
    fourth_on = if bytes_eq word (setup_kind_word setup.RepositoryResponse) then Some setup.RepositoryResponse else None

    third_on : Option SetupKind
    third_on = if bytes_eq word (setup_kind_word setup.PublisherRequest) then Some setup.PublisherRequest else fourth_on

    second_on : Option SetupKind
    second_on = if bytes_eq word (setup_kind_word setup.ParentResponse) then Some setup.ParentResponse else third_on

    fourth : (b : Bool) → bytes_eq word (setup_kind_word setup.RepositoryResponse) ≡ b → some_setup kind ≡ (if b then Some setup.RepositoryResponse else None) → word ≡ setup_kind_word kind
    fourth true t e = let same : setup.RepositoryResponse ≡ kind = cc in (bytes_eq-Decides word (setup_kind_word setup.RepositoryResponse)).0 t ∙ ap setup_kind_word same
    fourth false t e = cc

    third : (b : Bool) → bytes_eq word (setup_kind_word setup.PublisherRequest) ≡ b → some_setup kind ≡ (if b then Some setup.PublisherRequest else fourth_on) → word ≡ setup_kind_word kind
    third true t e = let same : setup.PublisherRequest ≡ kind = cc in (bytes_eq-Decides word (setup_kind_word setup.PublisherRequest)).0 t ∙ ap setup_kind_word same
    third false t e = fourth (bytes_eq word (setup_kind_word setup.RepositoryResponse)) refl e

    second : (b : Bool) → bytes_eq word (setup_kind_word setup.ParentResponse) ≡ b → some_setup kind ≡ (if b then Some setup.ParentResponse else third_on) → word ≡ setup_kind_word kind
    second true t e = let same : setup.ParentResponse ≡ kind = cc in (bytes_eq-Decides word (setup_kind_word setup.ParentResponse)).0 t ∙ ap setup_kind_word same
    second false t e = third (bytes_eq word (setup_kind_word setup.PublisherRequest)) refl e

    first : (b : Bool) → bytes_eq word (setup_kind_word setup.ChildRequest) ≡ b → some_setup kind ≡ (if b then Some setup.ChildRequest else second_on) → word ≡ setup_kind_word kind
    first true t e = let same : setup.ChildRequest ≡ kind = cc in (bytes_eq-Decides word (setup_kind_word setup.ChildRequest)).0 t ∙ ap setup_kind_word same
    first false t e = second (bytes_eq word (setup_kind_word setup.ParentResponse)) refl e

pub not_three_to_set_up : (words : List (List ℕ)) → (length words ≡ 3 → ⊥) → AskInVain verbs.Setup words
not_three_to_set_up words other c a = other (ap length a.setup_words.are)

pub no_kind_to_set_up : (words : List (List ℕ)) → None ≡ setup_kind_at words 1 → AskInVain verbs.Setup words
unfolding ◌>>=◌
no_kind_to_set_up words none c a =
    let k : None ≡ Some a.kind = subst (λ (ws : List (List ℕ)). None ≡ setup_kind_at ws 1) a.setup_words.are none ∙ same_setup_kind a.kind in absurd (never k)
  where
    never : None ≡ Some a.kind → ⊥
    never k = cc

pub no_moment_to_set_up : (words : List (List ℕ)) → ((when : ℤ) → IsMomentAt words 2 when → ⊥) → AskInVain verbs.Setup words
no_moment_to_set_up words none c a = no_date (codes "setup") (setup_kind_word a.kind) words a.when none a.setup_words

pub set_up : (words : List (List ℕ)) (kind : SetupKind) (when : ℤ) → verb_in words ≡ Some verbs.Setup → length words ≡ 3 → Some kind ≡ setup_kind_at words 1 → IsMomentAt words 2 when → Ask verbs.Setup words (Setup kind when)
unfolding ◌>>=◌
set_up words kind when e l k m = record {
  kind = kind;
  when = when;
  setup_words = dated words verbs.Setup (setup_kind_word kind) when e l (λ word rest are. named_setup word kind (k ∙ ap (λ (ws : List (List ℕ)). setup_kind_at ws 1) are)) m;
  is = refl;
}

same_at : (i : ℕ) (a b : List ℕ) (xs ys : List (List ℕ)) → xs ≡ ys → slice_get xs i ≡ Some a → slice_get ys i ≡ Some b → a ≡ b
same_at i a b xs ys e p q = same (sym p ∙ ap (λ (ws : List (List ℕ)). slice_get ws i) e ∙ q)
  where
    same : some_word a ≡ some_word b → a ≡ b
    same e = cc

-- ---- `make`

pub not_three_to_make : (words : List (List ℕ)) → (length words ≡ 3 → ⊥) → AskInVain verbs.Make words
not_three_to_make words other c a = other (ap length a.make.are)

pub no_count_to_make : (words : List (List ℕ)) → ((n : ℕ) → IsNumberAt words 1 10000 n → ⊥) → AskInVain verbs.Make words
no_count_to_make words none c a =
    none a.count (record { word = a.make.count_word; stands = ap (λ (ws : List (List ℕ)). slice_get ws 1) a.make.are; number_is = a.make.counts })

pub no_seed_to_make : (words : List (List ℕ)) → ((n : ℕ) → IsNumberAt words 2 4294967295 n → ⊥) → AskInVain verbs.Make words
no_seed_to_make words none c a =
    none a.seed (record { word = a.make.seed_word; stands = ap (λ (ws : List (List ℕ)). slice_get ws 2) a.make.are; number_is = a.make.seeds })

pub made : (words : List (List ℕ)) (count seed : ℕ) → verb_in words ≡ Some verbs.Make → length words ≡ 3 → IsNumberAt words 1 10000 count → IsNumberAt words 2 4294967295 seed → Ask verbs.Make words (Make count seed)
made words count seed e l n m =
    let f = begin_with words verbs.Make e in
    let w = just_three words (codes "make") f.rest f.are l in
    let second : n.word ≡ w.0 = same_at 1 n.word w.0 words _ w.2 n.stands refl in
    let third : m.word ≡ w.1 = same_at 2 m.word w.1 words _ w.2 m.stands refl in
    record {
      count = count;
      seed = seed;
      make = record {
        count_word = w.0;
        seed_word = w.1;
        are = w.2;
        counts = subst (λ (w : List ℕ). IsNumber w 10000 count) second n.number_is;
        seeds = subst (λ (w : List ℕ). IsNumber w 4294967295 seed) third m.number_is;
      };
      is = refl;
    }

-- ---- one command

pub one_moment : (word : List ℕ) (a b : ℤ) → SpellsMoment word a → SpellsMoment word b → a ≡ b
one_moment word (pos m) (pos n) p q =
    let low : m ≤ 253402300799 = p.1 in
    let high : n ≤ 253402300799 = q.1 in
    signed_decimal_injective (pos m) (pos n) (omega (arith, low)) (omega (arith, high)) (sym p.0 ∙ q.0)
one_moment word (pos m) (negsuc n) p q = absurd q
one_moment word (negsuc m) b p q = absurd p

-- the word at a place is one moment
pub one_moment_at : (words : List (List ℕ)) (index : ℕ) (one other : ℤ) → IsMomentAt words index one → IsMomentAt words index other → one ≡ other
one_moment_at words index one other a b = one_moment b.word one other (subst (λ (w : List ℕ). SpellsMoment w one) (same_some a.word b.word (sym a.stands ∙ b.stands)) a.moment) b.moment

one_receive : (words : List (List ℕ)) (a b : Kind) (s t : ℤ) (k l : List KeyFields) → IsReceive words a s k → IsReceive words b t l → Receive a s k ≡ Receive b t l
one_receive words a b s t k l p q =
    let e = sym p.are ∙ q.are in
    let moment : p.moment_word ≡ q.moment_word = same_at 2 p.moment_word q.moment_word _ _ e refl refl in
    let behind : p.key_words ≡ q.key_words = ap (drop 3) e in
    let st : s ≡ t = one_moment q.moment_word s t (subst (λ (w : List ℕ). SpellsMoment w s) moment p.moment) q.moment in
    let kl : k ≡ l = one_list q.key_words k l (subst (λ (ws : List (List ℕ)). AreKeys ws k) behind p.spell) q.spell in
    let word : kind_word a ≡ kind_word b = same_at 1 (kind_word a) (kind_word b) _ _ e refl refl in
    let ab : a ≡ b = one_kind a b word in
    rw (ab, st, kl) refl

one_date : (words : List (List ℕ)) (verb about other : List ℕ) (s t : ℤ) → IsDated verb about words s → IsDated verb other words t → (about ≡ other) × (s ≡ t)
one_date words verb about other s t p q =
    let moment : p.moment_word ≡ q.moment_word = same_at 2 p.moment_word q.moment_word _ _ (sym p.are ∙ q.are) refl refl in
    (same_at 1 about other _ _ (sym p.are ∙ q.are) refl refl, one_moment q.moment_word s t (subst (λ (w : List ℕ). SpellsMoment w s) moment p.moment) q.moment)

one_create : (words : List (List ℕ)) (a b : Kind) (s t : ℤ) → IsCreate words a s → IsCreate words b t → Create a s ≡ Create b t
one_create words a b s t p q =
    let one = one_date words (codes "create") (kind_word a) (kind_word b) s t p q in
    let ab : a ≡ b = one_kind a b one.0 in
    rw (ab, one.1) refl

one_setup : (words : List (List ℕ)) (a b : SetupKind) (s t : ℤ) → IsSetup words a s → IsSetup words b t → Setup a s ≡ Setup b t
one_setup words a b s t p q =
    let one = one_date words (codes "setup") (setup_kind_word a) (setup_kind_word b) s t p q in
    let some : some_setup a ≡ some_setup b = sym (same_setup_kind a) ∙ ap setup_kind_of one.0 ∙ same_setup_kind b in
    let ab : a ≡ b = cc in
    rw (ab, one.1) refl

one_number : (word : List ℕ) (most a b : ℕ) → most < 2 ^ 32 → IsNumber word most a → IsNumber word most b → a ≡ b
one_number word most a b small p q =
    let low : a ≤ most = p.1 in
    let high : b ≤ most = q.1 in
    decimal_injective a b (omega (arith, low, small)) (omega (arith, high, small)) (sym p.0 ∙ q.0)

one_make : (words : List (List ℕ)) (m n s t : ℕ) → IsMake words m s → IsMake words n t → Make m s ≡ Make n t
one_make words m n s t p q =
    let e = sym p.are ∙ q.are in
    let counts : p.count_word ≡ q.count_word = same_at 1 p.count_word q.count_word _ _ e refl refl in
    let seeds : p.seed_word ≡ q.seed_word = same_at 2 p.seed_word q.seed_word _ _ e refl refl in
    let mn : m ≡ n = one_number q.count_word 10000 m n (lit< tt) (subst (λ (w : List ℕ). IsNumber w 10000 m) counts p.counts) q.counts in
    let st : s ≡ t = one_number q.seed_word 4294967295 s t (lit< tt) (subst (λ (w : List ℕ). IsNumber w 4294967295 s) seeds p.seeds) q.seeds in
    rw (mn, st) refl

asked_once : (verb : Verb) (words : List (List ℕ)) (c d : Command) → Ask verb words c → Ask verb words d → c ≡ d
asked_once verbs.Content words c d p q = p.1 ∙ sym q.1
asked_once verbs.Receive words c d p q = p.is ∙ one_receive words p.kind q.kind p.when q.when p.keys q.keys p.receive q.receive ∙ sym q.is
asked_once verbs.Create words c d p q = p.is ∙ one_create words p.kind q.kind p.when q.when p.create q.create ∙ sym q.is
asked_once verbs.Setup words c d p q = p.is ∙ one_setup words p.kind q.kind p.when q.when p.setup_words q.setup_words ∙ sym q.is
asked_once verbs.Make words c d p q = p.is ∙ one_make words p.count q.count p.seed q.seed p.make q.make ∙ sym q.is

pub one_command : (words : List (List ℕ)) (c d : Command) → IsCommand words c → IsCommand words d → c ≡ d
one_command words c d p q =
    let same = one_verb words p.verb q.verb (ask_with p.verb words c p.ask) (ask_with q.verb words d q.ask) in
    asked_once q.verb words c d (subst (λ (v : Verb). Ask v words c) same p.ask) q.ask

-- ---- as a command

pub is_command : (words : List (List ℕ)) (kind : Kind) (when : ℤ) (keys : List KeyFields) → IsReceive words kind when keys → IsCommand words (Receive kind when keys)
is_command words kind when keys r = record { verb = verbs.Receive; ask = record { kind = kind; when = when; keys = keys; receive = r; is = refl } }

pub is_create : (words : List (List ℕ)) (kind : Kind) (when : ℤ) → IsCreate words kind when → IsCommand words (Create kind when)
is_create words kind when r = record { verb = verbs.Create; ask = record { kind = kind; when = when; create = r; is = refl } }

pub is_setup : (words : List (List ℕ)) (kind : SetupKind) (when : ℤ) → IsSetup words kind when → IsCommand words (Setup kind when)
is_setup words kind when r = record { verb = verbs.Setup; ask = record { kind = kind; when = when; setup_words = r; is = refl } }

pub is_make : (words : List (List ℕ)) (count seed : ℕ) → IsMake words count seed → IsCommand words (Make count seed)
is_make words count seed m = record { verb = verbs.Make; ask = record { count = count; seed = seed; make = m; is = refl } }

-- what reads no input is `make`
pub reads_input : (words : List (List ℕ)) (c : Command) → IsCommand words c → AreNoMake words → ReadsInput c
reads_input words c a none = by_verb a.verb a.ask
  where
    by_verb : (verb : Verb) → Ask verb words c → ReadsInput c
    by_verb verbs.Content p = subst ReadsInput (sym p.1) tt
    by_verb verbs.Receive p = subst ReadsInput (sym p.is) tt
    by_verb verbs.Create p = subst ReadsInput (sym p.is) tt
    by_verb verbs.Setup p = subst ReadsInput (sym p.is) tt
    by_verb verbs.Make p = absurd (none p.count p.seed p.make)

pub make_reads_none : (words : List (List ℕ)) (c : Command) (count seed : ℕ) → IsCommand words c → IsMake words count seed → ReadsInput c → ⊥
make_reads_none words c count seed a m reads = subst ReadsInput (one_command words c (Make count seed) a (is_make words count seed m)) reads

-- what asks for a signer is `create` or `make`
pub asks_signer : (words : List (List ℕ)) (c : Command) → IsCommand words c → AsksSigner c → AreNoCreate words → AreNoMake words → ⊥
asks_signer words c a asks none no_make = by_verb a.verb a.ask
  where
    by_verb : (verb : Verb) → Ask verb words c → ⊥
    by_verb verbs.Content p = subst AsksSigner p.1 asks
    by_verb verbs.Receive p = subst AsksSigner p.is asks
    by_verb verbs.Create p = none p.kind p.when p.create
    by_verb verbs.Setup p = subst AsksSigner p.is asks
    by_verb verbs.Make p = no_make p.count p.seed p.make

pub limited : (words : List (List ℕ)) (c : Command) → IsCommand words c → IsLimited c
limited words c a = by_verb a.verb a.ask
  where
    by_verb : (verb : Verb) → Ask verb words c → IsLimited c
    by_verb verbs.Content p = subst IsLimited (sym p.1) tt
    by_verb verbs.Receive p =
        let n : length p.receive.key_words ≡ length p.keys = same_count key_of_word some_key p.receive.key_words p.keys p.receive.spell in
        subst IsLimited (sym p.is) (omega (arith, n, p.receive.some), omega (arith, n, p.receive.few))
    by_verb verbs.Create p = subst IsLimited (sym p.is) tt
    by_verb verbs.Setup p = subst IsLimited (sym p.is) tt
    by_verb verbs.Make p = subst IsLimited (sym p.is) p.make.counts.1

-- ---- the only word

pub only_word : (words : List (List ℕ)) (held word : List ℕ) → length words ≡ 1 → slice_get words 0 ≡ Some held → held ≡ word → words ≡ word ∷ []
only_word [] held word one at is = absurd (none at)
  where
    none : None ≡ Some held → ⊥
    none e = cc
only_word (w ∷ []) held word one at is = let same : w ≡ held = some_same w held at in ap (λ (x : List ℕ). x ∷ []) (same ∙ is)
  where
    some_same : (a b : List ℕ) → Some a ≡ Some b → a ≡ b
    some_same a b e = cc
only_word (w ∷ v ∷ words) held word one at is = absurd (many words one)
  where
    many : (ws : List (List ℕ)) → length (w ∷ v ∷ ws) ≡ 1 → ⊥
    many ws e = omega (arith, e)
