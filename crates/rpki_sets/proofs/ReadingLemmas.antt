-- The loop that reads the items of a text.
use Rattle.std.proofs.Common.{◌≡◌, ℕ, eqb, Option, None, Some, List, [], ◌∷◌, ◌++◌, refl, sym, ap, ◌∙◌, append_assoc}
use Rattle.std.specs.List.{slice_split}
use Rattle.rpki_common.specs.Chaining.{◌>>=◌}
use Rattle.rpki_sets.specs.Texts.{cut, read_all}
use Rattle.rpki_sets.proofs.Cutting.{split_first, split_last}

module _ {A B : Type 0} (read : A → Option B) where
  -- what is read of a list whose front was read
  abbrev pub read_behind : List B → Option (List B) → Option (List B)
  read_behind front None = None
  read_behind front (Some later) = Some (front ++ later)

  behind_one : (b : B) (o : Option (List B)) → (o >>= λ found. Some (b ∷ found)) ≡ read_behind (b ∷ []) o
  unfolding ◌>>=◌
  behind_one b None = refl
  behind_one b (Some later) = refl

  read_all-some : (x : A) (xs : List A) (b : B) → read x ≡ Some b → read_all read (x ∷ xs) ≡ read_behind (b ∷ []) (read_all read xs)
  unfolding read_all ◌>>=◌
  read_all-some x xs b h = rw h (behind_one b (read_all read xs))

  read_all-none : (x : A) (xs : List A) → read x ≡ None → read_all read (x ∷ xs) ≡ None
  unfolding read_all ◌>>=◌
  read_all-none x xs h = rw h refl

  behind_behind : (front : List B) (b : B) (o : Option (List B)) → read_behind front (read_behind (b ∷ []) o) ≡ read_behind (front ++ b ∷ []) o
  behind_behind front b None = refl
  behind_behind front b (Some later) = ap Some (sym (append_assoc front (b ∷ []) later))

  read_nothing : read_all read [] ≡ Some []
  unfolding read_all
  read_nothing = refl

  behind_none : (front : List B) (o : Option (List B)) → o ≡ None → read_behind front o ≡ None
  behind_none front o e = rw e refl

  behind_start : (o : Option (List B)) → o ≡ read_behind [] o
  behind_start None = refl
  behind_start (Some later) = refl

module _ (B : Type 0) (read : List ℕ → Option B) (text : List ℕ) where
  -- the whole is what was read, and then what is left
  pub record IsReadTo (rest : List ℕ) (found : List B) : Type 0 where
    pub same : read_all read (slice_split (λ octet. eqb octet 44) text) ≡ read_behind read found (read_all read (slice_split (λ octet. eqb octet 44) rest))

  pub read_start : (found : List B) → found ≡ [] → IsReadTo text found
  read_start found e = rw e (record { same = behind_start read (read_all read (slice_split (λ octet. eqb octet 44) text)) })

  pub read_more : (rest part more : List ℕ) (found : List B) (b : B) → cut 44 rest ≡ Some (part, more) → read part ≡ Some b → IsReadTo rest found → IsReadTo more (found ++ b ∷ [])
  read_more rest part more found b e h so = record {
    same =
        so.same ∙ ap (λ l. read_behind read found (read_all read l)) (split_first 44 rest part more e)
        ∙ ap (read_behind read found) (read_all-some read part (slice_split (λ octet. eqb octet 44) more) b h)
        ∙ behind_behind read found b (read_all read (slice_split (λ octet. eqb octet 44) more));
  }

  pub part_none : (rest part more : List ℕ) (found : List B) → cut 44 rest ≡ Some (part, more) → read part ≡ None → IsReadTo rest found → read_all read (slice_split (λ octet. eqb octet 44) text) ≡ None
  part_none rest part more found e h so =
      so.same ∙ ap (λ l. read_behind read found (read_all read l)) (split_first 44 rest part more e)
      ∙ ap (read_behind read found) (read_all-none read part (slice_split (λ octet. eqb octet 44) more) h)

  pub last_none : (rest : List ℕ) (found : List B) → cut 44 rest ≡ None → read rest ≡ None → IsReadTo rest found → read_all read (slice_split (λ octet. eqb octet 44) text) ≡ None
  last_none rest found e h so =
      so.same ∙ ap (λ l. read_behind read found (read_all read l)) (split_last 44 rest e)
      ∙ ap (read_behind read found) (read_all-none read rest [] h)

  pub last_some : (rest : List ℕ) (found : List B) (b : B) → cut 44 rest ≡ None → read rest ≡ Some b → IsReadTo rest found → read_all read (slice_split (λ octet. eqb octet 44) text) ≡ Some (found ++ b ∷ [])
  last_some rest found b e h so =
      so.same ∙ ap (λ l. read_behind read found (read_all read l)) (split_last 44 rest e)
      ∙ ap (read_behind read found) (read_all-some read rest [] b h ∙ ap (read_behind read (b ∷ [])) (read_nothing read))
