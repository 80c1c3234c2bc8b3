-- A value as a list of entries, one for each value in it, in the order of their first octets; and
-- what a reader of them has still to read. A means for the reader of trees alone.
use Rattle.std.specs.Prelude.{◌≡◌, ℕ, ◌+◌, List, [], ◌∷◌, ◌++◌, length}
use Rattle.rpki_der.specs.declared.mode.Mode.TheVariants.{Ber}
use Rattle.rpki_der.specs.declared.tree.Entry.{Entry}
use Rattle.rpki_der.specs.Value.{Value, Primitive, Constructed, Values, End, ◌▸◌, lengths_of, end_mark, spelling, spellings, AreValues, Begins}
use Rattle.rpki_der.specs.Item.{item}
use Rattle.rpki_der.specs.Ticks.{all_nodes}
use Rattle.rpki_der.specs.Tree.{inside}

-- how many octets stand in front of the contents
abbrev pub header_size : Value → ℕ
header_size (Primitive identifier lengths contents) = length identifier + length lengths
header_size (Constructed identifier form inner) = length identifier + length (lengths_of form)

-- how many octets of an end mark stand behind the contents
abbrev pub mark_size : Value → ℕ
mark_size (Primitive identifier lengths contents) = 0
mark_size (Constructed identifier form inner) = length (end_mark form)

-- the entry of a value: tag, form, the sizes of its header, its end mark and the whole, and how
-- many values are inside it
abbrev pub entry_of : Value → Entry
entry_of v = record {
  tag = (item v).tag;
  constructed = (item v).constructed;
  header = header_size v;
  mark = mark_size v;
  size = length (spelling v);
  count = all_nodes (inside v);
}

-- the entry of a value and behind it those of the values inside it; and those of values in turn
abbrev mutual
  pub entries_of : Value → List Entry
  entries_of (Primitive identifier lengths contents) =
      entry_of (Primitive identifier lengths contents) ∷ []
  entries_of (Constructed identifier form inner) =
      entry_of (Constructed identifier form inner) ∷ all_entries_of inner

  pub all_entries_of : Values → List Entry
  all_entries_of End = []
  all_entries_of (v ▸ vs) = entries_of v ++ all_entries_of vs

-- the octets spell this value and no more, and these are its entry and the entries of the values
-- inside it
pub record IsNode (v : Value) (octets : List ℕ) (entry : Entry) (inner : List Entry) : Type 0 where
  pub begins : Begins Ber octets v []
  pub entry' : entry ≡ entry_of v
  pub inner' : inner ≡ all_entries_of (inside v)

-- the octets spell these values, and these are their entries
pub record AreNodes (vs : Values) (octets : List ℕ) (entries : List Entry) : Type 0 where
  pub lawful : AreValues Ber vs
  pub octets' : octets ≡ spellings vs
  pub entries' : entries ≡ all_entries_of vs

-- the octets spell this value and no more, and these are its entries
pub record IsTree (v : Value) (octets : List ℕ) (entries : List Entry) : Type 0 where
  pub begins : Begins Ber octets v []
  pub entries' : entries ≡ entries_of v
