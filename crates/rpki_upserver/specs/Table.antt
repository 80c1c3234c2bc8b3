-- What a parent keeps of its child: in each resource class the child's resources, the certificates
-- that were issued in it and are not revoked, and the keys that were revoked (RFC 6492, 3.3.2).
use Rattle.std.specs.Prelude.{◌≡◌, ◌≤◌, ◌&&◌, ◌++◌, ◌∷◌, [], ℕ, ℤ, Bool, true, false, not, bytes_eq, if◌then◌else◌, Option, List, find, length, map, codes}
use Rattle.std.specs.List.{AllByRecursion, list_any}
use Rattle.hex.specs.Hex.{encode_upper}
use Rattle.sha1.specs.Sha1.{sha1}
use Rattle.rpki_base.specs.Civil.{IsMoment}
use Rattle.rpki_base.specs.PublicKey.{KeyFields}
use Rattle.rpki_sets.specs.Resources.{Resources}
use Rattle.rpki_text.specs.Handle.{IsHandle}
use Rattle.rpki_text.specs.Uri.{joined, names_directory, path_of, rsync}
use Rattle.rpki_updown.specs.Entitlements.{ClassFields, IssuedFields, SigningFields}
use Rattle.rpki_provisioning.specs.Writable.{IsWritableClass, IsWritableIssued, IsWritableSet, IsWritableSigning}
use Rattle.rpki_xml.specs.Lettered.{AreOctets}

-- A class: its name, the child's resources in it until when (seconds since 1970), the URI of the
-- directory in which its certificates are published, the certificate of the issuing key, the
-- certificates that were issued in it, and the identifiers of the keys that were revoked in it.
pub record ClassState : Type 0 where
  pub class_name : List ℕ
  pub resource_set : Resources
  pub not_after : ℤ
  pub base : List ℕ
  pub signing_cert : SigningFields
  pub issued_certs : List IssuedFields
  pub revoked : List (List ℕ)

-- what a parent keeps of its child: its resource classes, in their order
abbrev pub Table : Type 0
Table = List ClassState

-- a class as it is when it is made: nothing was issued in it, and nothing revoked
abbrev pub new_class : List ℕ → Resources → ℤ → List ℕ → SigningFields → ClassState
new_class name set not_after base signing = record {
  class_name = name;
  resource_set = set;
  not_after = not_after;
  base = base;
  signing_cert = signing;
  issued_certs = [];
  revoked = [];
}

-- what the child is told of it (3.3.2)
abbrev pub entitled : ClassState → ClassFields
entitled c = record {
  class_name = c.class_name;
  resource_set = c.resource_set;
  not_after = c.not_after;
  issued_certs = c.issued_certs;
  signing_cert = c.signing_cert;
}

-- ---- where certificates are published

-- the URI names a directory, and leaves room for a name in it
pub record IsClassBase (uri : List ℕ) : Type 0 where
  pub directory : names_directory (path_of rsync uri) ≡ true
  pub short : length uri ≤ 65000

-- the key's identifier in hexadecimal digits in upper case, and `.cer`, in this directory
abbrev pub place_of : List ℕ → List ℕ → List ℕ
place_of base key = joined base (encode_upper key ++ codes ".cer")

-- ---- classes and keys. Keys are compared by their identifiers.

-- whether the class has this name
abbrev pub is_named : List ℕ → ClassState → Bool
is_named name c = bytes_eq c.class_name name

-- the first class of this name
abbrev pub class_named : List ℕ → Table → Option ClassState
class_named name table = find (is_named name) table

-- the identifier of a certificate's key
abbrev pub key_of_issued : IssuedFields → List ℕ
key_of_issued issued = sha1 issued.cert.key.bits

-- whether the certificate is of the key with this identifier
abbrev pub has_key : List ℕ → IssuedFields → Bool
has_key key issued = bytes_eq (key_of_issued issued) key

-- a certificate of the key was issued in the class, and is not revoked
abbrev pub is_issued_in : List ℕ → ClassState → Bool
is_issued_in key c = list_any (has_key key) c.issued_certs

-- the key was revoked in the class
abbrev pub is_revoked_in : List ℕ → ClassState → Bool
is_revoked_in key c = list_any (λ revoked. bytes_eq revoked key) c.revoked

-- the key was revoked in any class
abbrev pub is_revoked : List ℕ → Table → Bool
is_revoked key table = list_any (is_revoked_in key) table

-- a certificate of the key was issued in a class of another name
abbrev pub is_issued_elsewhere : List ℕ → List ℕ → Table → Bool
is_issued_elsewhere name key table =
    list_any (λ c. not (is_named name c) && is_issued_in key c) table

-- ---- how a class changes

-- a certificate is put in the place of that of the same key, or goes last
abbrev pub put : List IssuedFields → IssuedFields → List IssuedFields
put [] issued = issued ∷ []
put (held ∷ more) issued =
    if has_key (key_of_issued issued) held then issued ∷ more else held ∷ put more issued

-- the certificate of a key is taken out
abbrev pub without : List IssuedFields → List ℕ → List IssuedFields
without [] key = []
without (held ∷ more) key = if has_key key held then more else held ∷ without more key

-- the class with the certificate put among those that were issued in it
abbrev pub with_issued : IssuedFields → ClassState → ClassState
with_issued issued c = record c { issued_certs = put c.issued_certs issued }

-- the class with the key's certificate taken out, and the key put last among its revoked ones
abbrev pub with_revoked : List ℕ → ClassState → ClassState
with_revoked key c = record c {
  issued_certs = without c.issued_certs key;
  revoked = c.revoked ++ key ∷ [];
}

-- the class of this name changes, and all others stay
abbrev pub change : List ℕ → (ClassState → ClassState) → Table → Table
change name f table = map (λ c. if is_named name c then f c else c) table

-- ---- what a parent is

-- what is told of a class can be written so that it is read again, its name aside
pub record IsSound (set : Resources) (not_after : ℤ) (signing : SigningFields)
    (issued : List IssuedFields) : Type 0 where
  pub set_is : IsWritableSet set
  pub until : IsMoment not_after
  pub signing_is : IsWritableSigning signing
  pub issued_are : AllByRecursion IsWritableIssued issued

-- what is told of each class, its name included, can be written so that it is read again
abbrev pub AreWritable : Table → Type 0
AreWritable table = AllByRecursion (λ c. IsWritableClass (entitled c)) table

-- no two classes have one name
abbrev pub AreDistinctClasses : Table → Type 0
AreDistinctClasses [] = Unit {0}
AreDistinctClasses (c ∷ more) =
    (list_any (is_named c.class_name) more ≡ false) × AreDistinctClasses more

-- The handle of the parent and that of the child, the child's key, and the table.
pub record ParentState : Type 0 where
  pub me : List ℕ
  pub child : List ℕ
  pub child_key : KeyFields
  pub table : Table

-- the parent with these two handles, this child's key and this table
abbrev pub new_parent : List ℕ → List ℕ → KeyFields → Table → ParentState
new_parent me child key table = record { me = me; child = child; child_key = key; table = table }

-- the parent with another table; handles and key stay
abbrev pub with_table : Table → ParentState → ParentState
with_table table p = record p { table = table }

-- The names of parent and child are handles, and the classes have distinct names, which can be
-- written so that they are read again.
pub record IsParent (me child : List ℕ) (table : Table) : Type 0 where
  pub me_is : IsHandle me
  pub child_is : IsHandle child
  pub distinct : AreDistinctClasses table
  pub names : AllByRecursion (λ c. AreOctets c.class_name) table
