-- The rules of the two kinds of URIs. A URI is the list of its octets.
use Rattle.std.specs.Prelude.{ℕ, Bool, false, ◌||◌, ◌&&◌, ◌==◌, not, nat_le, nat_lt, nat_eq, if◌then◌else◌, List, [], ◌∷◌, ◌++◌, length, take, drop, map, codes}
use Rattle.std.specs.List.{list_all, list_any, slice_split, after_first, ends_with}
use Rattle.std.specs.Cmp.Lexicographic.{pointwise}
use Rattle.std.specs.Char.{to_ascii_lowercase}
use Rattle.std.specs.declared.option.Option.{Option}
use Rattle.std.specs.declared.option.Option.TheVariants.{None, Some}
use Rattle.rpki_text.specs.declared.uri.Error.{Error}
use Rattle.rpki_text.specs.declared.uri.Error.TheVariants.{TooLong, BadCharacter, BadScheme, BadUri, DotSegments}

-- The octets that a URI may hold: the printable ones of ASCII but for the space, `"`, `<`, `>`,
-- `\`, `^`, `` ` ``, `{`, `|` and `}`.
abbrev pub is_uri_octet : ℕ → Bool
is_uri_octet octet =
    (octet == 33) || (nat_le 35 octet && nat_le octet 59) || (octet == 61)
    || (nat_le 63 octet && nat_le octet 91) || (octet == 93) || (octet == 95)
    || (nat_le 97 octet && nat_le octet 122) || (octet == 126)

-- whether the octet is `/`
abbrev pub is_slash : ℕ → Bool
is_slash octet = octet == 47

-- A text begins with a scheme and its `://`, in any case.
abbrev pub has_scheme : List ℕ → List ℕ → Bool
has_scheme scheme text =
    pointwise nat_eq (map to_ascii_lowercase (take (length scheme) text))
    (map to_ascii_lowercase scheme)

-- What stands behind the scheme, cut at each slash.
abbrev pub parts_behind : List ℕ → List ℕ → List (List ℕ)
parts_behind scheme text = slice_split is_slash (drop (length scheme) text)

-- whether the part has no octets
abbrev pub is_empty : List ℕ → Bool
is_empty part = length part == 0

-- A host and a module, neither of them empty and each followed by a slash, and then a path, which
-- may be empty.
abbrev pub has_host_and_module : List (List ℕ) → Bool
has_host_and_module [] = false
has_host_and_module (host ∷ []) = false
has_host_and_module (host ∷ module_name ∷ []) = false
has_host_and_module (host ∷ module_name ∷ path ∷ more) =
    not (is_empty host) && not (is_empty module_name)

-- A host that isn't empty, and then nothing or a slash and a path.
abbrev pub has_host : List (List ℕ) → Bool
has_host [] = false
has_host (host ∷ path) = not (is_empty host)

-- RFC 3986, section 3.3: a segment that is `.` or `..`.
abbrev pub is_dot_segment : List ℕ → Bool
is_dot_segment segment =
    pointwise nat_eq segment (codes ".") || pointwise nat_eq segment (codes "..")

-- Whether a part behind the host is one. A query is cut at its slashes too.
abbrev pub has_dot_segment : List (List ℕ) → Bool
has_dot_segment [] = false
has_dot_segment (host ∷ segments) = list_any is_dot_segment segments

-- The first rule that the parts break, or none where they pass the test and no part behind the host
-- is a dot segment.
abbrev pub parts_fault : (List (List ℕ) → Bool) → List (List ℕ) → Option Error
parts_fault has_parts parts =
    if not (has_parts parts) then Some BadUri
    else if has_dot_segment parts then Some DotSegments
    else None

-- The first rule that a text breaks, or none where it is a URI of this scheme whose parts pass the
-- test.
abbrev pub uri_fault : List ℕ → (List (List ℕ) → Bool) → List ℕ → Option Error
uri_fault scheme has_parts text =
    if nat_lt 65535 (length text) then Some TooLong
    else if not (list_all is_uri_octet text) then Some BadCharacter
    else if not (has_scheme scheme text) then Some BadScheme
    else parts_fault has_parts (parts_behind scheme text)

-- A kind of URIs.
pub record Kind : Type 0 where
  -- the scheme and its `://`
  pub scheme : List ℕ
  -- whether what stands behind the scheme, cut at each slash, has the parts that it must have
  pub has_parts : List (List ℕ) → Bool
  -- the path in what stands behind the scheme, up to its end, a query included
  pub path : List ℕ → List ℕ

-- RFC 5781: the path of an rsync URI begins behind the slash after its module.
abbrev pub rsync : Kind
rsync = record {
  scheme = codes "rsync://";
  has_parts = has_host_and_module;
  path = λ rest. after_first is_slash (after_first is_slash rest);
}

-- RFC 9110, section 4.2.2: the path of an https URI begins behind the slash after its host, and is
-- empty where there is no such slash.
abbrev pub https : Kind
https = record {
  scheme = codes "https://";
  has_parts = has_host;
  path = λ rest. after_first is_slash rest;
}

-- The first rule that a text breaks, or none where it is a URI of this kind.
abbrev pub fault_of : Kind → List ℕ → Option Error
fault_of kind text = uri_fault kind.scheme kind.has_parts text

-- The path of a URI of this kind.
abbrev pub path_of : Kind → List ℕ → List ℕ
path_of kind text = kind.path (drop (length kind.scheme) text)

-- whether the text ends with `/`
abbrev pub ends_with_slash : List ℕ → Bool
ends_with_slash text = ends_with nat_eq text (codes "/")

-- A path that is empty or ends with a slash names a directory.
abbrev pub names_directory : List ℕ → Bool
names_directory path = is_empty path || ends_with_slash path

-- A text without its first slash, if it begins with one.
abbrev pub without_slash : List ℕ → List ℕ
without_slash [] = []
without_slash (octet ∷ more) = if is_slash octet then more else octet ∷ more

-- A text, a slash where it doesn't end with one, and a path without its first slash.
abbrev pub joined : List ℕ → List ℕ → List ℕ
joined base path = (if ends_with_slash base then base else base ++ codes "/") ++ without_slash path
