-- What is known of each element of a document, and what is read of such elements.
use Rattle.std.proofs.Common.{◌≡◌, ℕ, Bool, List, Option, Some, None, subst, IfSome}
use Rattle.std.specs.Prelude.{filter}
use Rattle.std.specs.List.{AllByRecursion}
use Rattle.rpki_common.specs.Items as items
use Rattle.rpki_text.specs.Uri.{Kind, fault_of}
use Rattle.rpki_xml.specs.Content.{trimmed}
use Rattle.rpki_xml.specs.Element.{Head, Elements, none, first, Element, listed}
use Rattle.rpki_xml.specs.Lettered.{IsLetteredHead, AreLettered}
use Rattle.rpki_xml.specs.Tables.{optional, optional_by, where_there, each_of, at_most_one_child}
use Rattle.rpki_xml.specs.Trimmed.{AreTrimmed}
use Rattle.rpki_xmltext.specs.UriText.{uri_of_text}
use Rattle.rpki_xmltext.proofs.Attributes.{then_some, some_holds, found_holds, each_holds, last_holds, heads_lettered}
use Rattle.rpki_xmltext.proofs.Uris.{there_lawful}

pub record IsLawful (e : Element) : Type 0 where
  pub head : IsLetteredHead e.head
  pub trimmed' : trimmed e.head.text ≡ e.head.text
  pub below : AreLettered e.children
  pub trims : AreTrimmed e.children

abbrev pub AreLawful : List Element → Type 0
AreLawful list = AllByRecursion IsLawful list

pub lawful : (es : Elements) → AreLettered es → AreTrimmed es → AreLawful (listed es)
lawful none l t = tt
lawful (first h cs rest) l t = (record { head = l.0; trimmed' = t.0; below = l.1.0; trims = t.1.0 }, lawful rest l.1.1 t.1.1)

pub some_lawful : (f : Element → Bool) (list : List Element) → AreLawful list → AreLawful (filter f list)
some_lawful f list l = some_holds IsLawful f list l

pub each_writable : {X : Type 0} (f : Element → Option X) (P : X → Type 0) → ((e : Element) (x : X) → IsLawful e → f e ≡ Some x → P x)
    → (es : Elements) (xs : List X) → AreLettered es → AreTrimmed es → each_of f es ≡ Some xs → AllByRecursion P xs
each_writable f P h es xs l t is = each_holds IsLawful P f h es xs (lawful es l t) is

pub last_writable : {X : Type 0} (f : Element → Option (Option X)) (P : X → Type 0) → ((e : Element) (x : Option X) → IsLawful e → f e ≡ Some x → IfSome x P)
    → (list : List Element) (before found : Option X) → AreLawful list → IfSome before P → items.the_last before f list ≡ Some found → IfSome found P
last_writable f P h list before found l b is = last_holds IsLawful P f h list before found l b is

pub child_lawful : (children : Elements) (found : Option Element) → AreLettered children → at_most_one_child children ≡ Some found → IfSome found (λ e. IsLetteredHead e.head)
child_lawful children found l is = found_holds (λ e. IsLetteredHead e.head) children found (heads_lettered children l) is

-- ---- attributes

pub there : {X : Type 0} (P : X → Type 0) (o : Option X) (x : X) → o ≡ Some x → IfSome o P → P x
there {X} P o x e h = subst (λ (p : Option X). IfSome p P) e h

pub uri_read : (kind : Kind) (local : List ℕ) (h : Head) (u : Option (List ℕ)) → optional_by (uri_of_text kind) local h ≡ Some u → IfSome u (λ v. fault_of kind v ≡ None)
unfolding optional_by
uri_read kind local h u e = let p = then_some (optional local h) (where_there (uri_of_text kind)) u e in there_lawful kind p.0 u p.2
