-- What a document ends with, and what stands at its places.
use Rattle.std.proofs.Common.{◌≡◌, ◌+◌, ◌-◌, ℕ, List, [], ◌∷◌, ◌++◌, Bool, cond, true, false, Some, length, take, drop, reverse, refl, sym, ap, subst, ◌∙◌, append_assoc, arith}
use Rattle.std.proofs.lemmas.List.{append-nil, length-append, reverse-append, reverse-reverse, take-append-drop}
use Rattle.std.proofs.Math.Seq.{drop-append_seam, take-append_seam, take-length}
use Rattle.rpki_common.proofs.Truths.{same_some}
use Rattle.rpki_xml.specs.Content.{Piece, behind, is_white, without_white}
use Rattle.rpki_xml.specs.Element.{Attribute}
use Rattle.rpki_xml.specs.Kept.{HasBack, part_of}
use Rattle.rpki_xml.specs.Lexing.{Repeats, attribute_at, back_of, front_of, name_at, no_attribute, past_white, piece_at}
use Rattle.rpki_xml.specs.Name.{is_name_octet}
use Rattle.rpki_xml.specs.PlainCharacter.{is_plain}
use Rattle.rpki_xml.specs.Stack.{Open}
use Rattle.rpki_xml.proofs.Documents.{Reached}
use Rattle.rpki_xml.proofs.Fronts.{front_is, name_is, tested, white_front}
use Rattle.rpki_xml.proofs.PieceSpellings.{piece_both}
use Rattle.rpki_xml.proofs.Plains.{front_back}
use Rattle.rpki_xml.proofs.ReadAttributes.{attribute_both}

-- ---- backs

pub whole_back : (source : List ℕ) → HasBack source ([] ++ [])
whole_back source = record { front = source; is = sym (append-nil source) }

-- what ends a back ends the document
pub back_behind : (source b front rest : List ℕ) → HasBack source b → b ≡ front ++ rest → HasBack source rest
back_behind source b front rest h e = record {
  front = h.front ++ front;
  is = h.is ∙ ap (λ (l : List ℕ). h.front ++ l) e ∙ sym (append_assoc h.front front rest);
}

pub back_same : (source b c : List ℕ) → HasBack source b → b ≡ c → HasBack source c
back_same source b c h e = subst (HasBack source) e h

-- behind the first octet
pub back_next : (source b : List ℕ) → HasBack source b → HasBack source (take (length b - 1) (drop 1 b))
back_next source [] h = h
back_next source (c ∷ b) h =
    let one : length (c ∷ b) - 1 ≡ length b = omega arith in
    back_behind source (c ∷ b) (c ∷ []) _ h (ap (λ (l : List ℕ). c ∷ l) (sym (ap (λ (n : ℕ). take n b) one ∙ take-length b)))

pub back_white : (source b : List ℕ) → HasBack source b → HasBack source (past_white b)
back_white source b h = back_behind source b (front_of is_white b) (past_white b) h (white_front b)

pub back_plain : (source b front rest : List ℕ) (stop : ℕ) → HasBack source b → front ≡ front_of (is_plain stop) b → rest ≡ back_of (is_plain stop) b → HasBack source (front ++ rest)
back_plain source b front rest stop h f r = rw (f, r) (back_same source b _ h (sym (front_back (is_plain stop) b)))

pub back_name : (source b name rest : List ℕ) → HasBack source b → name_at b ≡ Some (name, rest) → HasBack source (name ++ rest)
back_name source b name rest h e = back_same source b (name ++ rest) h (name_is b name rest e).0

pub behind_name : (source b name rest : List ℕ) → HasBack source b → name_at b ≡ Some (name, rest) → HasBack source rest
behind_name source b name rest h e = back_behind source b name rest h (name_is b name rest e).0

pub whole_name : (b name rest : List ℕ) → name_at b ≡ Some (name, rest) → front_of is_name_octet (name ++ rest) ≡ name
unfolding name_at
whole_name b name rest e =
    let p = tested _ (Some (front_of is_name_octet b, back_of is_name_octet b)) (name, rest) e in
    let q : (front_of is_name_octet b, back_of is_name_octet b) ≡ (name, rest) = same_some _ _ p.1 in
    ap (front_of is_name_octet) (sym (name_is b name rest e).0) ∙ ap (λ (x : List ℕ × List ℕ). x.0) q

pub behind_front : (source b front rest : List ℕ) → HasBack source b → Some rest ≡ behind front b → HasBack source rest
behind_front source b front rest h e = back_behind source b front rest h (front_is front b rest (sym e))

pub behind_attribute : (source b rest : List ℕ) (a : Attribute) → HasBack source b → no_attribute b ≡ false → attribute_at b ≡ Some (a, rest) → HasBack source rest
behind_attribute source b rest a h on e = let p = (attribute_both b a rest).0 (on, e) in back_behind source b p.octets rest h p.is

pieces_back : (source b rest : List ℕ) (list : List Piece) → HasBack source b → Repeats piece_at b list rest → HasBack source rest
pieces_back source b rest [] h e = back_same source b rest h e
pieces_back source b rest (p ∷ list) h e =
    let q = (piece_both b p e.0).0 e.1 in
    pieces_back source e.0 rest list (back_behind source b q.octets e.0 h q.is) e.2

-- what is left when pieces were read
pub reached_back : (b rest : List ℕ) (opens : List Open) → Reached b rest opens → HasBack b rest
reached_back b rest opens h = pieces_back b b rest h.list (record { front = []; is = refl }) h.pieces

-- ---- places

back_from : (source part rest : List ℕ) (h : HasBack source (part ++ rest)) → source ≡ (h.front ++ part) ++ rest
back_from source part rest h = h.is ∙ sym (append_assoc h.front part rest)

back_length : (source part rest : List ℕ) (h : HasBack source (part ++ rest)) → length source ≡ length h.front + (length part + length rest)
back_length source part rest h = ap length h.is ∙ length-append h.front (part ++ rest) ∙ ap (λ (n : ℕ). length h.front + n) (length-append part rest)

pub name_stands : (source name rest : List ℕ) (start : ℕ) → HasBack source (name ++ rest) → start ≡ length source - length rest - length name → drop start source ≡ name ++ rest
name_stands source name rest start h is =
    let n = back_length source name rest h in
    let e : start ≡ length h.front = is ∙ omega (arith, n) in
    ap (λ (k : ℕ). drop k source) e ∙ ap (λ (l : List ℕ). drop (length h.front) l) h.is ∙ drop-append_seam h.front (name ++ rest)

pub part_stands : (source part rest : List ℕ) (start end : ℕ) → HasBack source (part ++ rest) → start ≡ length source - length rest - length part → end ≡ length source - length rest → part_of start end source ≡ part
part_stands source part rest start end h first last =
    let n = back_length source part rest h in
    let e : start ≡ length h.front = first ∙ omega (arith, n) in
    let f : end ≡ length (h.front ++ part) = last ∙ omega (arith, n, length-append h.front part) in
    let cut : take end source ≡ h.front ++ part = ap (λ (k : ℕ). take k source) f ∙ ap (λ (l : List ℕ). take (length (h.front ++ part)) l) (back_from source part rest h) ∙ take-append_seam (h.front ++ part) rest in
    ap (λ (k : ℕ). drop k (take end source)) e ∙ ap (λ (l : List ℕ). drop (length h.front) l) cut ∙ drop-append_seam h.front part

-- a part of the text that stands between two places
pub part_placed : (source part rest : List ℕ) (start end until : ℕ) → HasBack (part_of start end source) (part ++ rest) → until ≡ length (take end source) - length rest → HasBack source (part ++ drop until source)
part_placed source part rest start end until h is =
    let cut = take end source in
    let front = take start cut ++ h.front in
    let all : cut ≡ front ++ (part ++ rest) = sym (take-append-drop start cut) ∙ ap (λ (l : List ℕ). take start cut ++ l) h.is ∙ sym (append_assoc (take start cut) h.front (part ++ rest)) in
    let whole : source ≡ (front ++ part) ++ (rest ++ drop end source) =
    sym (take-append-drop end source) ∙ ap (λ (l : List ℕ). l ++ drop end source) (all ∙ sym (append_assoc front part rest)) ∙ append_assoc (front ++ part) rest (drop end source) in
    let count : length cut ≡ length (front ++ part) + length rest = ap length (all ∙ sym (append_assoc front part rest)) ∙ length-append (front ++ part) rest in
    let place : until ≡ length (front ++ part) = is ∙ omega (arith, count) in
    let left : drop until source ≡ rest ++ drop end source = ap (λ (k : ℕ). drop k source) place ∙ ap (λ (l : List ℕ). drop (length (front ++ part)) l) whole ∙ drop-append_seam (front ++ part) (rest ++ drop end source) in
    record {
      front = front;
      is = whole ∙ ap (λ (l : List ℕ). (front ++ part) ++ l) (sym left) ∙ append_assoc front part (drop until source);
    }

-- ---- outer white space

white_before : (text : List ℕ) → HasBack text (without_white text)
white_before [] = record { front = []; is = refl }
white_before (c ∷ text) = go (is_white c) (white_before text)
  where
    go : (b : Bool) → HasBack text (without_white text) → HasBack (c ∷ text) (cond b (without_white text) (c ∷ text))
    go true h = record { front = c ∷ h.front; is = ap (λ (l : List ℕ). c ∷ l) h.is }
    go false h = record { front = []; is = refl }

end_white : (text : List ℕ) → reverse (without_white (reverse text)) ++ drop (length (reverse (without_white (reverse text)))) text ≡ text
end_white text =
    let h = white_before (reverse text) in
    let kept = reverse (without_white (reverse text)) in
    let all : text ≡ kept ++ reverse h.front = sym (reverse-reverse text) ∙ ap reverse h.is ∙ reverse-append h.front (without_white (reverse text)) in
    ap (λ (l : List ℕ). kept ++ l) (ap (λ (l : List ℕ). drop (length kept) l) all ∙ drop-append_seam kept (reverse h.front)) ∙ sym all

pub trimmed_placed : (text begun trimmed rest : List ℕ) → begun ≡ without_white text → trimmed ≡ reverse (without_white (reverse begun)) → rest ≡ drop (length trimmed) begun → HasBack text (trimmed ++ rest)
trimmed_placed text begun trimmed rest b t r = rw (r, t) (back_same text begun _ (rw b (white_before text)) (sym (end_white begun)))
