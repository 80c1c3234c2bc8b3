use Rattle.std.proofs.Common.{◌≡◌, ◌++◌, ℕ, None, List, codes, length, sym, subst, ◌∙◌}
use Rattle.hex.specs.Hex.{IsBytes, encode_upper}
use Rattle.rpki_text.specs.Uri.{fault_of, joined, rsync}
use Rattle.rpki_text.proofs.Naming.{place_lawful}
use Rattle.rpki_upserver.proofs.Naming.{key_named}
use Rattle.rpki_upserver.proofs.class.Class.uri_of.Goals as goal

pub join-requires : goal.join-requires
join-requires c =
    let base = subst (λ (b : List ℕ). fault_of rsync b ≡ None) c.as_str-base.ensures.text c.as_str-base.ensures.lawful in
    let twenty = subst (λ (k : List ℕ). length k ≡ 20) c.as_slice.ensures.value c.as_slice.ensures.twenty in
    let bytes = subst (λ (k : List ℕ). IsBytes k) c.as_slice.ensures.value c.are_bytes.ensures in
    let name : c.as_bytes.result.now ≡ encode_upper c.args.key ++ codes ".cer" = c.as_bytes.ensures.value ∙ c.in_ok-name.ensures.ok in
    subst (λ (n : List ℕ). fault_of rsync (joined c.self.inside.base n) ≡ None) (sym name)
    (place_lawful c.self.inside.base (encode_upper c.args.key ++ codes ".cer") base c.self.invariant.0.short (key_named c.args.key twenty bytes))
