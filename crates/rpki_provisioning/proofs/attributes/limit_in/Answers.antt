use Rattle.std.proofs.Common.{◌≡◌, Some, refl, sym, ap}
use Rattle.std.proofs.lemmas.Result.{err_from_is_err_and}
use Rattle.std.specs.Prelude.{codes}
use Rattle.rpki_common.specs.Chaining.{◌>>=◌}
use Rattle.rpki_xmltext.proofs.Read.{none_through}
use Rattle.rpki_sets.specs.AsNumbers.{as_blocks}
use Rattle.rpki_sets.specs.Ipv4Addresses.{ipv4_blocks}
use Rattle.rpki_sets.specs.Ipv6Addresses.{ipv6_blocks}
use Rattle.rpki_updown.specs.RequestResourceLimit.{LimitFields}
use Rattle.rpki_xml.specs.Tables.{optional_by}
use Rattle.rpki_provisioning.specs.Limit.{limit_in}
use Rattle.rpki_provisioning.proofs.attributes.limit_in.Goals as goal

pub returns-in_err-asn : goal.returns-in_err-asn
unfolding limit_in ◌>>=◌
returns-in_err-asn c =
    let p = err_from_is_err_and c.from_residual.result c.from_residual.ensures.1 in
    rw (p.1, p.2) (none_through c.in_err-asn.field-0.0 (optional_by as_blocks (codes "req_resource_set_as") c.args.e.now.head) _ (λ n. rw (n) refl) c.in_err-asn.ensures)

pub returns-in_err-ipv4 : goal.returns-in_err-ipv4
unfolding limit_in ◌>>=◌
returns-in_err-ipv4 c =
    let p = err_from_is_err_and c.from_residual-in_err-ipv4.result c.from_residual-in_err-ipv4.ensures.1 in
    let asn-is : optional_by as_blocks (codes "req_resource_set_as") c.args.e.now.head ≡ Some c.in_ok-asn.asn = c.in_ok-asn.ensures in
    rw (p.1, p.2) (none_through c.in_err-ipv4.field-0.0 (optional_by ipv4_blocks (codes "req_resource_set_ipv4") c.args.e.now.head) _ (λ n. rw (asn-is, n) refl) c.in_err-ipv4.ensures)

pub returns-in_err-ipv6 : goal.returns-in_err-ipv6
unfolding limit_in ◌>>=◌
returns-in_err-ipv6 c =
    let p = err_from_is_err_and c.from_residual-in_err-ipv6.result c.from_residual-in_err-ipv6.ensures.1 in
    let asn-is : optional_by as_blocks (codes "req_resource_set_as") c.args.e.now.head ≡ Some c.in_ok-asn.asn = c.in_ok-asn.ensures in
    let ipv4-is : optional_by ipv4_blocks (codes "req_resource_set_ipv4") c.args.e.now.head ≡ Some c.in_ok-ipv4.ipv4 = c.in_ok-ipv4.ensures in
    rw (p.1, p.2) (none_through c.in_err-ipv6.field-0.0 (optional_by ipv6_blocks (codes "req_resource_set_ipv6") c.args.e.now.head) _ (λ n. rw (asn-is, ipv4-is, n) refl) c.in_err-ipv6.ensures)

pub returns : goal.returns
unfolding limit_in ◌>>=◌
returns c =
    let asn-is : optional_by as_blocks (codes "req_resource_set_as") c.args.e.now.head ≡ Some c.in_ok-asn.asn = c.in_ok-asn.ensures in
    let ipv4-is : optional_by ipv4_blocks (codes "req_resource_set_ipv4") c.args.e.now.head ≡ Some c.in_ok-ipv4.ipv4 = c.in_ok-ipv4.ensures in
    let ipv6-is : optional_by ipv6_blocks (codes "req_resource_set_ipv6") c.args.e.now.head ≡ Some c.in_ok-ipv6.ipv6 = c.in_ok-ipv6.ensures in
    rw (asn-is, ipv4-is, ipv6-is) (ap (λ (l : LimitFields). Some l) (sym c.limit_of.ensures))
