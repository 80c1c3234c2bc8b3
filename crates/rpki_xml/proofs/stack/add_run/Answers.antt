use Rattle.std.proofs.Common.{refl, arith}
use Rattle.rpki_xml.specs.Kept.{kept_text}
use Rattle.rpki_xml.specs.Stack.{add_run}
use Rattle.rpki_xml.proofs.Held.{innermost, with_run, run_added, nothing_held}
use Rattle.rpki_xml.proofs.stack.add_run.Goals as goal

pub returns-in_default-clause-given : goal.returns-in_default-clause-given
unfolding add_run
returns-in_default-clause-given c = rw (nothing_held c.args.source.now c.args.nodes.now.items c.args.places.now c.in_default.ensures.cases) refl

pub index_mut-node-requires : goal.index_mut-node-requires
index_mut-node-requires c = let lt = (innermost c.args.source.now c.args.nodes.now.items c.args.places.now c.in-Some.field-0-1.now c.in-Some.place.now c.in-Some.ensures.cases.0 c.requires).in_range in omega (arith, lt)

pub returns-clause-given : goal.returns-clause-given
returns-clause-given c =
    (run_added c.args.source.now c.args.nodes.now.items c.args.places.now c.in-Some.field-0-1.now c.in-Some.place.now (kept_text c.args.source.now c.args.run) c.index_mut-node.result.now (record c.index_mut-node.result.now { rest = c.in_ok-rest.rest })
    c.in-Some.ensures.cases.0 c.requires c.index_mut-node.ensures.value (with_run c.args.source.now c.index_mut-node.result.now c.replace-so_far.result c.in_ok-rest.rest (kept_text c.args.source.now c.args.run) c.replace-so_far.ensures.value c.in_ok-rest.ensures) refl).0

pub returns-clause-kept : goal.returns-clause-kept
returns-clause-kept c =
    (run_added c.args.source.now c.args.nodes.now.items c.args.places.now c.in-Some.field-0-1.now c.in-Some.place.now (kept_text c.args.source.now c.args.run) c.index_mut-node.result.now (record c.index_mut-node.result.now { rest = c.in_ok-rest.rest })
    c.in-Some.ensures.cases.0 c.requires c.index_mut-node.ensures.value (with_run c.args.source.now c.index_mut-node.result.now c.replace-so_far.result c.in_ok-rest.rest (kept_text c.args.source.now c.args.run) c.replace-so_far.ensures.value c.in_ok-rest.ensures) refl).1
