use Rattle.std.proofs.Common.{arith, rules}
use Rattle.net_build.proofs.FlowLaws.{flows-count}
use Rattle.net_build.proofs.FactLaws.{facts-bounded, facts-joined}
use Rattle.net_build.proofs.sections.section_facts.Goals as goal

pub flow-requires : goal.flow-requires
flow-requires c = let n = flows-count c.args.project.now c.requires.project in omega arith

pub returns-clause-value : goal.returns-clause-value
returns-clause-value c = search rules

pub returns-clause-bounds : goal.returns-clause-bounds
returns-clause-bounds c = facts-bounded c.args.project.now c.args.catalogues.now c.args.s _ c.requires.project c.requires.section (returns-clause-value c)

pub returns-clause-joined : goal.returns-clause-joined
returns-clause-joined c = facts-joined c.args.project.now c.args.catalogues.now c.args.s _ c.requires.project c.requires.section (returns-clause-value c) c.requires.grid
