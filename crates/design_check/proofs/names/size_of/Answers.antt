use Rattle.design_check.proofs.names.size_of.Goals as goal

pub returns-in-None-clause-within : goal.returns-in-None-clause-within
returns-in-None-clause-within c = (c.network_is_valid.ensures.sections c.args.s c.requires.section).some
