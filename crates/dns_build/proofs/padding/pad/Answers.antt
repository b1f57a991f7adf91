use Rattle.std.proofs.Common.{sym}
use Rattle.std.proofs.lemmas.Bool.{cond-true}
use Rattle.dns_build.proofs.PaddingLemmas.{always_on_err, pads, pads-memory}
use Rattle.dns_build.proofs.padding.pad.Goals as goal

pub returns-in-Some-clause-padded : goal.returns-in-Some-clause-padded
returns-in-Some-clause-padded c =
    let few = c.in-Some.ensures in pads c.args.unpadded c.in-Some.octets c.args.opt.now c.padding.new.self c.args.block c.args.limit c.padding.result few.0 few.1 c.padding.ensures

pub returns-in-Some-clause-memory : goal.returns-in-Some-clause-memory
returns-in-Some-clause-memory c =
    let few = c.in-Some.ensures in pads-memory c.args.unpadded c.in-Some.octets c.args.opt.now c.padding.new.self c.padding.result c.requires.within few.2 c.padding.ensures

pub returns-in-Some-clause-adds : goal.returns-in-Some-clause-adds
returns-in-Some-clause-adds c = always_on_err c.padding.result c.in-Some.ensures.0

pub returns-in-None-clause-padded : goal.returns-in-None-clause-padded
returns-in-None-clause-padded c = sym (cond-true _ _ _ c.in-None.ensures)
