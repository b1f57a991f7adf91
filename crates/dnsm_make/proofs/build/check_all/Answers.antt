use Rattle.dnsm_make.proofs.theory.BuildLemmas.{check_ends, check_more, next_item, no_items}
use Rattle.dnsm_make.proofs.build.check_all.Goals as goal

pub loop-item-preserved : goal.loop-item-preserved
loop-item-preserved c =
    check_more _ _ _ _ (next_item c.args.items.now c.loop-item.item-index _ c.loop-item-test.true) c.in_ok-check.ensures.means c.loop-item.invariant

pub returns-clause-mean : goal.returns-clause-mean
returns-clause-mean c = check_ends _ _ (no_items c.args.items.now c.loop-item.item-index c.loop-item-test.false) c.loop-item.invariant
