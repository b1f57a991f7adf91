use Rattle.dnsmsg_tool.proofs.OptionLemmas.{few_plan, plan_words}
use Rattle.std.proofs.Common.{arith}
use Rattle.dnsmsg_tool.proofs.opt_line.plan.Goals as goal

pub returns-in_default : goal.returns-in_default
returns-in_default c = few_plan c.args.words.now (omega arith)

pub returns : goal.returns
returns c = plan_words c.args.words.now c.plan_of.result (omega arith) c.plan_of.ensures
