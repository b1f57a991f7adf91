use Rattle.dns_name.specs.NameReading.{name_labels}
use Rattle.dnsmsg_tool.specs.ScriptCalls.{AreCallWords, stage_kind}
use Rattle.dnsmsg_tool.proofs.CallLemmas.{flags_reads, no_opt_call, stage_kind_is, push_reads, short_reads}
use Rattle.dnsmsg_tool.proofs.line.call_of_verb.Goals as goal

pub returns-in-push : goal.returns-in-push
returns-in-push g c = λ s is.
    push_reads name_labels s.stage s.header c.args.verb.now c.args.words.now (stage_kind c.args.stage.now) (stage_kind_is g.T.Composer.rule s c.args.stage.now is)
    c.push_of.result c.in-push.is c.push_of.ensures

pub returns-in-Some : goal.returns-in-Some
returns-in-Some g c = λ s is. AreCallWords.opt c.in-opt.is (rw c.in-Some.is at c.in_ok-plan-in-opt.ensures)

pub returns-in-None : goal.returns-in-None
returns-in-None g c = λ s is. no_opt_call name_labels s.stage s.header c.args.verb.now c.args.words.now c.in-opt.is (rw c.in-None.is at c.in_ok-plan-in-opt.ensures)

pub returns-in_ok-flags_change-in-flags : goal.returns-in_ok-flags_change-in-flags
returns-in_ok-flags_change-in-flags g c = λ s is.
    flags_reads name_labels s.stage s.header c.args.verb.now c.args.words.now c.in_ok-flags_change-in-flags.field-0 c.header_call.result c.in-flags.is
    c.in_ok-flags_change-in-flags.ensures (c.header_call.ensures s is)

pub returns-in_default : goal.returns-in_default
returns-in_default g c = λ s is.
    short_reads name_labels s.stage s.header c.args.verb.now c.args.words.now c.short_call.result c.in_default.not-push c.in_default.not-opt
    c.in_default.not-flags (c.short_call.ensures s is)
