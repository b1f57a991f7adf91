use Rattle.std.proofs.Common.{◌∙◌, ◌+◌, drop, get_or, sym}
use Rattle.std.proofs.lemmas.List.{at_drop_all, at_drop_more}
use Rattle.fields_lines.specs.Durations.{duration_after}
use Rattle.fields_lines.proofs.DurationLemmas.{octet_end, octet_step}
use Rattle.fields_lines.proofs.duration.read_octets.Goals as goal

pub returns-in_default : goal.returns-in_default
returns-in_default c =
    let i = c.loop-octet.octet-index in
    let text = c.args.octets.now in
    let total = c.loop-octet.total in
    let number = c.loop-octet.number in
    sym (at_drop_more (duration_after total number) text i 0 c.loop-octet-test.true ∙ octet_end total number (get_or text i 0) (drop (i + 1) text) c.in_default.ensures) ∙ c.loop-octet.invariant

pub loop-octet-preserved : goal.loop-octet-preserved
loop-octet-preserved c =
    let i = c.loop-octet.octet-index in
    let text = c.args.octets.now in
    let total = c.loop-octet.total in
    let number = c.loop-octet.number in
    sym (at_drop_more (duration_after total number) text i 0 c.loop-octet-test.true
    ∙ octet_step total number (get_or text i 0) (drop (i + 1) text) (c.in-Some.seconds, c.in-Some.digits) c.in-Some.ensures)
    ∙ c.loop-octet.invariant

pub returns : goal.returns
returns c =
    c.seconds_at_end.ensures
    ∙ sym (at_drop_all (duration_after c.loop-octet.total c.loop-octet.number) c.args.octets.now c.loop-octet.octet-index c.loop-octet-test.false)
    ∙ c.loop-octet.invariant
