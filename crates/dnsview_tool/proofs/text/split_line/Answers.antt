use Rattle.std.proofs.Common.{ap, arith, length, length-take, rules, ◌+◌, ◌-◌, ◌≤◌, drop}
use Rattle.dnsview_tool.proofs.Printables.{printable_drop, printable_take}
use Rattle.dnsview_tool.proofs.text.split_line.Goals as goal

-- the space is within the first 47 octets of the words
pub slice_bounds-result-end-in-Some : goal.slice_bounds-result-end-in-Some
slice_bounds-result-end-in-Some c = omega (arith, c.in-Some.ensures.bound, ap length c.iter.ensures.rest, length-take 47 c.args.words.now, length-take c.in-Some.space c.args.words.now)

pub slice_bounds-result-count : goal.slice_bounds-result-count
slice_bounds-result-count c = omega (arith, c.in-Some.ensures.bound, ap length c.iter.ensures.rest, length-take 47 c.args.words.now)

pub slice_bounds-result-start : goal.slice_bounds-result-start
slice_bounds-result-start c =
    let within : c.in-Some.space + 1 ≤ length c.args.words.now = omega (arith, c.in-Some.ensures.bound, ap length c.iter.ensures.rest, length-take 47 c.args.words.now) in
    search (rules, within)

pub returns-in-Some-clause-fits : goal.returns-in-Some-clause-fits
returns-in-Some-clause-fits c = omega (arith, c.in-Some.ensures.bound, ap length c.iter.ensures.rest, length-take 47 c.args.words.now, length-take c.in-Some.space c.args.words.now)

pub returns-in-Some-clause-printable : goal.returns-in-Some-clause-printable
returns-in-Some-clause-printable c =
    let words = c.args.words.now in
    let after = c.in-Some.space + 1 in
    λ h. (printable_take c.in-Some.space words h, printable_take (length words - after) (drop after words) (printable_drop after words h))
