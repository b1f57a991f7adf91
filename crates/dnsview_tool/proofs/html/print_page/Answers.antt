use Rattle.std.proofs.Common.{◌<◌, ◌≤◌, length, arith}
use Rattle.dnsview_tool.specs.Pages.{page_limit}
use Rattle.dnsview_tool.proofs.Appended.{printed_same}
use Rattle.dnsview_tool.proofs.PageForms.{brief_printed, full_printed}
use Rattle.dnsview_tool.proofs.html.print_page.Goals as goal

pub returns-then-len-page_limit : goal.returns-then-len-page_limit
returns-then-len-page_limit g c =
    let made = c.in_ok-full.full in
    let within : length made.items ≤ page_limit c.args.message.now = first_of (omega (arith, made.ok.0), grind (arith, c.len.ensures, c.page_limit.ensures)) in
    full_printed c.write_all.result _ _ c.args.message.now c.args.rows.now made.items c.in_ok-full.ensures within
    (printed_same _ _ _ _ c.write_all.result c.deref.ensures.value c.write_all.ensures.bytes)

pub returns : goal.returns
returns g c =
    let made = c.in_ok-full.full in
    let exceeds : page_limit c.args.message.now < length made.items = first_of (omega (arith, made.ok.0), grind (arith, c.len.ensures, c.page_limit.ensures)) in
    brief_printed c.print_page_of.result _ _ c.args.message.now c.args.rows.now made.items c.in_ok-full.ensures exceeds c.print_page_of.ensures
