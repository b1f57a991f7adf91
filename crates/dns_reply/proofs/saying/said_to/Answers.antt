use Rattle.std.proofs.Common.{◌<◌, length, subst}
use Rattle.dns_name.specs.Names.{fault_of}
use Rattle.dns_read.specs.Message.{message_octets}
use Rattle.dns_read.specs.RecordSection.{records_left}
use Rattle.dns_reply.specs.Records.{opt_count, opt_records}
use Rattle.dns_reply.specs.Records.IsUnreadable.{before}
use Rattle.dns_reply.specs.Sayings.SaysTo.{unreadable, many_opts}
use Rattle.dns_reply.proofs.SayingLemmas.{at_most_one, is_readable, opts_read, unreadable_within}
use Rattle.dns_reply.proofs.saying.said_to.Goals as goal

-- `c.in-Ok.ensures` is what `sections` ensures of the three cursors: `answer`, `authority` and `additional`.
pub returns-in-Err : goal.returns-in-Err
returns-in-Err g c = unreadable (before c.in-Err.ensures.fault)

pub returns-in-Err-check_sections : goal.returns-in-Err-check_sections
returns-in-Err-check_sections g c =
    let b = message_octets c.args.received.now in
    let e = c.in-Ok.ensures in
    unreadable (unreadable_within b c.in-Ok.answers c.in-Ok.authorities c.in-Ok.additionals e.answer e.authority e.additional (fault_of c.in-Err-check_sections.error) c.in-Err-check_sections.ensures)

pub returns-then-reads_many_opts : goal.returns-then-reads_many_opts
returns-then-reads_many_opts g c =
    let b = message_octets c.args.received.now in
    let e = c.in-Ok.ensures in
    let readable = is_readable b c.in-Ok.answers c.in-Ok.authorities c.in-Ok.additionals e.answer e.authority e.additional c.in_default.ensures in
    let more = c.reads_many_opts.ensures.0 c.if-reads_many_opts.true in
    many_opts readable (subst (λ n. 1 < n) (opts_read b c.in-Ok.answers c.in-Ok.authorities c.in-Ok.additionals e.answer e.authority e.additional) more)

pub said_soundly-requires : goal.said_soundly-requires
said_soundly-requires g c =
    let b = message_octets c.args.received.now in
    let e = c.in-Ok.ensures in
    let readable = is_readable b c.in-Ok.answers c.in-Ok.authorities c.in-Ok.additionals e.answer e.authority e.additional c.in_default.ensures in
    let same = opts_read b c.in-Ok.answers c.in-Ok.authorities c.in-Ok.additionals e.answer e.authority e.additional in
    let few = at_most_one (length (opt_records (records_left c.in-Ok.additionals))) (opt_count b) same c.reads_many_opts.ensures c.if-reads_many_opts.false in
    record { sound = record { readable = readable; one_opt = few }; answers = e.answer; authorities = e.authority }
