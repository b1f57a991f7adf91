use Rattle.std.proofs.Common.{◌≡◌, arith}
use Rattle.dns_name.specs.NameReading.{name_labels}
use Rattle.dnsmsg_tool.proofs.RecordLemmas.{no_address, no_alias, no_known, no_server, no_zone}
use Rattle.dnsmsg_tool.proofs.record_line.fields.Goals as goal

pub returns-in-None : goal.returns-in-None
returns-in-None c =
    let e : c.args.rtype ≡ 1 = omega arith in
    no_address name_labels c.args.rtype c.args.words.now e (rw c.in-None.is at c.in_ok-address-in-A.ensures)

pub returns-in-None-2 : goal.returns-in-None-2
returns-in-None-2 c =
    let e : c.args.rtype ≡ 2 = omega arith in
    no_server name_labels c.args.rtype c.args.words.now e (rw c.in-None-2.is at c.in_ok-name-in-NS.ensures)

pub returns-in-None-3 : goal.returns-in-None-3
returns-in-None-3 c =
    let e : c.args.rtype ≡ 5 = omega arith in
    no_alias name_labels c.args.rtype c.args.words.now e (rw c.in-None-3.is at c.in_ok-name-in-CNAME.ensures)

pub returns-in-None-4 : goal.returns-in-None-4
returns-in-None-4 c =
    let e : c.args.rtype ≡ 6 = omega arith in
    no_zone name_labels c.args.rtype c.args.words.now e (rw c.in-None-4.is at c.in_ok-zone-in-SOA.ensures)

pub returns-in_default : goal.returns-in_default
returns-in_default c = no_known name_labels c.args.rtype c.args.words.now (omega arith) (omega arith) (omega arith) (omega arith)
