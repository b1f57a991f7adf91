use Rattle.std.proofs.Common.{◌/◌, ◌%◌, arith}
use Rattle.dnsview_tool.proofs.Printables.{printable_digits}
use Rattle.dnsview_tool.proofs.printable.escape.Goals as goal

pub returns : goal.returns
returns c =
    let octet = c.args.octet in
    printable_digits (octet / 100) (octet / 10 % 10) (octet % 10) (omega arith) (omega arith) (omega arith)
