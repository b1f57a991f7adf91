use Rattle.std.proofs.Common.{◌++◌, List, ℕ, ap, codes}
use Rattle.fields_text.specs.String.{quoted}
use Rattle.dnsview_tool.proofs.Appended.{printed_same}
use Rattle.dnsview_tool.proofs.program.print_named.Goals as goal

pub returns : goal.returns
returns g c =
    printed_same _ _ _ _ c.writeln.result (ap (λ (octets : List ℕ). codes "dnsview: unexpected argument " ++ quoted octets ++ codes "\n") c.as_bytes.ensures.value) c.writeln.ensures.bytes
