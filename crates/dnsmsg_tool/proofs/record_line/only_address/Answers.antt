use Rattle.dns_data.specs.A.{address_of}
use Rattle.dnsmsg_tool.specs.ScriptRecords.{IsAddressWord}
use Rattle.dnsmsg_tool.proofs.EachLemmas.{only_read}
use Rattle.dnsmsg_tool.proofs.record_line.only_address.Goals as goal

pub returns-in-len1 : goal.returns-in-len1
returns-in-len1 c = only_read IsAddressWord address_of c.args.words.now _ c.address.result c.in-len1.len_at_least c.in-len1.len_below c.address.ensures
