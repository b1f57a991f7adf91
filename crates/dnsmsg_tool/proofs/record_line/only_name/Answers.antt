use Rattle.dns_name.specs.NameReading.{name_labels}
use Rattle.dns_name.specs.NameTexts.{SpellsName}
use Rattle.dnsmsg_tool.proofs.EachLemmas.{only_read}
use Rattle.dnsmsg_tool.proofs.record_line.only_name.Goals as goal

pub returns-in-len1 : goal.returns-in-len1
returns-in-len1 c = only_read SpellsName name_labels c.args.words.now _ c.name.result c.in-len1.len_at_least c.in-len1.len_below c.name.ensures
