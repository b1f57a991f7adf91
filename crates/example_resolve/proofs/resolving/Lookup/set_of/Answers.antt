use Rattle.std.proofs.Common.{◌∙◌}
use Rattle.dns_message.specs.Names.{labels}
use Rattle.dns_message.specs.Replies.{members}
use Rattle.dns_message.specs.Sections.RecordSection.{records_left}
use Rattle.example_resolve.proofs.resolving.Lookup.set_of.Goals as goal

pub returns : goal.returns
returns c = c.new.ensures ∙ λ i. members (labels (c.name.ensures i)) 1 c.args.self.now.rtype (records_left (c.section.ensures i))
