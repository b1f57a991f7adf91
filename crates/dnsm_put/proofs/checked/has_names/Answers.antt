use Rattle.dnsm_put.proofs.NamedData.{named_data}
use Rattle.dnsm_put.proofs.checked.has_names.Goals as goal

pub returns-in-Name : goal.returns-in-Name
returns-in-Name c = λ t has. named_data c.args.item.now has (λ e. cc (c.layout_of_item.ensures, c.in-Name.is))

pub returns-in-TwoNames : goal.returns-in-TwoNames
returns-in-TwoNames c = λ t has. named_data c.args.item.now has (λ e. cc (c.layout_of_item.ensures, c.in-TwoNames.is))
