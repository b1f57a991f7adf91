use Rattle.dns_print.proofs.theory.Prints.{displayed_plain, displayed_styled}
use Rattle.fields_lists.specs.ItemsLeft.{prefix_item}
use Rattle.fields_lists.specs.Prefixes.{prefix_word}
use Rattle.fields_lists.proofs.prefix.PrefixTextDisplay.fmt.Goals as goal

pub returns-clause-writes : goal.returns-clause-writes
returns-clause-writes g c = displayed_plain _ _ _ _ (prefix_word (prefix_item c.args.self.now.0)) c.write_prefix.ensures.text

pub returns-clause-styled : goal.returns-clause-styled
returns-clause-styled g c = displayed_styled _ _ _ _ (prefix_word (prefix_item c.args.self.now.0)) c.write_prefix.ensures.text
