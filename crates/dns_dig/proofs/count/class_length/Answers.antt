use Rattle.std.proofs.Common.{◌∙◌, refl}
use Rattle.dns_dig.proofs.Counted.{counted_whole}
use Rattle.dns_dig.proofs.count.class_length.Goals as goal

pub returns-clause-value : goal.returns-clause-value
returns-clause-value c = c.near.ensures.value ∙ counted_whole _ _ _ _ c.write_class_name.ensures.text c.write_class_name.ensures.err refl
