use Rattle.std.proofs.Common.{lit<, rules}
use Rattle.std.proofs.lemmas.Iterator.Search.{all_from_yields_List}
use Rattle.std.proofs.lemmas.Iterator.Splits.{YieldsList-from_str_split}
use Rattle.dns_code.specs.Flags.{space, is_flags_token}
use Rattle.dns_code.proofs.flags.is_flags_text.Goals as goal

pub returns : goal.returns
returns c =
    all_from_yields_List is_flags_token _ _ _ c.all.ensures.ran
    (YieldsList-from_str_split space c.args.text.now (lit< tt) c.split.ensures.text c.split.ensures.has_more c.split.ensures.pattern)
    (λ x b q k. search rules)
