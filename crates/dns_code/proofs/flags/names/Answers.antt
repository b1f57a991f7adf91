use Rattle.std.proofs.Common.{lit<, rules}
use Rattle.std.specs.Str.{str_eq_ignore_ascii_case}
use Rattle.std.proofs.lemmas.Iterator.Search.{any_from_yields_List}
use Rattle.std.proofs.lemmas.Iterator.Splits.{YieldsList-from_str_split}
use Rattle.dns_code.specs.Flags.{space}
use Rattle.dns_code.proofs.flags.names.Goals as goal

pub returns : goal.returns
returns c =
    any_from_yields_List (λ token. str_eq_ignore_ascii_case token c.args.name.now) _ _ _ c.any.ensures.ran
    (YieldsList-from_str_split space c.args.text.now (lit< tt) c.split.ensures.text c.split.ensures.has_more c.split.ensures.pattern)
    (λ x b q k. search rules)
