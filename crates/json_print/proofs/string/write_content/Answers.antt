use Rattle.std.proofs.Common.{refl, rules}
use Rattle.json_print.proofs.Escapes.{content_printed}
use Rattle.json_print.proofs.string.write_content.Goals as goal

pub returns-clause-text : goal.returns-clause-text
returns-clause-text g c = content_printed _ _ _ _ _ _ _ (search rules) refl c.print_text.ensures.text
