use Rattle.std.proofs.Common.{arith}
use Rattle.std.proofs.lemmas.Str.{lead_after_ascii}
use Rattle.fields_text.proofs.line_words.after_first.Goals as goal

pub split_at-requires : goal.split_at-requires
split_at-requires c = (omega arith, lead_after_ascii c.args.text.now 0 c.utf8.text c.requires.ascii)
