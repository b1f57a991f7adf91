use Rattle.std.proofs.Common.{refl, arith}
use Rattle.std.specs.Prelude.{None}
use Rattle.std.proofs.lemmas.Str.Pattern.{strip_prefix_char}
use Rattle.fields_lists.proofs.theory.PrefixLemmas.{no_sign}
use Rattle.fields_lists.proofs.prefix_words.split_sign.Goals as goal

pub returns-in-None : goal.returns-in-None
returns-in-None c = record {
  whole = refl;
  first = λ e. no_sign c.args.word.now (strip_prefix_char 33 c.args.word.now None c.in-None.ensures.cases (omega arith));
}
