use Rattle.fields_parameters.proofs.theory.ParameterTexts.{parameters_split}
use Rattle.fields_text.proofs.theory.SpacedTexts.{words_are}
use Rattle.fields_parameters.proofs.laws.printed_parameters_are_words.Goals as goal

pub returns : goal.returns
returns c = λ octets bytes. words_are _ _ (parameters_split octets bytes)
