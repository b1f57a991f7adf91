use Rattle.dns_item.proofs.theory.OneResult.{each_text_read, one_text_result, each_words_read, one_words_result}
use Rattle.dns_item.proofs.laws.questions_as_texts.Goals as goal

pub returns : goal.returns
returns c = record {
  each_text = each_text_read;
  one_answer = one_text_result;
  each_words = each_words_read;
  one_result_of_words = one_words_result;
}
