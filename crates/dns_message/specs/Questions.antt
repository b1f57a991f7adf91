-- Questions: their fields, how they are encoded, read and printed, and how they compare.
unfoldable pub use Rattle.dns_item.specs.Questions.{encode_question}
pub use Rattle.dns_item.specs.Questions.{QuestionItem, IsQuestion, question_fields, ReadsQuestion, SkipsQuestion, QuestionFaultAt}
pub use Rattle.dns_item.specs.Question.{qname_of, qtype_of, qclass_of, HasFields, question_item, parsed_question, ParsesQuestion, SkipsOverQuestion, question_text}
pub use Rattle.dns_item.specs.QuestionTexts.{ReadsQuestionText, ReadsSomeQuestion}
-- comparisons, and the statements of the theorems on questions
pub use Rattle.dns_item.specs.QuestionOrders.{questions_equal, question_order, canonical_question_order}
pub use Rattle.dns_item.specs.Questions.{QuestionOrFault, QuestionEndOrFault, QuestionSkipAgrees, QuestionsGrow, QuestionsReadBack}
