use Rattle.std.proofs.Common.{[], subst, sym}
use Rattle.std.specs.Prelude.{Ok, Err}
use Rattle.std.proofs.lemmas.Result.{err_from_is_err_and}
use Rattle.dns_name.specs.NameReading.{name_labels}
use Rattle.dns_item.specs.QuestionTexts.{ReadsQuestionText, ReadsText, AreWords}
use Rattle.dns_item.specs.QuestionTexts.ReadsWords.{no_name}
use Rattle.dns_item.specs.declared.question_error.PresentationErrorEnum.TheVariants.{MissingQname}
use Rattle.dns_item.proofs.WordLemmas.{no_words}
use Rattle.dns_item.proofs.QuestionTextLemmas.{returns_kind, question_item_is, reads_bad_name, reads_named}
use Rattle.dns_item.proofs.question_text.QuestionNameArrayVecU8255FromStr.from_str.Goals as goal

pub returns-in_default : goal.returns-in_default
returns-in_default c =
    let are_words = subst (λ text. AreWords text []) c.split_whitespace-words.ensures.rest (no_words c.split_whitespace-words.result c.next.new.self c.in_default.ensures.steps) in
    returns_kind ⊥ c.args.text.now MissingQname c.of_kind.result c.of_kind.ensures (record { words = []; are_words = are_words; reads = no_name })

pub returns-in_err-qname : goal.returns-in_err-qname
returns-in_err-qname c =
    let made = err_from_is_err_and c.from_residual.result c.from_residual.ensures.1 in
    subst (λ r. ReadsQuestionText ⊥ c.args.text.now r) (sym made.1)
    (reads_bad_name c.args.text.now c.split_whitespace-words.result c.next.new.self c.in-Some.word c.split_whitespace-words.ensures.rest c.in-Some.ensures.steps c.utf8.text
    c.in_err-qname.field-0.0 made.0 c.in_err-qname.ensures made.2)

pub returns-in-Ok : goal.returns-in-Ok
returns-in-Ok c =
    let reads =
    reads_named c.args.text.now c.split_whitespace-words.result c.next.new.self c.in-Some.word c.split_whitespace-words.ensures.rest c.in-Some.ensures.steps c.utf8.text
    (name_labels c.in_ok-qname.qname) (Ok (_, _)) c.in_ok-qname.ensures c.in-Ok.ensures in
    let item = question_item_is name_labels c.new.result c.in_ok-qname.qname _ _ c.new.ensures.qname c.new.ensures.qtype c.new.ensures.qclass in
    subst (λ x. ReadsText c.args.text.now (Ok x)) (sym item) reads

pub returns-in-Err : goal.returns-in-Err
returns-in-Err c =
    let reads =
    reads_named c.args.text.now c.split_whitespace-words.result c.next.new.self c.in-Some.word c.split_whitespace-words.ensures.rest c.in-Some.ensures.steps c.utf8.text
    (name_labels c.in_ok-qname.qname) (Err c.in-Err.kind) c.in_ok-qname.ensures c.in-Err.ensures in
    returns_kind ⊥ c.args.text.now c.in-Err.kind c.of_kind-in-Err.result c.of_kind-in-Err.ensures reads
