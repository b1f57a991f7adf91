use Rattle.std.proofs.Common.{Err, ap, ◌∙◌, arith}
use Rattle.std.proofs.lemmas.Result.{err_from_is_err_and}
use Rattle.dns_wire.specs.Encoders.{encode_octets, encode_name}
use Rattle.dns_wire.proofs.theory.EncodedNames.{encode_name_grows}
use Rattle.dns_wire.proofs.theory.EncoderLaws.{appends_compose, composes_both, composes_first}
use Rattle.dns_item.specs.Questions.{encode_question, question_fields}
use Rattle.dns_item.specs.Question.{question_item}
use Rattle.dns_item.proofs.question.Question.compose.Goals as goal

pub returns-in_err-append_compressed_name-clause-composes : goal.returns-in_err-append_compressed_name-clause-composes
unfolding encode_question
returns-in_err-append_compressed_name-clause-composes g c =
    let p = err_from_is_err_and c.from_residual.result c.from_residual.ensures.1 in
    let x = question_item g.N.ToName.name c.args.self.now in
    composes_first _ _ _ (encode_octets (question_fields x)) _ _ c.append_compressed_name.result c.from_residual.result c.in_err-append_compressed_name.field-0.0
    c.in_err-append_compressed_name.was (p.1 ∙ ap Err p.2)
    (appends_compose _ _ _ _ _ _ c.append_compressed_name.ensures)

pub returns-in_err-append_compressed_name-clause-item : goal.returns-in_err-append_compressed_name-clause-item
returns-in_err-append_compressed_name-clause-item g c = record { name = g.met.N.ToName.is_name _; rtype = omega arith; class = omega arith }

pub returns-clause-composes : goal.returns-clause-composes
unfolding encode_question
returns-clause-composes g c =
    let x = question_item g.N.ToName.name c.args.self.now in
    composes_both _ _ (encode_name g.T.Composer.rule x.name) (encode_octets (question_fields x)) _ _ _ _ (encode_name_grows g.T.Composer.rule x.name)
    c.in_ok-append_compressed_name.ensures.ok
    (appends_compose _ _ _ _ _ _ (rw (c.to_be_bytes.ensures, c.to_be_bytes-2.ensures, c.to_int.ensures, c.to_int-2.ensures, c.qtype.ensures, c.qclass.ensures) at c.append_slice.ensures))

pub returns-clause-item : goal.returns-clause-item
returns-clause-item g c = record { name = g.met.N.ToName.is_name _; rtype = omega arith; class = omega arith }
