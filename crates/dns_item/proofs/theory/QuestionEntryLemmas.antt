-- At each offset a question is read, or there is one fault.
use Rattle.std.proofs.Common.{◌≡◌, ℕ, ◌+◌, ◌<◌, List, length, ap, sym, ◌∙◌, refl}
use Rattle.std.specs.Int.{w16}
use Rattle.dns_name.specs.Parsers.{number_at}
use Rattle.dns_name.proofs.theory.Names.{one_name}
use Rattle.dns_item.specs.Questions.{QuestionItem, ReadsQuestion, QuestionOrFault, QuestionEndOrFault, QuestionSkipAgrees}
use Rattle.dns_item.proofs.theory.FieldsAfterNames.{long_or_short, one_name_end, fields_from, ends_or_faults, reads_or_faults}

same_question : (b : List ℕ) (p q r : ℕ) (x y : QuestionItem) → ReadsQuestion b p q x → ReadsQuestion b p r y → x ≡ y
same_question b p q r x y h k =
    let e = one_name_end b (λ r. 4) h.skips k.skips in
    let name : x.name ≡ y.name = one_name b p _ _ h.name k.name in
    let rtype : x.rtype ≡ y.rtype = h.rtype ∙ ap (number_at w16 b) e ∙ sym k.rtype in
    let class : x.class ≡ y.class = h.class ∙ ap (λ n. number_at w16 b (n + 2)) e ∙ sym k.class in
    λ i. record { name = name i; rtype = rtype i; class = class i }

-- At each offset there is one question or one fault.
pub question_or_fault : QuestionOrFault
question_or_fault b =
    reads_or_faults b (λ r. 4) (λ r. length b < r + 4) (λ r. long_or_short b (r + 4)) (λ r l. l) (ReadsQuestion b) (λ x. x.name) (λ p q x h. (h.skips, h.name))
    (λ p r name s w l. (
      record { name = name; rtype = number_at w16 b r; class = number_at w16 b (r + 2) },
      record { skips = fields_from b (λ r. 4) w l; name = s; rtype = refl; class = refl },
    ))
    (same_question b)

-- At each offset a question can be skipped to one end, or there is one fault.
pub question_end_or_fault : QuestionEndOrFault
question_end_or_fault b = ends_or_faults b (λ r. 4) (λ r. length b < r + 4) (λ r. long_or_short b (r + 4)) (λ r l. l)

-- Where a question is, it is skipped to its end; where it can't be skipped, none is.
pub question_skip_agrees : QuestionSkipAgrees
question_skip_agrees = record { ends_alike = λ b p q x h. h.skips; fails_alike = λ b p q x f fault h. (question_end_or_fault b).not_both p q f h.skips fault }
