use Rattle.std.proofs.Common.{◌+◌, ◌∷◌, [], get_or, refl, arith}
use Rattle.std.specs.Prelude.{Some, None, decimal, unwrap_or}
use Rattle.std.proofs.lemmas.List.{take_rest}
use Rattle.fields_plain.specs.TypeNames.{class_word}
use Rattle.fields_text.specs.LineWords.{texts}
use Rattle.fields_lines.proofs.LineLemmas.{no_ttl, tail_empty, tail_more, type_data}
use Rattle.fields_lines.proofs.ProblemLemmas.{after_data}
use Rattle.fields_lines.specs.Lines.{IsAfterOwner, text_of_name}
use Rattle.fields_lines.proofs.problem.problem_after.Goals as goal

pub returns-in_default : goal.returns-in_default
returns-in_default c = λ owner.
    let head = c.take_head-ttl.result in
    record {
      ttl = head.0;
      class = head.1;
      after = texts head.2.now;
      is_head = c.take_head-ttl.ensures;
      is_tail =
          tail_empty c.args.defaults.now c.args.size owner head.0 head.1 head.2.now c.saturating_sub-at.result (omega arith) c.saturating_sub-at.ensures;
    }

pub returns-in_default-read_type : goal.returns-in_default-read_type
returns-in_default-read_type c = λ owner.
    let head = c.take_head-ttl.result in
    record {
      ttl = head.0;
      class = head.1;
      after = texts head.2.now;
      is_head = c.take_head-ttl.ensures;
      is_tail =
          tail_more c.args.defaults.now c.args.size owner head.0 head.1 head.2.now c.saturating_sub-at.result _
          (record { ref_ptr = (0, 0); now = [] }) None _ c.in-len1-up.len_at_least
          c.saturating_sub-at.ensures (take_rest head.2.now 1) c.in_default-read_type.ensures refl;
    }

pub returns-in_default-record_ttl : goal.returns-in_default-record_ttl
returns-in_default-record_ttl c = λ owner.
    let head = c.take_head-ttl.result in
    record {
      ttl = head.0;
      class = head.1;
      after = texts head.2.now;
      is_head = c.take_head-ttl.ensures;
      is_tail =
          tail_more c.args.defaults.now c.args.size owner head.0 head.1 head.2.now c.saturating_sub-at.result _
          (record { ref_ptr = (0, 0); now = [] }) (Some c.in-Some.rtype) _ c.in-len1-up.len_at_least
          c.saturating_sub-at.ensures (take_rest head.2.now 1) c.in-Some.ensures
          (no_ttl c.args.defaults.now c.saturating_sub-at.result owner head.0 head.1 _ c.in-Some.rtype _ c.in_default-record_ttl.ensures);
    }

pub returns-in-None : goal.returns-in-None
returns-in-None c = λ owner.
    let head = c.take_head-ttl.result in
    let defaults = c.args.defaults.now in
    let at = c.saturating_sub-at.result in
    let seconds = c.in-Some-record_ttl.field-0 in
    let own = unwrap_or head.1 defaults.class in
    let word = (get_or head.2.now 0 (record { ref_ptr = (0, 0); now = [] })).now in
    let words = owner ∷ decimal seconds ∷ class_word own ∷ word ∷ [] in
    after_data (IsAfterOwner defaults c.args.size owner (texts c.args.words.now)) (at + 1) _ None
    (λ completed done. record {
      ttl = head.0;
      class = head.1;
      after = texts head.2.now;
      is_head = c.take_head-ttl.ensures;
      is_tail =
          tail_more defaults c.args.size owner head.0 head.1 head.2.now at _ (record { ref_ptr = (0, 0); now = [] }) (Some c.in-Some.rtype) _ c.in-len1-up.len_at_least
          c.saturating_sub-at.ensures (take_rest head.2.now 1) c.in-Some.ensures
          (type_data defaults at owner head.0 head.1 word c.in-Some.rtype _ seconds own c.to_int.result (text_of_name defaults.origin) words completed c.in-Some-record_ttl.ensures refl
          c.to_int.ensures refl refl done);
    }) (c.in-None.ensures words)
