use Rattle.std.proofs.Common.{◌+◌, [], inr, refl, arith}
use Rattle.std.specs.Prelude.{Some, None, string_bytes}
use Rattle.std.specs.Option.{option_copied}
use Rattle.std.proofs.lemmas.List.{take_rest}
use Rattle.fields_text.specs.LineWords.{texts}
use Rattle.fields_lines.proofs.LineLemmas.{data_fails, no_ttl, tail_empty, tail_more, type_data}
use Rattle.fields_lines.specs.Completing.{texts_of}
use Rattle.fields_lines.specs.Lines.{IsAfterOwner}
use Rattle.fields_lines.specs.declared.line_error.WordReason.TheVariants.{Missing, NoTtl, NoType}
use Rattle.fields_lines.proofs.line.complete_after.Goals as goal

pub returns-in_default : goal.returns-in_default
returns-in_default c =
    let head = c.take_head-ttl.result in
    inr (
      (c.saturating_sub-at.result, Missing),
      record {
        ttl = head.0;
        class = head.1;
        after = texts head.2.now;
        is_head = c.take_head-ttl.ensures;
        is_tail =
            tail_empty c.args.defaults.now c.args.size (string_bytes c.args.owner) head.0 head.1 head.2.now c.saturating_sub-at.result (omega arith)
            c.saturating_sub-at.ensures;
      },
      c.bad_word.ensures,
    )

pub returns-in_default-read_type : goal.returns-in_default-read_type
returns-in_default-read_type c =
    let head = c.take_head-ttl.result in
    inr (
      (c.saturating_sub-at.result, NoType),
      record {
        ttl = head.0;
        class = head.1;
        after = texts head.2.now;
        is_head = c.take_head-ttl.ensures;
        is_tail =
            tail_more c.args.defaults.now c.args.size (string_bytes c.args.owner) head.0 head.1 head.2.now c.saturating_sub-at.result _
            (record { ref_ptr = (0, 0); now = [] }) None _ c.in-len1-up.len_at_least
            c.saturating_sub-at.ensures (take_rest head.2.now 1) c.in_default-read_type.ensures refl;
      },
      c.bad_word-in_default-read_type.ensures,
    )

pub returns-in_default-record_ttl : goal.returns-in_default-record_ttl
returns-in_default-record_ttl c =
    let head = c.take_head-ttl.result in
    inr (
      (c.saturating_sub-at.result, NoTtl),
      record {
        ttl = head.0;
        class = head.1;
        after = texts head.2.now;
        is_head = c.take_head-ttl.ensures;
        is_tail =
            tail_more c.args.defaults.now c.args.size (string_bytes c.args.owner) head.0 head.1 head.2.now c.saturating_sub-at.result _
            (record { ref_ptr = (0, 0); now = [] }) (Some c.in-Some.rtype) _ c.in-len1-up.len_at_least
            c.saturating_sub-at.ensures (take_rest head.2.now 1) c.in-Some.ensures
            (no_ttl c.args.defaults.now c.saturating_sub-at.result (string_bytes c.args.owner) head.0 head.1 _ c.in-Some.rtype _ c.in_default-record_ttl.ensures);
      },
      c.bad_word-in_default-record_ttl.ensures,
    )

pub returns-in-Ok-complete_data : goal.returns-in-Ok-complete_data
returns-in-Ok-complete_data c =
    let head = c.take_head-ttl.result in
    record {
      ttl = head.0;
      class = head.1;
      after = texts head.2.now;
      is_head = c.take_head-ttl.ensures;
      is_tail =
          tail_more c.args.defaults.now c.args.size (string_bytes c.args.owner) head.0 head.1 head.2.now c.saturating_sub-at.result _
          (record { ref_ptr = (0, 0); now = [] }) (Some c.in-Some.rtype) _ c.in-len1-up.len_at_least
          c.saturating_sub-at.ensures (take_rest head.2.now 1) c.in-Some.ensures
          (type_data c.args.defaults.now c.saturating_sub-at.result (string_bytes c.args.owner) head.0 head.1 _ c.in-Some.rtype _ c.in-Some-record_ttl.ttl c.unwrap_or-class.result c.to_int.result
          (option_copied c.args.origin) (texts_of c.push_head.new.completed.items) _ c.in-Some-record_ttl.ensures c.unwrap_or-class.ensures c.to_int.ensures
          c.requires.origin c.in-Ok.ensures c.in-Ok-complete_data.ensures);
    }

pub returns-in-Err : goal.returns-in-Err
returns-in-Err c =
    let head = c.take_head-ttl.result in
    data_fails (IsAfterOwner c.args.defaults.now c.args.size (string_bytes c.args.owner) (texts c.args.words.now)) (c.saturating_sub-at.result + 1) _
    c.in-Err.error (texts_of c.complete_data.new.completed.items)
    (λ completed done. record {
      ttl = head.0;
      class = head.1;
      after = texts head.2.now;
      is_head = c.take_head-ttl.ensures;
      is_tail =
          tail_more c.args.defaults.now c.args.size (string_bytes c.args.owner) head.0 head.1 head.2.now c.saturating_sub-at.result _
          (record { ref_ptr = (0, 0); now = [] }) (Some c.in-Some.rtype) _ c.in-len1-up.len_at_least
          c.saturating_sub-at.ensures (take_rest head.2.now 1) c.in-Some.ensures
          (type_data c.args.defaults.now c.saturating_sub-at.result (string_bytes c.args.owner) head.0 head.1 _ c.in-Some.rtype _ c.in-Some-record_ttl.ttl c.unwrap_or-class.result c.to_int.result
          (option_copied c.args.origin) (texts_of c.push_head.new.completed.items) completed c.in-Some-record_ttl.ensures c.unwrap_or-class.ensures c.to_int.ensures
          c.requires.origin c.in-Ok.ensures done);
    }) c.in-Err.ensures
