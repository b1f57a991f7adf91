use Rattle.std.proofs.Common.{arith, rules, false}
use Rattle.std.specs.Prelude.{None, Some}
use Rattle.std.proofs.lemmas.Str.Pattern.{split_parts}
use Rattle.fields_parameters.specs.ParameterValues.{IsHint, comma_texts}
use Rattle.fields_parameters.proofs.CommaLemmas.{first_text, joined_more, joined_none, joined_one, text_alone}
use Rattle.fields_parameters.proofs.ValueLemmas.{one_hint}
use Rattle.fields_parameters.proofs.parameter_value.push_hints.Goals as goal

pub hints-init : goal.hints-init
hints-init g c = record { utf8 = search rules; whole = λ new pushed all. all }

pub hints-preserved : goal.hints-preserved
hints-preserved g c =
    let parts = split_parts 44 c.hints.left.now (Some (c.in-Some.first, c.in-Some.others)) c.in-Some.ensures.cases (omega arith) in
    record {
      utf8 = search rules;
      whole = λ new pushed others.
          c.hints.invariant.whole new pushed
          (joined_more g.row.N (IsHint c.args.key) (one_hint c.args.key) c.in-Some.first.now (comma_texts c.in-Some.others.now) (comma_texts c.hints.left.now) c.hints.value.items
          c.push_hint.new.value.items new pushed (first_text c.hints.left.now c.in-Some.first.now c.in-Some.others.now parts.0 parts.1) c.if-not-push_hint.ensures others);
    }

pub returns-then-not-push_hint : goal.returns-then-not-push_hint
returns-then-not-push_hint g c =
    let parts = split_parts 44 c.hints.left.now (Some (c.in-Some.first, c.in-Some.others)) c.in-Some.ensures.cases (omega arith) in
    c.hints.invariant.whole c.push_hint.new.value.items false
    (joined_none g.row.N (IsHint c.args.key) c.in-Some.first.now (comma_texts c.in-Some.others.now) (comma_texts c.hints.left.now) c.hints.value.items
    c.push_hint.new.value.items c.push_hint.new.value.items (first_text c.hints.left.now c.in-Some.first.now c.in-Some.others.now parts.0 parts.1) c.if-not-push_hint.ensures)

pub returns : goal.returns
returns g c =
    c.hints.invariant.whole c.push_hint-2.new.value.items c.push_hint-2.result
    (joined_one g.row.N (IsHint c.args.key) c.hints.left.now (comma_texts c.hints.left.now) c.hints.value.items c.push_hint-2.new.value.items c.push_hint-2.result
    (text_alone c.hints.left.now (split_parts 44 c.hints.left.now None c.in_default.ensures.cases (omega arith))) c.push_hint-2.ensures)
