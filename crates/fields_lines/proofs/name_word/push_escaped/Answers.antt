use Rattle.std.proofs.Common.{length, ap, arith}
use Rattle.std.specs.Prelude.{None, Some, string_bytes}
use Rattle.std.proofs.lemmas.Str.Pattern.{strip_prefix_char}
use Rattle.fields_lines.proofs.NameLemmas.{backslash_step, other_step, space_step, tab_step}
use Rattle.fields_lines.proofs.name_word.push_escaped.Goals as goal

pub returns-in-Some-clause-same : goal.returns-in-Some-clause-same
returns-in-Some-clause-same c =
    let first = strip_prefix_char 32 c.args.after.now (Some c.in-Some.left) c.in-Some.ensures.cases (omega arith) in
    space_step (string_bytes c.args.text.now) (string_bytes c.push_str.new.self) c.in-Some.left.now c.args.after.now first c.in_ok-push_str.ensures.bytes

pub returns-in-Some-clause-shorter : goal.returns-in-Some-clause-shorter
returns-in-Some-clause-shorter c =
    let first = strip_prefix_char 32 c.args.after.now (Some c.in-Some.left) c.in-Some.ensures.cases (omega arith) in
    omega (arith, ap length first)

pub returns-in-Some-strip_prefix-clause-same : goal.returns-in-Some-strip_prefix-clause-same
returns-in-Some-strip_prefix-clause-same c =
    let first = strip_prefix_char 9 c.args.after.now (Some c.in-Some-strip_prefix.left) c.in-Some-strip_prefix.ensures.cases (omega arith) in
    tab_step (string_bytes c.args.text.now) (string_bytes c.push_str-in-Some-strip_prefix.new.self) c.in-Some-strip_prefix.left.now c.args.after.now first c.in_ok-push_str-2.ensures.bytes

pub returns-in-Some-strip_prefix-clause-shorter : goal.returns-in-Some-strip_prefix-clause-shorter
returns-in-Some-strip_prefix-clause-shorter c =
    let first = strip_prefix_char 9 c.args.after.now (Some c.in-Some-strip_prefix.left) c.in-Some-strip_prefix.ensures.cases (omega arith) in
    omega (arith, ap length first)

pub returns-in-Some-strip_prefix-2-clause-same : goal.returns-in-Some-strip_prefix-2-clause-same
returns-in-Some-strip_prefix-2-clause-same c =
    let first = strip_prefix_char 92 c.args.after.now (Some c.in-Some-strip_prefix-2.left) c.in-Some-strip_prefix-2.ensures.cases (omega arith) in
    backslash_step (string_bytes c.args.text.now) (string_bytes c.push_str-in-Some-strip_prefix-2.new.self) c.in-Some-strip_prefix-2.left.now c.args.after.now first
    c.in_ok-push_str-3.ensures.bytes

pub returns-in-Some-strip_prefix-2-clause-shorter : goal.returns-in-Some-strip_prefix-2-clause-shorter
returns-in-Some-strip_prefix-2-clause-shorter c =
    let first = strip_prefix_char 92 c.args.after.now (Some c.in-Some-strip_prefix-2.left) c.in-Some-strip_prefix-2.ensures.cases (omega arith) in
    omega (arith, ap length first)

pub returns-clause-same : goal.returns-clause-same
returns-clause-same c =
    other_step (string_bytes c.args.text.now) c.args.after.now (strip_prefix_char 32 c.args.after.now None c.in_default.ensures.cases (omega arith))
    (strip_prefix_char 9 c.args.after.now None c.in_default-strip_prefix.ensures.cases (omega arith))
    (strip_prefix_char 92 c.args.after.now None c.in_default-strip_prefix-2.ensures.cases (omega arith))
