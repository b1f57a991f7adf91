use Rattle.std.proofs.Common.{◌∙◌, ◌++◌, List, ℕ, length, length-append, refl, ap, arith, rules}
use Rattle.std.specs.Prelude.{None, Some, string_bytes}
use Rattle.std.proofs.lemmas.Str.Pattern.{split_parts}
use Rattle.fields_lines.proofs.NameLemmas.{escape_step, spaced_alone}
use Rattle.fields_lines.proofs.name_word.push_spaced.Goals as goal

pub escapes-init : goal.escapes-init
escapes-init c = record { utf8 = search rules; same = refl }

pub escapes-smaller : goal.escapes-smaller
escapes-smaller c =
    let parts = split_parts 92 c.escapes.left.now (Some (c.in-Some.before, c.in-Some.after)) c.in-Some.ensures.cases (omega arith) in
    omega (arith, simp length-append at (ap length parts.0), c.in_ok-left.ensures.shorter)

pub escapes-preserved : goal.escapes-preserved
escapes-preserved c =
    let parts = split_parts 92 c.escapes.left.now (Some (c.in-Some.before, c.in-Some.after)) c.in-Some.ensures.cases (omega arith) in
    record {
      utf8 = search rules;
      same =
          escape_step (string_bytes c.escapes.text) (string_bytes c.push_str.new.self) (string_bytes c.push_str-in-Some.new.self) (string_bytes c.push_escaped.new.text) c.escapes.left.now
          c.in-Some.before.now c.in-Some.after.now _ parts.0 parts.1 c.in_ok-push_str.ensures.bytes c.in_ok-push_str-2.ensures.bytes c.in_ok-left.ensures.same
          ∙ c.escapes.invariant.same;
    }

pub returns : goal.returns
returns c =
    c.in_ok-push_str-3.ensures.bytes
    ∙ ap (λ (text : List ℕ). string_bytes c.escapes.text ++ text) (spaced_alone c.escapes.left.now (split_parts 92 c.escapes.left.now None c.in_default.ensures.cases (omega arith)))
    ∙ c.escapes.invariant.same
