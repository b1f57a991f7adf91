use Rattle.std.proofs.Common.{◌+◌, ◌≡◌, ◌∙◌, ap, sym, refl, length, drop, length-drop, arith}
use Rattle.fields_forms.specs.PlainNames.{name_size_after}
use Rattle.fields_text.proofs.theory.OctetsAfter.{after, after_both, after_length}
use Rattle.fields_forms.proofs.NameSteps.{Label, label_step, label_long, label_full, label_short}
use Rattle.fields_forms.proofs.plain_names.plain_name_size.Goals as goal
use Rattle.fields_forms.proofs.plain_names.plain_name_size.Goals.{then-length-gt-MAX_LEN-via-then-length-gt-MAX_LEN, then-length-gt-MAX_LEN-via-else-length-gt-MAX_LEN+then-size-length-gt-MAX_SIZE, then-length-gt-MAX_LEN-via-else-length-gt-MAX_LEN+else-size-length-gt-MAX_SIZE+then-length-rest}

pub returns-then-length-gt-MAX_LEN-clause-size : goal.returns-then-length-gt-MAX_LEN-clause-size
returns-then-length-gt-MAX_LEN-clause-size c =
    let left = c.labels.left.now in
    let h : Label left c.from-length.result = record { some = c.in-len1-up.len_at_least; is = c.from-length.ensures; not_root = c.if-length-eq0.false } in
    elim c.then-length-gt-MAX_LEN.branch [
      | then-length-gt-MAX_LEN-via-then-length-gt-MAX_LEN w ↦ sym (c.labels.invariant.0 ∙ label_long _ _ left h w.if-length-gt-MAX_LEN.true)
      | then-length-gt-MAX_LEN-via-else-length-gt-MAX_LEN+then-size-length-gt-MAX_SIZE w ↦ sym (c.labels.invariant.0 ∙ label_full _ _ left h w.if-size-length-gt-MAX_SIZE.true)
      | then-length-gt-MAX_LEN-via-else-length-gt-MAX_LEN+else-size-length-gt-MAX_SIZE+then-length-rest w ↦ sym (c.labels.invariant.0 ∙ label_short _ _ left h w.if-length-rest.true)
    ]

pub labels-preserved : goal.labels-preserved
labels-preserved c =
    let left = c.labels.left.now in
    let n = c.from-length.result in
    let h : Label left n = record { some = c.in-len1-up.len_at_least; is = c.from-length.ensures; not_root = c.if-length-eq0.false } in
    let total : c.labels.size + 1 + n ≡ c.labels.size + (1 + n) = omega arith in
    let size = c.labels.invariant.2 in (
      c.labels.invariant.0 ∙ label_step _ _ left h c.if-length-gt-MAX_LEN.false c.if-size-length-gt-MAX_SIZE.false c.if-length-rest.false
          ∙ ap (λ k. name_size_after k 0 (after n (after 1 left))) total,
      omega (arith, c.if-size-length-gt-MAX_SIZE.false),
      (let rest = ap length (after_both 1 n left _ refl) in let here = after_length 1 left _ refl in omega (arith, c.if-length-rest.false, length-drop 1 left, length-drop n (drop 1 left))),
    )
