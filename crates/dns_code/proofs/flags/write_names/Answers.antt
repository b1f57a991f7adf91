use Rattle.std.proofs.Common.{◌∙◌, take, ap, rules, Bor, List, ℕ, sym}
use Rattle.dns_print.proofs.theory.Prints.{print_three}
use Rattle.dns_code.specs.Flags.{names_shown}
use Rattle.dns_code.proofs.FlagsLemmas.{separator_after-push, joined_more, names_shown-set, names_shown-unset}
use Rattle.dns_code.proofs.flags.write_names.Goals as goal
use Rattle.dns_code.proofs.flags.write_names.Goals.{then-is_set+in_ok-write_text+in_ok-write_text-2, else-is_set}

pub loop-is_set-preserved : goal.loop-is_set-preserved
loop-is_set-preserved g c =
    elim c.if-is_set.branch [
      | then-is_set+in_ok-write_text+in_ok-write_text-2 w ↦
          let before = names_shown (take c.loop-is_set.is_set-index c.args.names.now) in
          let more = names_shown-set c.args.names.now c.loop-is_set.is_set-index _ c.loop-is_set-test.true w.if-is_set.true in (
            search rules,
            rw more (ap (λ (s : Bor (List ℕ)). s.now) w.separator-is ∙ sym (separator_after-push before _)),
            let first = w.write_text.ensures.text (search rules) in
                let second = w.write_text-then-is_set.ensures.text (search rules) in
                rw (w.f-is, more) (print_three _ _ _ _ _ _ _ _ _ c.loop-is_set.invariant.2 first second (joined_more before _ _ c.loop-is_set.invariant.1)),
          )
      | else-is_set w ↦
          let same = names_shown-unset c.args.names.now c.loop-is_set.is_set-index _ c.loop-is_set-test.true w.if-is_set.false in
          rw (w.f-is, w.separator-is, same) c.loop-is_set.invariant
    ]
