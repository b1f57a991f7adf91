use Rattle.std.proofs.Common.{◌+◌, ◌<◌, length, get_or, sym, ◌∙◌, eqb-true, ltb-true, arith}
use Rattle.dns_name.proofs.theory.CachedNames.{pointer_number}
use Rattle.dns_name.proofs.cached_name.CachedName.is_pointed_to.Goals as goal
use Rattle.dns_name.proofs.cached_name.CachedName.is_pointed_to.Goals.{then-word-self, else-word-self}

pub returns-then-self-lt255 : goal.returns-then-self-lt255
returns-then-self-lt255 c = λ back.
    elim c.if-word-self.branch [
      | then-word-self w ↦
          let within : c.args.start + 1 < length c.args.octets.now = omega arith in
          let first : get_or c.args.octets.now c.args.start 0 < 256 = omega (arith, c.type_inv.octets c.args.start) in
          let second : get_or c.args.octets.now (c.args.start + 1) 0 < 256 = omega (arith, c.type_inv.octets (c.args.start + 1)) in
          let after : c.from.result < c.args.start = ltb-true _ _ back in
          let known : c.args.self.now.size < 255 = ltb-true _ _ (sym w.value-is ∙ c.if-self-lt255.true) in
          record {
            there = pointer_number _ _ _ _ within first second c.args.self.now.reachable c.from_be_bytes-word.ensures w.if-word-self.true;
            back = omega (arith, after, c.from.ensures);
            known = omega (arith, known);
          }
      | else-word-self w ↦ absurd (w.if-word-self.false (eqb-true _ _ (sym w.value-is ∙ c.if-self-lt255.true)))
    ]
