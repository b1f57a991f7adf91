use Rattle.std.proofs.Common.{◌+◌, ◌≤◌, ap, sym, ◌∙◌, subst, arith, length, take}
use Rattle.dns_wire.specs.Targets.{overwrite}
use Rattle.dns_build.specs.BuilderStates.{IsMessage}
use Rattle.dns_build.proofs.Messages.{message-cut_to, message-overwrite, header_clear}
use Rattle.dns_build.proofs.draft.Draft.cut_section.Goals as goal

pub write_at-requires-clause-clear : goal.write_at-requires-clause-clear
write_at-requires-clause-clear g c =
    let two = ap length c.to_be_bytes.ensures in
    header_clear _ c.args.offset (length c.to_be_bytes.result) (omega (arith, two, c.requires.in_header))
    (subst IsMessage (sym c.truncate.ensures.cut) (message-cut_to _ c.args.end c.requires.end c.self.invariant.0))

pub invariant_of-self : goal.invariant_of-self
invariant_of-self g c =
    let cut = message-cut_to _ c.args.end c.requires.end c.self.invariant.0 in
    let long = cut.long in
    let two = ap length c.to_be_bytes.ensures in
    let capacity : c.args.offset + length c.to_be_bytes.result ≤ length (take c.args.end (g.T.Composer.written c.self.inside.target).octets) = omega (arith, two, c.requires.in_header) in (
      subst IsMessage (sym (c.write_at.ensures ∙ ap (overwrite c.args.offset c.to_be_bytes.result) c.truncate.ensures.cut))
          (message-overwrite c.args.offset c.to_be_bytes.result _ capacity cut),
      c.self.invariant.1,
    )
