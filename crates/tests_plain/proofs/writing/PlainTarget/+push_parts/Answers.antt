use Rattle.std.proofs.Common.{ap, subst, sym, ◌∙◌}
use Rattle.std.proofs.lemmas.Result.{on_ok_weaker}
use Rattle.dns_wire.specs.Parts.{Part, encode_part, encode_parts}
use Rattle.dns_wire.specs.Targets.{Written, append}
use Rattle.tests_plain.specs.PlainNames.{rule_of, Represents}
use Rattle.tests_plain.specs.PlainItems.{IsPart}
use Rattle.tests_plain.specs.declared.writing.PlainTarget.{PlainTarget}
use Rattle.tests_plain.proofs.ItemSteps.{appends_none, appends_more, appends_octets_part, appends_name_part, no_parts, more_parts}
use Rattle.tests_plain.proofs.writing.PlainTarget.+push_parts.Goals as goal
use Rattle.tests_plain.proofs.writing.PlainTarget.+push_parts.Goals.{in-Octets+in_ok-extend_from_slice-in-Octets, in-CompressibleName+in_ok-push_name-in-CompressibleName}

pub returns-in_default : goal.returns-in_default
returns-in_default t c = λ x w is r.
    let rule = rule_of c.args.rule in
    appends_none IsPart (encode_part rule) (encode_parts rule) (no_parts rule) c.args.parts.now x c.args.self.now w c.in_default.ensures.cases is r

pub returns : goal.returns
returns t c =
    let rule = rule_of c.args.rule in
    let old = c.args.self.now in
    let mid : PlainTarget = c.match-part.self in
    let step : (y : Part) (v : Written) → IsPart c.in-Some.part.now y → Represents old v → Represents mid (append (encode_part rule y) v) = elim c.match-part.branch [
      | in-Octets+in_ok-extend_from_slice-in-Octets w ↦ λ y v is r.
          appends_octets_part rule w.in-Octets.octets y old mid v (subst (λ part. IsPart part y) w.in-Octets.is is) r
          (ap (λ (t : PlainTarget). t.octets.items) w.self-is ∙ w.in_ok-extend_from_slice-in-Octets.ensures.items) (ap (λ (t : PlainTarget). t.table) w.self-is)
      | in-CompressibleName+in_ok-push_name-in-CompressibleName w ↦ λ y v is r.
          subst (λ (t : PlainTarget). Represents t (append (encode_part rule y) v)) (sym w.self-is)
          (appends_name_part rule w.in-CompressibleName.name y old w.push_name.new.self v (subst (λ part. IsPart part y) w.in-CompressibleName.is is) r w.in_ok-push_name-in-CompressibleName.ensures)
    ] in
    on_ok_weaker c.push_parts.result (λ rest. λ x w is r.
    appends_more IsPart (encode_part rule) (encode_parts rule) (more_parts rule) _ _ _ x old mid c.push_parts.new.self w c.in-Some.ensures.cases.0 is r step rest) c.push_parts.ensures
