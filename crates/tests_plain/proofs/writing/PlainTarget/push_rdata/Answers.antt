use Rattle.std.proofs.Common.{◌≡◌, ◌+◌, ◌++◌, ap, ◌∙◌, refl, length, take, drop, arith, rules}
use Rattle.std.proofs.lemmas.Grind.{common_steps}
use Rattle.std.proofs.lemmas.Result.{on_ok_weaker}
use Rattle.std.specs.Int.{to_be_bytes, w16}
use Rattle.dns_wire.specs.Parts.{encode_parts}
use Rattle.tests_plain.specs.PlainNames.{rule_of}
use Rattle.tests_plain.specs.declared.writing.PlainTarget.{PlainTarget}
use Rattle.tests_plain.proofs.ItemSteps.{appended, appends_length}
use Rattle.tests_plain.proofs.writing.PlainTarget.push_rdata.Goals as goal

pub returns : goal.returns
returns c =
    let left : c.unwrap_or-rdata.result.now ≡ drop (c.len-start.result + 2) c.deref.result.now = first_of (search rules, grind (arith, common_steps)) in
    on_ok_weaker c.extend_from_slice.result (λ items. λ x w is r.
    let old = c.args.self.now in
    let zeros : PlainTarget = record { octets = c.push_number.new.octets; table = old.table } in
    let mid = c.push_parts.new.self in
    let new : PlainTarget = record { octets = c.extend_from_slice.new.self; table = mid.table } in
    let start = c.len-start.result in
    let rdata = c.in_ok-rdata.rdata.items in
    let here : start ≡ length old.octets.items = omega (arith, c.len-start.ensures, old.octets.ok.0) in
    let size : c.len.result ≡ length rdata = omega (arith, c.len.ensures, c.in_ok-rdata.rdata.ok.0) in
    let same : rdata ≡ drop (start + 2) mid.octets.items = c.in_ok-rdata.ensures.items ∙ left ∙ ap (drop (start + 2)) c.deref.ensures.value in
    let numbered = c.in_ok-push_number-2.ensures ∙ (λ i. c.truncate.ensures.items i ++ to_be_bytes w16 (size i)) in
    let whole : new.octets.items ≡ take start mid.octets.items ++ to_be_bytes w16 (length rdata) ++ rdata = items ∙ (λ i. numbered i ++ c.deref-2.ensures.value i) in
    appends_length (encode_parts (rule_of c.args.rule) x) old zeros mid new w start rdata r here c.in_ok-push_number.ensures refl (λ w z. c.in_ok-push_parts.ensures x w is z) same whole refl)
    (appended c.extend_from_slice.result _ _ _ c.extend_from_slice.ensures.items)
