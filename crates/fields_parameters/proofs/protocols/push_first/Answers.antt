use Rattle.std.proofs.Common.{◌≡◌, List, ℕ, subst, arith}
use Rattle.fields_text.specs.Strings.{octet_at}
use Rattle.fields_parameters.specs.ProtocolNames.{SpellsNames}
use Rattle.fields_parameters.specs.PushedValues.{PushesValue}
use Rattle.fields_parameters.proofs.ProtocolLemmas.{at_bad_comma, at_comma, at_full, at_octet, no_name}
use Rattle.fields_parameters.proofs.SpelledLemmas.{spelled_shorter, split}
use Rattle.fields_parameters.proofs.protocols.push_first.Goals as goal

pub returns-then-not-push_name : goal.returns-then-not-push_name
returns-then-not-push_name g c =
    let begins = subst (λ (o : ℕ). octet_at c.args.text.now ≡ split o c.in-Some.after.now) c.if-first-eq44.true c.in-Some.ensures in
    at_bad_comma g.row.N c.args.name.now.items c.args.text.now c.in-Some.after.now begins c.args.value.now.items c.push_name.new.value.items c.if-not-push_name.ensures

pub returns-then-first-eq44 : goal.returns-then-first-eq44
returns-then-first-eq44 g c =
    let begins = subst (λ (o : ℕ). octet_at c.args.text.now ≡ split o c.in-Some.after.now) c.if-first-eq44.true c.in-Some.ensures in (
      spelled_shorter c.args.text.now c.in-Some.after.now c.in-Some.first c.in-Some.ensures,
      λ new pushed after.
          at_comma g.row.N c.args.name.now.items c.args.text.now c.in-Some.after.now begins c.args.value.now.items c.push_name.new.value.items new pushed c.if-not-push_name.ensures
          (subst (λ (n : List ℕ). PushesValue g.row.N (SpellsNames n c.in-Some.after.now) c.push_name.new.value.items new pushed) c.clear.ensures after),
    )

pub returns-in_default-split_name_octet : goal.returns-in_default-split_name_octet
returns-in_default-split_name_octet g c =
    no_name g.row.N c.args.name.now.items c.args.text.now c.in-Some.after.now c.in-Some.first c.in-Some.ensures c.if-first-eq44.false c.in_default-split_name_octet.ensures c.args.value.now.items

pub returns-in-Ok : goal.returns-in-Ok
returns-in-Ok g c =
    let shorter = c.in-Some-split_name_octet.ensures.shorter in
    let less = spelled_shorter c.args.text.now c.in-Some.after.now c.in-Some.first c.in-Some.ensures in (
      omega arith,
      λ new pushed after.
          at_octet g.row.N c.args.name.now.items c.args.text.now c.in-Some.after.now c.in-Some.first c.in-Some.ensures c.in-Some-split_name_octet.left.now c.in-Some-split_name_octet.octet
          c.in-Some-split_name_octet.ensures c.try_push.new.self.items c.args.value.now.items new pushed c.in-Ok.ensures.ok after,
    )

pub returns-in-Err : goal.returns-in-Err
returns-in-Err g c =
    at_full g.row.N c.args.name.now.items c.args.text.now c.in-Some.after.now c.in-Some.first c.in-Some.ensures c.in-Some-split_name_octet.left.now c.in-Some-split_name_octet.octet
    c.in-Some-split_name_octet.ensures (let full = c.in-Err.ensures.full in omega arith) c.args.value.now.items
