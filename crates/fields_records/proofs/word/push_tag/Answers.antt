use Rattle.std.specs.Prelude.{OnOk}
use Rattle.std.proofs.Common.{ℕ, List, ◌++◌, subst, ◌≡◌, ◌≤◌, true, length, refl, arith}
use Rattle.std.proofs.lemmas.Grind.{common_steps}
use Rattle.fields_text.specs.String.{is_tag}
use Rattle.fields_text.specs.LengthOctets.{counted}
use Rattle.fields_records.specs.FieldWords.{IsTagWord}
use Rattle.fields_text.proofs.theory.AppendLemmas.{appends}
use Rattle.fields_records.proofs.word.push_tag.Goals as goal

pub returns : goal.returns
returns c =
    let is : is_tag c.args.word.now ≡ true = grind (arith, common_steps) in
    let few : length c.args.word.now ≤ 255 = grind (arith, common_steps) in
    appends (IsTagWord c.args.word.now) (counted c.args.word.now) c.args.octets.now.items c.push_counted.new.octets.items c.push_counted.result (is, few, refl)
    (subst (λ (text : List ℕ). OnOk c.push_counted.result (c.push_counted.new.octets.items ≡ c.args.octets.now.items ++ counted text))
    c.as_bytes-tag.ensures.value c.push_counted.ensures.ok) c.push_counted.ensures.err
