use Rattle.std.proofs.Common.{◌≡◌, ◌∙◌, ◌++◌, ◌∷◌, [], ◌/◌, ◌%◌, ap, arith}
use Rattle.std.proofs.lemmas.Result.{on_ok_weaker}
use Rattle.tests_plain.proofs.ItemSteps.{appended}
use Rattle.tests_plain.proofs.writing.push_number.Goals as goal

pub returns : goal.returns
returns c =
    let n = c.args.number in
    let high : n % 65536 / 256 % 256 ≡ n / 256 % 256 = omega arith in
    let low : n % 65536 % 256 ≡ n % 256 = omega arith in
    let same = c.to_be_bytes.ensures ∙ (λ i. high i ∷ low i ∷ []) in
    on_ok_weaker c.extend_from_slice.result (λ items. items ∙ ap (λ xs. c.args.octets.now.items ++ xs) same)
    (appended c.extend_from_slice.result _ _ _ c.extend_from_slice.ensures.items)
