use Rattle.std.proofs.Common.{ℕ, List, subst}
use Rattle.fields_plain.specs.EuiWords.{IsEuiWord}
use Rattle.fields_text.proofs.theory.AppendLemmas.{appends}
use Rattle.fields_plain.proofs.eui.push_eui48.Goals as goal

pub returns-in-Some : goal.returns-in-Some
returns-in-Some c =
    appends (IsEuiWord 6 c.args.word.now) c.in-Some.address c.args.octets.now.items c.push_octets.new.octets.items c.push_octets.result
    (subst (λ (text : List ℕ). IsEuiWord 6 text c.in-Some.address) c.as_bytes.ensures.value c.in-Some.ensures) c.push_octets.ensures.ok c.push_octets.ensures.err
