use Rattle.std.proofs.Common.{ℕ, List, refl, sym, subst, inr}
use Rattle.std.specs.Net.Grammar.{IsDotted}
use Rattle.fields_text.proofs.theory.AppendLemmas.{appends}
use Rattle.fields_plain.proofs.address.push_ipv4.Goals as goal

pub returns-in-Some : goal.returns-in-Some
returns-in-Some c =
    appends (IsDotted c.args.word.now) c.in-Some.address c.args.octets.now.items c.push_octets.new.octets.items c.push_octets.result
    (subst (λ (text : List ℕ). IsDotted text c.in-Some.address) c.as_bytes.ensures.value c.in-Some.ensures) c.push_octets.ensures.ok c.push_octets.ensures.err

pub returns-in-None : goal.returns-in-None
returns-in-None c = inr (refl, λ octets is. c.in-None.ensures octets (subst (λ (text : List ℕ). IsDotted text octets) (sym c.as_bytes.ensures.value) is))
