use Rattle.std.specs.Prelude.{◌↔◌, IsTrue}
use Rattle.dns_name.specs.Suffixes.{NameEndsWith}
use Rattle.dnsm_text.specs.NamePairs.{IsFlagOf}
use Rattle.dnsm_text.proofs.theory.NamePairLemmas.{flag_of, names_with}
use Rattle.dnsm.proofs.comparing.dnsm_name_below.Goals as goal

pub returns-in-Ok-clause-below : goal.returns-in-Ok-clause-below
returns-in-Ok-clause-below c =
    λ done.
    names_with c.args.message.now c.args.place c.args.other.now c.args.other_place (λ m n. IsTrue c.in-Ok.found ↔ NameEndsWith m n)
    (λ m n. IsFlagOf (NameEndsWith m n) c.from.result) (λ m n is. flag_of c.in-Ok.found (NameEndsWith m n) c.from.result c.from.ensures is) c.in-Ok.ensures.below
