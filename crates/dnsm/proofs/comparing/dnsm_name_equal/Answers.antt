use Rattle.std.proofs.Common.{◌≡◌, ◌∙◌, Bool, true, false, ap, refl}
use Rattle.std.specs.Int.{from_bool}
use Rattle.std.specs.Prelude.{if◌then◌else◌}
use Rattle.dns_name.specs.NameOrders.{names_equal}
use Rattle.dnsm_text.proofs.theory.NamePairLemmas.{names_with}
use Rattle.dnsm.proofs.comparing.dnsm_name_equal.Goals as goal

flag_is : (b : Bool) → from_bool b ≡ (if b then 1 else 0)
flag_is true = refl
flag_is false = refl

pub returns-in-Ok-clause-equal : goal.returns-in-Ok-clause-equal
returns-in-Ok-clause-equal c =
    λ done.
    names_with c.args.message.now c.args.place c.args.other.now c.args.other_place (λ m n. c.in-Ok.found ≡ names_equal m n)
    (λ m n. c.from.result ≡ (if names_equal m n then 1 else 0)) (λ m n is. c.from.ensures ∙ ap from_bool is ∙ flag_is (names_equal m n)) c.in-Ok.ensures.equal
