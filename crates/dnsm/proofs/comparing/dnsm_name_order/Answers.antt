use Rattle.std.proofs.Common.{◌≡◌, ◌∙◌, ap}
use Rattle.std.specs.Ordering.{ordering_index}
use Rattle.dns_name.specs.NameOrders.{name_order}
use Rattle.dnsm_text.proofs.theory.NamePairLemmas.{names_with}
use Rattle.dnsm.proofs.comparing.dnsm_name_order.Goals as goal

pub returns-in-Ok-clause-order : goal.returns-in-Ok-clause-order
returns-in-Ok-clause-order c =
    λ done.
    names_with c.args.message.now c.args.place c.args.other.now c.args.other_place (λ m n. c.in-Ok.found ≡ name_order m n)
    (λ m n. c.index_of.result ≡ ordering_index (name_order m n)) (λ m n is. c.index_of.ensures ∙ ap ordering_index is) c.in-Ok.ensures.order
