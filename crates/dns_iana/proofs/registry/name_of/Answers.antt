use Rattle.std.proofs.Common.{rules, []}
use Rattle.std.proofs.lemmas.List.Sorted.{answers_always}
use Rattle.dns_iana.proofs.RegistryLemmas.{found, absent}
use Rattle.dns_iana.proofs.registry.name_of.Goals as goal

pub returns-in-Ok : goal.returns-in-Ok
returns-in-Ok c =
    let facts = c.in-Ok.ensures in
    found _ c.requires c.args.number c.in-Ok.index _ facts.bound (facts.position (λ entry. entry.0) (answers_always _ _ _ (λ f a r g called. search rules)))

pub returns-in-Err : goal.returns-in-Err
returns-in-Err c =
    let facts = c.in-Err.ensures in
    absent _ c.requires c.args.number c.in-Err.field-0 (0, record { ref_ptr = (0, 0); now = [] }) facts.bound
    (facts.position (λ entry. entry.0) (answers_always _ _ _ (λ f a r g called. search rules)))
