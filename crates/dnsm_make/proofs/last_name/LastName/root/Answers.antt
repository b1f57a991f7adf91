use Rattle.std.proofs.Common.{[], inl, refl}
use Rattle.dnsm_make.proofs.theory.BuildLemmas.{never_err}
use Rattle.dnsm_make.proofs.last_name.LastName.root.Goals as goal

pub unwrap-requires : goal.unwrap-requires
unwrap-requires c = never_err c.name_of.result _ c.name_of.ensures.none (λ fault none. none.1 [] (inl (refl, refl)))
