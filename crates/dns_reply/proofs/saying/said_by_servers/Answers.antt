use Rattle.std.proofs.Common.{inl, inr, refl, sym}
use Rattle.std.specs.Prelude.{[], ◌∷◌}
use Rattle.dns_data.specs.NameData.{nsdname_of}
use Rattle.dns_item.specs.Record.{record_item}
use Rattle.dns_name.specs.ParsedName.{labels}
use Rattle.dns_wire.specs.Parts.Part.{CompressibleName}
use Rattle.dns_reply.specs.Sayings.SaysNone.{no_authority, referral, lame}
use Rattle.dns_reply.proofs.saying.said_by_servers.Goals as goal

pub returns-then-not-has_ns : goal.returns-then-not-has_ns
returns-then-not-has_ns c = no_authority refl c.requires (inl (sym c.if-not-has_ns.ensures))

pub returns-in-Some : goal.returns-in-Some
returns-in-Some c =
    let ns = record_item labels (λ _. 2) (λ ns. CompressibleName (labels (nsdname_of ns)) ∷ []) c.in-Some.record in
    rw c.owner.ensures (referral ns refl c.requires (sym c.in-Some.ensures))

pub returns-then-is_some : goal.returns-then-is_some
returns-then-is_some c = no_authority refl c.requires (inr (sym c.if-is_some.ensures, sym c.in-None.ensures))

pub returns-else-is_some : goal.returns-else-is_some
returns-else-is_some c = lame refl c.requires (sym c.if-not-has_ns.ensures) (sym c.in-None.ensures) (sym c.if-is_some.ensures)
