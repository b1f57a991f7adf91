use Rattle.std.proofs.Common.{◌^◌, inl, inr, arith, lit<}
use Rattle.dns_iana.proofs.serial_laws.less_is_not_transitive.Goals as goal

pub returns : goal.returns
returns c = (
  0,
  2 ^ 30,
  2 ^ 31,
  inl (lit< tt, lit< tt),
  inl (lit< tt, lit< tt),
  elim [ inl near ↦ omega (arith, near.1) | inr below ↦ omega (arith, below.0) ],
)
