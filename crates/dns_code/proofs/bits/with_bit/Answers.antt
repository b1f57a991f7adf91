use Rattle.std.proofs.Common.{sym, w8}
use Rattle.std.proofs.lemmas.Nat.Bits.{bit_at_set_same, bit_at_set_other, bit_at_clear_same, bit_at_clear_other}
use Rattle.dns_code.proofs.bits.with_bit.Goals as goal

pub returns-then-set : goal.returns-then-set
returns-then-set c = record {
  changed = rw (bit_at_set_same w8 c.args.octet c.args.offset c.requires) (sym c.if-set.true);
  others = λ k h other. bit_at_set_other w8 c.args.octet c.args.offset c.requires k other;
}

pub returns-else-set : goal.returns-else-set
returns-else-set c = record {
  changed = rw (bit_at_clear_same w8 c.args.octet c.args.offset c.requires) (sym c.if-set.false);
  others = λ k h other. bit_at_clear_other w8 c.args.octet c.args.offset c.requires k h other;
}
