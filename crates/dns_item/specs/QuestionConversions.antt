-- What conversions of questions keep.
use Rattle.std.specs.Prelude.{◌≡◌}
use Rattle.dns_item.specs.Question.{qname_of, qtype_of, qclass_of}
use Rattle.dns_item.specs.declared.question.Question.{Question}

-- the converted question has the name as `Keeps` says, and the same type and class
pub record KeepsQuestion {M N : Type 0} (Keeps : M → N → Type 0) (source : Question M) (q : Question N) : Type 0 where
  pub name : Keeps (qname_of source) (qname_of q)
  pub rtype : qtype_of q ≡ qtype_of source
  pub class : qclass_of q ≡ qclass_of source
