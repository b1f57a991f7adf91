use Rattle.dns_wire.proofs.theory.EncoderLaws as composing
use Rattle.dns_wire.proofs.target_laws.encoders_compose.Goals as goal

pub returns : goal.returns
returns c = record { one = composing.appends_compose; both = composing.composes_both; first = composing.composes_first }
