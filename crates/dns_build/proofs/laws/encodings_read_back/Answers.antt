use Rattle.dns_build.proofs.theory.EncodingReading as encodings
use Rattle.dns_build.proofs.laws.encodings_read_back.Goals as goal

pub returns : goal.returns
returns c = record { reads = encodings.encodings_read_back; is_table = encodings.encodings_are_targets }
