use Rattle.dns_build.proofs.theory.EncodingReading as encodings
use Rattle.dns_build.proofs.laws.encodings_are_messages.Goals as goal

pub returns : goal.returns
returns c = encodings.encodings_are_messages
