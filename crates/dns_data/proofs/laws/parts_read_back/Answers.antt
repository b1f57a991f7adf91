use Rattle.dns_data.proofs.theory.EncodedParts as parts
use Rattle.dns_data.proofs.laws.parts_read_back.Goals as goal

pub returns : goal.returns
returns c = parts.encoded_parts_read
