use Rattle.std.proofs.Common.{ℕ, List, subst}
use Rattle.dns_stream.specs.Frames.{AreMissing}
use Rattle.dns_stream.proofs.reader.StreamReader.missing_octets.Goals as goal

pub returns : goal.returns
returns c = subst (λ (b : List ℕ). AreMissing b c.missing_octets.result) c.as_slice.ensures.octets c.missing_octets.ensures
