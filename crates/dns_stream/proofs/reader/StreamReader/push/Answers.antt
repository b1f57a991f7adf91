use Rattle.std.proofs.Common.{◌∙◌, ◌+◌, ◌≤◌, ◌++◌, ℕ, List, length, slice_range, ap}
use Rattle.dns_stream.proofs.ReaderLemmas.{range-overwritten}
use Rattle.dns_stream.proofs.reader.StreamReader.push.Goals as goal

pub returns-clause-ok : goal.returns-clause-ok
returns-clause-ok c =
    let reader = c.lengthen.new.self in
    let octets = c.args.octets.now in
    let buffer = reader.buffer.items in
    let within : reader.end + length octets ≤ length buffer = c.in_ok-lengthen.ensures.long in
    ap (λ (b : List ℕ). slice_range b reader.start (reader.end + length octets)) c.overwrite.ensures.items
    ∙ range-overwritten buffer octets reader.start reader.end reader.ordered within
    ∙ ap (λ (b : List ℕ). b ++ octets) c.lengthen.ensures.same_left
