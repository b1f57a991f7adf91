use Rattle.dns_stream.proofs.ReaderLemmas.{range_kept}
use Rattle.dns_stream.proofs.reader.StreamReader.grow.Goals as goal

pub returns-clause-same_left : goal.returns-clause-same_left
returns-clause-same_left c =
    let reader = c.args.self.now in
    range_kept reader.buffer.items c.grow.new.buffer.items reader.start reader.end reader.ordered reader.within c.grow.ensures.kept
