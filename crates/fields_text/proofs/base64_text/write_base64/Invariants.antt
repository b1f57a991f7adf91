use Rattle.std.proofs.Common.{◌≡◌}
use Rattle.std.specs.Slice.Iter.{chunks_rest, chunks_size}
use Rattle.base64.specs.Engines.{standard}
use Rattle.base64.specs.GeneralPurpose.{encode_of}
use Rattle.fields_text.proofs.theory.Printing.{Printing}
use Rattle.fields_text.proofs.base64_text.write_base64.Given as goal

abbrev pub invariant-loop-piece : goal.invariant-loop-piece
invariant-loop-piece g l = record {
  can : (goal.iterator-loop-piece g).can_next l.piece-iterator;
  finite : (goal.iterator-loop-piece g).is_finite l.piece-iterator;
  size : chunks_size l.piece-iterator ≡ 768;
  printing : Printing g.W.TextWriter.takes l.fn.f l.f (encode_of standard (chunks_rest l.piece-iterator)) (encode_of standard l.fn.octets);
}
