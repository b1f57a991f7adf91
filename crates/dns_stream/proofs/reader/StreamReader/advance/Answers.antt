use Rattle.std.proofs.Common.{ℕ, ◌+◌, ◌≤◌, List, arith, refl, subst}
use Rattle.dns_stream.specs.Beginnings.{IsBeginning, IsWhole}
use Rattle.dns_stream.specs.declared.frames.Beginning.TheVariants.{Partial, Refused}
use Rattle.dns_stream.specs.Readers.{left}
use Rattle.dns_stream.proofs.ReaderLemmas.{begins_in_range, length-range}
use Rattle.dns_stream.proofs.reader.StreamReader.advance.Goals as goal

pub returns-in-Frame : goal.returns-in-Frame
returns-in-Frame c =
    let reader = c.args.self.now in
    let len = c.in-Frame.len in
    let whole : IsWhole reader.most (left reader) len = subst (λ (b : List ℕ). IsWhole reader.most b len) c.as_slice.ensures.octets c.in-Frame.ensures in
    let within : reader.start + (2 + len) ≤ reader.end = omega (arith, whole.there, length-range reader.buffer.items reader.start reader.end) in
    record {
      limit_stays = refl;
      allocated_stays = refl;
      accepted = whole.accepted;
      not_short = whole.not_short;
      there = omega arith;
      begins = begins_in_range reader.buffer.items reader.start reader.end len within whole.begins;
    }

pub returns-in-Partial : goal.returns-in-Partial
returns-in-Partial c =
    let most = c.args.self.now.most in
    let partial = subst (λ (b : List ℕ). IsBeginning most b Partial) c.as_slice.ensures.octets c.in-Partial.ensures in
    (partial.0, partial.1, refl)

pub returns-in-Refused : goal.returns-in-Refused
returns-in-Refused c =
    let most = c.args.self.now.most in
    (subst (λ (b : List ℕ). IsBeginning most b (Refused c.in-Refused.error)) c.as_slice.ensures.octets c.in-Refused.ensures, refl)
