use Rattle.std.proofs.Common.{◌≡◌, ◌∙◌, ap, arith, length, List, ℕ}
use Rattle.dns_code.specs.declared.header.Header.{Header}
use Rattle.dns_code.specs.declared.counts.HeaderCounts.{HeaderCounts}
use Rattle.dns_code.proofs.SectionLemmas.{front, after_front}
use Rattle.dns_code.proofs.section.HeaderSection.set_header.Goals as goal

pub returns-clause-header : goal.returns-clause-header
returns-clause-header c =
    let all : length c.copy_from_slice.new.self ≡ 4 = omega arith in
    let same : c.copy_from_slice.new.self ≡ c.args.header.octets = cc in
    ap (λ (b : List ℕ). let h : Header = record { octets = b } in h) (front 4 _ _ all ∙ same)

pub returns-clause-counts : goal.returns-clause-counts
returns-clause-counts c =
    let all : length c.copy_from_slice.new.self ≡ 4 = omega arith in
    ap (λ (b : List ℕ). let h : HeaderCounts = record { octets = b } in h) (after_front 4 _ _ all)
