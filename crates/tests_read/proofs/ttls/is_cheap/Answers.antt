use Rattle.dns_code.specs.HeaderSection.{header_size}
use Rattle.dns_read.specs.Reading.{Skipped}
use Rattle.tests_read.proofs.ttls.is_cheap.Goals as goal

pub returns : goal.returns
returns c = λ t.
    let few = c.names_follow_few.ensures _ (c.is_regular.ensures.0 t) in
    record {
      question = λ some. few.questions header_size (0, some, Skipped.none);
      owner = λ start asked some. few.owners start (start, 0, asked, some, Skipped.none);
    }
