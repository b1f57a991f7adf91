use Rattle.dnsm_read.proofs.WalkLemmas.{positive, entry_of_question, entry_of_record, entry_reports_fields, entry_skipped}
use Rattle.dnsm_read.proofs.WalkLemmas.{question_at_offset, question_reported, question_reports_none, question_skipped, skipped_within}
use Rattle.dnsm_read.proofs.walk.read.Goals as goal

pub returns-then-cursor-eq0 : goal.returns-then-cursor-eq0
returns-then-cursor-eq0 c =
    let b = c.args.octets.now in
    let cursor = c.args.cursor.now in
    let found = c.read_question.result in
    let h = c.read_question.ensures in
    let place = question_at_offset b cursor found c.if-cursor-eq0.true h.returned h.spans in
    let skips = question_skipped b cursor found c.if-cursor-eq0.true h.returned in
    record {
      entry = λ _. entry_of_question b cursor found c.if-cursor-eq0.true h.returned;
      within = skipped_within b cursor.section cursor.place found skips place;
      place = place;
      skips = skips;
      fields = question_reports_none b cursor.section found c.if-cursor-eq0.true;
      reported = question_reported b cursor.place found h.returned;
    }

pub returns-else-cursor-eq0 : goal.returns-else-cursor-eq0
returns-else-cursor-eq0 c =
    let b = c.args.octets.now in
    let cursor = c.args.cursor.now in
    let at = positive cursor.section c.if-cursor-eq0.false in
    let found = c.read_record_at.result in
    let h = c.read_record_at.ensures in
    let skips = entry_skipped b cursor found at.0 at.1 h.skips in
    record {
      entry = λ cached. entry_of_record b cursor found at.0 at.1 c.requires.section (h.returned cached);
      within = skipped_within b cursor.section cursor.place found skips h.place;
      place = h.place;
      skips = skips;
      fields = entry_reports_fields b cursor.section found h.fields;
      reported = h.reported;
    }
