use Rattle.std.proofs.Common.{ℕ, sym, subst, arith, ltb-false, ltb-true}
use Rattle.dns_name.specs.NameReading.{name_labels}
use Rattle.dns_name.specs.NameTexts.{SpellsName}
use Rattle.dns_data.specs.Soa.{mname_of, rname_of, serial_of, refresh_of, retry_of, expire_of, minimum_of}
use Rattle.dnsmsg_tool.specs.ScriptWords.{IsNumberUpTo}
use Rattle.dnsmsg_tool.proofs.EachLemmas.{word_at}
use Rattle.dnsmsg_tool.proofs.RecordLemmas.{zone_fields, zone_length, zone_words}
use Rattle.dnsmsg_tool.proofs.record_line.zone.Goals as goal
use Rattle.dnsmsg_tool.proofs.record_line.zone.Goals.{in_default-via-then-words-lt7, in_default-via-else-words-lt7+else-words-lt8}

pub returns-in_default : goal.returns-in_default
returns-in_default c = λ zone are.
    let long = zone_length name_labels c.args.words.now zone are in
    elim c.in_default.branch [
      | in_default-via-then-words-lt7 w ↦ absurd (omega (arith, long, ltb-true))
      | in_default-via-else-words-lt7+else-words-lt8 w ↦ absurd (omega (arith, long, ltb-false))
    ]

pub returns-in_default-2 : goal.returns-in_default-2
returns-in_default-2 c = λ zone are.
    (rw c.in_default-2.is at c.in_ok-mname.ensures) (name_labels (mname_of zone)) (zone_fields name_labels c.args.words.now zone c.in-len7.len_at_least c.in-len7.len_below are).mname

pub returns-in_default-3 : goal.returns-in_default-3
returns-in_default-3 c = λ zone are.
    (rw c.in_default-3.is at c.in_ok-rname.ensures) (name_labels (rname_of zone)) (zone_fields name_labels c.args.words.now zone c.in-len7.len_at_least c.in-len7.len_below are).rname

pub returns-in_default-number_of_32_bits : goal.returns-in_default-number_of_32_bits
returns-in_default-number_of_32_bits c = λ zone are.
    c.in_default-number_of_32_bits.ensures (serial_of zone) (zone_fields name_labels c.args.words.now zone c.in-len7.len_at_least c.in-len7.len_below are).serial

pub returns-in_default-number_of_32_bits-2 : goal.returns-in_default-number_of_32_bits-2
returns-in_default-number_of_32_bits-2 c = λ zone are.
    c.in_default-number_of_32_bits-2.ensures (refresh_of zone) (zone_fields name_labels c.args.words.now zone c.in-len7.len_at_least c.in-len7.len_below are).refresh

pub returns-in_default-number_of_32_bits-3 : goal.returns-in_default-number_of_32_bits-3
returns-in_default-number_of_32_bits-3 c = λ zone are.
    c.in_default-number_of_32_bits-3.ensures (retry_of zone) (zone_fields name_labels c.args.words.now zone c.in-len7.len_at_least c.in-len7.len_below are).retry

pub returns-in_default-number_of_32_bits-4 : goal.returns-in_default-number_of_32_bits-4
returns-in_default-number_of_32_bits-4 c = λ zone are.
    c.in_default-number_of_32_bits-4.ensures (expire_of zone) (zone_fields name_labels c.args.words.now zone c.in-len7.len_at_least c.in-len7.len_below are).expire

pub returns-in_default-number_of_32_bits-5 : goal.returns-in_default-number_of_32_bits-5
returns-in_default-number_of_32_bits-5 c = λ zone are.
    c.in_default-number_of_32_bits-5.ensures (minimum_of zone) (zone_fields name_labels c.args.words.now zone c.in-len7.len_at_least c.in-len7.len_below are).minimum

pub returns : goal.returns
returns c =
    let words = c.args.words.now in
    zone_words name_labels words c.new.result c.in-len7.len_at_least c.in-len7.len_below (record {
      mname = subst (λ n. SpellsName (word_at words 0) (name_labels n)) (sym c.new.ensures.mname) (rw c.in-Some.is at c.in_ok-mname.ensures);
      rname = subst (λ n. SpellsName (word_at words 1) (name_labels n)) (sym c.new.ensures.rname) (rw c.in-Some-2.is at c.in_ok-rname.ensures);
      serial = subst (λ (n : ℕ). IsNumberUpTo 4294967295 (word_at words 2) n) (sym c.new.ensures.serial) c.in-Some-number_of_32_bits.ensures;
      refresh = subst (λ (n : ℕ). IsNumberUpTo 4294967295 (word_at words 3) n) (sym c.new.ensures.refresh) c.in-Some-number_of_32_bits-2.ensures;
      retry = subst (λ (n : ℕ). IsNumberUpTo 4294967295 (word_at words 4) n) (sym c.new.ensures.retry) c.in-Some-number_of_32_bits-3.ensures;
      expire = subst (λ (n : ℕ). IsNumberUpTo 4294967295 (word_at words 5) n) (sym c.new.ensures.expire) c.in-Some-number_of_32_bits-4.ensures;
      minimum = subst (λ (n : ℕ). IsNumberUpTo 4294967295 (word_at words 6) n) (sym c.new.ensures.minimum) c.in-Some-number_of_32_bits-5.ensures;
    })
