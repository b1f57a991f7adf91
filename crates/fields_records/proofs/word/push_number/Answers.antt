use Rattle.std.proofs.Common.{refl, sym, ◌<◌, ◌^◌, arith}
use Rattle.fields_records.specs.FieldWords.{IsNumberIn}
use Rattle.fields_text.specs.Base32Words.{last_octets}
use Rattle.fields_text.proofs.theory.AppendLemmas.{appends}
use Rattle.fields_records.proofs.word.push_number.Goals as goal

pub returns-in-Some : goal.returns-in-Some
returns-in-Some c =
    let same = c.in-Some.ensures.1 in
    let bound = c.in-Some.ensures.0.1 in
    let whole = c.requires in
    let small : c.in-Some.number < 256 ^ c.args.size = omega arith in
    appends (IsNumberIn c.args.size c.args.word.now) (last_octets c.args.size c.in-Some.number) c.args.octets.now.items c.push_last.new.octets.items c.push_last.result
    (c.in-Some.number, (c.in-Some.ensures.0.0, sym same), small, refl) c.push_last.ensures.ok c.push_last.ensures.err
