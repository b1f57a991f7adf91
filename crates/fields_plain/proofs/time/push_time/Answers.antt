use Rattle.std.proofs.Common.{refl, ap, inr}
use Rattle.fields_plain.specs.TimeWords.{IsTime}
use Rattle.fields_text.specs.Base32Words.{last_octets}
use Rattle.fields_text.proofs.theory.AppendLemmas.{appends}
use Rattle.fields_plain.proofs.time.push_time.Goals as goal

pub returns-in-Some : goal.returns-in-Some
returns-in-Some c =
    appends (IsTime c.args.word.now) (last_octets 4 c.from.result) c.args.octets.now.items c.push_last.new.octets.items c.push_last.result
    (c.in-Some.seconds, c.in-Some.ensures, ap (last_octets 4) c.from.ensures) c.push_last.ensures.ok c.push_last.ensures.err

pub returns-in-None : goal.returns-in-None
returns-in-None c = inr (refl, λ octets is. c.in-None.ensures is.0 is.1)
