use Rattle.dns_iana.proofs.theory.NumberedLemmas.{numbered_is}
use Rattle.dns_iana.proofs.mnemonic.numbered.Goals as goal

pub returns : goal.returns
returns c =
    let front = c.in_ok-front.ensures.front in
    let digits = c.in_ok-front.ensures.back in
    let same = c.eq_ignore_ascii_case.ensures.test.0 c.if-not-eq_ignore_ascii_case.false in
    numbered_is _ _ _ (rw front at same) (rw digits at c.decimal_number.ensures)
