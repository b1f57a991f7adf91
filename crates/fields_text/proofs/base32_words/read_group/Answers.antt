use Rattle.fields_text.proofs.theory.Base32Lemmas.{bits_left, group_read, no_number, no_size}
use Rattle.fields_text.proofs.base32_words.read_group.Goals as goal

pub returns-in_default : goal.returns-in_default
returns-in_default c = λ octets. no_size c.args.digits.now octets c.requires.some c.requires.few c.in_default.ensures

pub returns-in_default-read_digits : goal.returns-in_default-read_digits
returns-in_default-read_digits c = λ octets. no_number c.args.digits.now octets c.requires.some c.requires.few c.in_default-read_digits.ensures

pub returns-then-number-spare-ne0 : goal.returns-then-number-spare-ne0
returns-then-number-spare-ne0 c =
    λ octets. bits_left c.args.digits.now octets c.requires.some c.requires.few c.in-Some-read_digits.number c.in-Some.size c.in-Some.spare c.in-Some.ensures
    c.in-Some-read_digits.ensures c.if-number-spare-ne0.true

pub returns : goal.returns
returns c =
    group_read c.args.digits.now c.in-Some-read_digits.number c.in-Some.size c.in-Some.spare c.in-Some.ensures c.in-Some-read_digits.ensures c.if-number-spare-ne0.false
