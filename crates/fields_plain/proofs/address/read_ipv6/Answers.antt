use Rattle.fields_plain.proofs.address.read_ipv6.Goals as goal

pub returns-in-Err : goal.returns-in-Err
returns-in-Err c = λ octets word. c.in-Err.ensures (record { segments = word.0 }) word.1
