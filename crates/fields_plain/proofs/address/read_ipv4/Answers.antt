use Rattle.fields_plain.proofs.address.read_ipv4.Goals as goal

pub returns-in-Err : goal.returns-in-Err
returns-in-Err c = λ octets word. c.in-Err.ensures (record { octets = octets }) word
