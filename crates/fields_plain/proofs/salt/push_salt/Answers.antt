use Rattle.fields_plain.proofs.SaltLemmas.{salt_appended, salt_fails}
use Rattle.fields_plain.proofs.salt.push_salt.Goals as goal

pub returns-in-Ok : goal.returns-in-Ok
returns-in-Ok c =
    salt_appended c.args.word.now c.in-Ok.salt.items c.as_slice.result.now c.args.octets.now.items c.push_counted.new.octets.items c.push_counted.result c.in-Ok.ensures c.as_slice.ensures.value
    c.push_counted.ensures.ok c.push_counted.ensures.err

pub returns-in-Err : goal.returns-in-Err
returns-in-Err c = salt_fails c.args.word.now c.in-Err.error c.in-Err.ensures
