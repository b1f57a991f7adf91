use Rattle.fields_plain.proofs.SaltLemmas.{hash_appended, hash_fails}
use Rattle.fields_plain.proofs.salt.push_hash.Goals as goal

pub returns-in-Ok : goal.returns-in-Ok
returns-in-Ok c =
    hash_appended c.args.word.now c.in-Ok.hash.items c.as_slice.result.now c.args.octets.now.items c.push_counted.new.octets.items c.push_counted.result c.in-Ok.ensures c.as_slice.ensures.value
    c.push_counted.ensures.ok c.push_counted.ensures.err

pub returns-in-Err : goal.returns-in-Err
returns-in-Err c = hash_fails c.args.word.now c.in-Err.error c.in-Err.ensures
