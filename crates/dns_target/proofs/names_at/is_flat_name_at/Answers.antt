use Rattle.dns_target.proofs.EntryLists.{all_there, all_from}
use Rattle.dns_target.proofs.names_at.is_flat_name_at.Goals as goal

pub returns : goal.returns
returns c = λ n m s is e h. (all_there c.args.octets.now c.args.offset n c.args.name.now _ _ c.requires is e (all_from c.args.octets.now c.args.offset) c.starts_with.ensures.value h m s).0 h
