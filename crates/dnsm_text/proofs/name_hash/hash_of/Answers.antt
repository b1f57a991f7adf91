use Rattle.std.proofs.Common.{◌∙◌, ap, ◌/◌, ◌^◌}
use Rattle.std.specs.Hash.DefaultHasher.{initial, write, finish}
use Rattle.dnsm_text.specs.NameHashes.{name_hash}
use Rattle.dnsm_text.proofs.name_hash.hash_of.Goals as goal

pub returns : goal.returns
unfolding name_hash
returns c =
    ap (λ n. n / 2 ^ 32) (c.finish.ensures ∙ ap finish (c.write-2.ensures
    ∙ ap (λ h. write h c.as_slice.result.now) (c.write.ensures ∙ ap (λ h. write h c.args.seed.now) c.new-hasher.ensures)))
    ∙ ap (λ xs. finish (write (write initial c.args.seed.now) xs) / 2 ^ 32) (c.as_slice.ensures.value ∙ c.lowercased.ensures)
