use Rattle.std.proofs.Common.{◌≡◌, ◌∙◌, ◌-◌, ℕ, List, ◌++◌, ap, drop, length, replicate}
use Rattle.std.proofs.lemmas.List.{drop-replicate}
use Rattle.dns_name.specs.Names.{uncompressed}
use Rattle.dns_name.specs.ParsedName.{labels}
use Rattle.dnsm_replies.proofs.saying.octets_of.Goals as goal

-- the octets of the name are copied over the first zeros
pub returns : goal.returns
returns c =
    let name = uncompressed (labels c.in-Some.name) in
    let size : c.len-len.result ≡ length name = (cc) in
    let copied : c.copy_from_slice.new.self ≡ name = (cc) in
    let octets : c.copy_from_slice.new.self ++ drop c.len-len.result (replicate 255 0) ≡ name ++ replicate (255 - c.len-len.result) 0 =
    ap (λ (o : List ℕ). o ++ drop c.len-len.result (replicate 255 0)) copied ∙ ap (λ (z : List ℕ). name ++ z) (drop-replicate c.len-len.result 255 0) in
    rw c.in-Some.is (record { size = size; octets = octets })
