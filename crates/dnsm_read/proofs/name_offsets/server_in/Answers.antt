use Rattle.std.proofs.Common.{◌≡◌, ◌+◌, ◌*◌, ℕ, [], arith, get_or, length, refl}
use Rattle.dnsm_read.proofs.NameOffsetLemmas.{are_servers, no_servers, servers_are}
use Rattle.dnsm_read.proofs.PlainNameLemmas.{names_rise}
use Rattle.dnsm_read.proofs.name_offsets.server_in.Goals as goal

pub returns-in_default : goal.returns-in_default
returns-in_default c =
    let none : 0 + c.args.index ≡ c.args.index = omega arith in
    ([], no_servers c.args.octets.now c.args.identity.now c.args.start (omega arith), none)

pub overflow_add-start-2 : goal.overflow_add-start-2
overflow_add-start-2 c =
    let identity = c.args.identity.now in
    let names = c.requires.names in
    let from : ℕ = c.args.start + 4 + (c.from.result + (c.from-2.result * 256 + c.from-3.result)) in
    let to : ℕ = c.args.start + length identity in
    let first : from ≡ c.args.start + 4 + (get_or identity 0 0 + (get_or identity 2 0 * 256 + get_or identity 3 0)) = omega (arith, c.from.ensures, c.from-2.ensures, c.from-3.ensures) in
    let at = servers_are c.args.octets.now c.args.start from to names.0 identity c.in-len4-up.len_at_least first refl names.1 in
    let rises = names_rise c.args.octets.now names.0 from to at in
    omega (arith, rises, c.requires.fits)

pub name_from-requires : goal.name_from-requires
name_from-requires c =
    let identity = c.args.identity.now in
    let names = c.requires.names in
    let from : ℕ = c.args.start + 4 + (c.from.result + (c.from-2.result * 256 + c.from-3.result)) in
    let to : ℕ = c.args.start + length identity in
    let first : from ≡ c.args.start + 4 + (get_or identity 0 0 + (get_or identity 2 0 * 256 + get_or identity 3 0)) = omega (arith, c.from.ensures, c.from-2.ensures, c.from-3.ensures) in
    (names.0, servers_are c.args.octets.now c.args.start from to names.0 identity c.in-len4-up.len_at_least first refl names.1)

pub returns : goal.returns
returns c =
    let identity = c.args.identity.now in
    let found = c.name_from.ensures in
    let from : ℕ = c.args.start + 4 + (c.from.result + (c.from-2.result * 256 + c.from-3.result)) in
    let to : ℕ = c.args.start + length identity in
    let first : from ≡ c.args.start + 4 + (get_or identity 0 0 + (get_or identity 2 0 * 256 + get_or identity 3 0)) = omega (arith, c.from.ensures, c.from-2.ensures, c.from-3.ensures) in
    (found.0, are_servers c.args.octets.now c.args.start from to found.0 identity c.in-len4-up.len_at_least first refl found.1, found.2)
