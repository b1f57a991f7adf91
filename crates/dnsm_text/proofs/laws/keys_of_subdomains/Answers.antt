use Rattle.dnsm_text.proofs.SubdomainKeys as SubdomainKeys
use Rattle.dnsm_text.proofs.laws.keys_of_subdomains.Goals as goal

pub returns : goal.returns
returns c = SubdomainKeys.keys_of_subdomains
