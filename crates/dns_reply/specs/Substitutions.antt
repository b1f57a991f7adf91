-- Names that DNAME records redirect. RFC 6672 section 2.2.
use Rattle.std.specs.Prelude.{◌≡◌, ◌↔◌, ◌≤◌, ◌-◌, ◌++◌, true, length, take, Option, IsSome, IfSome}
use Rattle.dns_name.specs.Names.{Labels, name_size, max_size}
use Rattle.dns_reply.specs.Owners.{is_below}

-- the name with the labels of the target in place of those of the owner, which are its last
abbrev pub substituted : Labels → Labels → Labels → Labels
substituted name owner target = take (length name - length owner) name ++ target

-- The name is redirected: it is below the owner, and the name that is made isn't too long. If it were, a server would answer YXDOMAIN (RFC 6672 section 2.2).
pub record IsRedirected (name owner target : Labels) : Type 0 where
  pub below : is_below name owner ≡ true
  pub fits : name_size (substituted name owner target) ≤ max_size

-- What a substitution returns: the name that is made, exactly if the name is redirected.
pub record Substitutes (name owner target : Labels) (result : Option Labels) : Type 0 where
  pub some : IsSome result ↔ IsRedirected name owner target
  pub made : IfSome result (λ made. made ≡ substituted name owner target)
