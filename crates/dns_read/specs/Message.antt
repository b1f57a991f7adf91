-- What a message holds. RFC 1035 section 4.1.
use Rattle.std.specs.Prelude.{ℕ, List}
use Rattle.dns_octets.specs.declared.octets.Octets.{Ghosts}
use Rattle.dns_read.specs.declared.message.Message.{Message}

-- the value that holds a message's octets
abbrev pub buffer_of : {X : Type 0} {holds : Ghosts X} → Message X holds → X
buffer_of message = message.octets

-- the octets of a message
abbrev pub message_octets : {X : Type 0} {holds : Ghosts X} → Message X holds → List ℕ
message_octets {holds = holds} message = holds.octets (buffer_of message)
