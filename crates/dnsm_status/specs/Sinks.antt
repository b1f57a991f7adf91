-- A writer of text to a caller's buffer.
use Rattle.std.specs.Prelude.{◌≡◌, ℕ, List, ◌++◌}
use Rattle.dnsm_status.specs.CallerBuffers.{Holds}
use Rattle.dnsm_status.specs.declared.sink.Sink.{Sink}

-- the buffer stays, and a text that it held is followed by what is written
pub record AppendsTo (old : Sink) (written : List ℕ) (new : Sink) : Type 0 where
  pub buffer : new.out.ghost_name ≡ old.out.ghost_name
  pub text : (text : List ℕ) → Holds old.out.now text old.end → Holds new.out.now (text ++ written) new.end
