-- What a reader of a stream has, and what taking a message leaves.
use Rattle.std.specs.Prelude.{◌≡◌, ℕ, ◌-◌, ◌≤◌, List, slice_range, vec_capacity, Option, None, Some, Result, Ok, Err}
use Rattle.std.specs.Borrow.{Fml, MutBor}
use Rattle.std.specs.Io.BufRead.{Rests}
use Rattle.dns_octets.specs.declared.octets.Octets.{Ghosts}
use Rattle.dns_code.specs.HeaderSection.{header_size}
use Rattle.dns_read.specs.declared.message.Message.{Message}
use Rattle.dns_read.specs.Message.{message_octets}
use Rattle.dns_stream.specs.declared.error.FrameError.{FrameError}
use Rattle.dns_stream.specs.declared.reader.StreamReader.{StreamReader}
use Rattle.dns_stream.specs.contracts.reader.StreamReader.{the_row}
use Rattle.dns_stream.specs.declared.frames.Beginning.{Beginning}
use Rattle.dns_stream.specs.declared.frames.Beginning.TheVariants.{Frame, Partial, Refused}
use Rattle.dns_stream.specs.Frames.{Accepts, BeginsWith, IsPartial, Refuses}

-- The octets that were pushed and not yet handed out.
abbrev pub left : StreamReader → List ℕ
left reader = slice_range reader.buffer.items reader.start reader.end

-- The maximum number of octets that a reader allocates.
abbrev pub limit : StreamReader → ℕ
limit reader = reader.most

-- The number of octets that are allocated.
abbrev pub allocated : StreamReader → ℕ
allocated reader = vec_capacity reader.buffer

-- What is left after `next`: after a message, the octets after its frame, else what was left before.
abbrev pub Leaves : {X : Type 0} {holds : Ghosts X} → List ℕ → Result (Option (Message X holds)) FrameError → List ℕ → Type 0
Leaves old (Ok (Some message)) new = BeginsWith old (message_octets message) new
Leaves old (Ok None) new = new ≡ old
Leaves old (Err error) new = new ≡ old

-- What becomes of a reader once the message that `next` returned isn't used any more.
abbrev pub EndsAs : {X : Type 0} {holds : Ghosts X} → MutBor StreamReader → Result (Option (Message X holds)) FrameError → Fml
EndsAs reader result = Rests the_row reader (λ new. Leaves (left reader.now) result (left new) × (limit new ≡ limit reader.now) × (allocated new ≡ allocated reader.now))

-- A reader moved past the first frame, whose message has this length.
pub record TakesFrame (old new : StreamReader) (len : ℕ) : Type 0 where
  pub limit_stays : limit new ≡ limit old
  pub allocated_stays : allocated new ≡ allocated old
  pub accepted : Accepts (limit old) (left old)
  pub not_short : header_size ≤ len
  pub there : len ≤ new.start
  pub begins : BeginsWith (left old) (slice_range new.buffer.items (new.start - len) new.start) (left new)

-- A reader moved past the first frame, or stayed, by what its octets begin with.
abbrev pub Advances : StreamReader → StreamReader → Beginning → Type 0
Advances old new (Frame len) = TakesFrame old new len
Advances old new Partial = IsPartial (left old) × Accepts (limit old) (left old) × (new ≡ old)
Advances old new (Refused error) = Refuses (limit old) (left old) error × (new ≡ old)
