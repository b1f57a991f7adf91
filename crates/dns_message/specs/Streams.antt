-- Messages on a stream: their frames, what a reader has, and the calls of `laws`.
pub use Rattle.dns_stream.specs.Frames.{BeginsWith, BeginsWithAll, AreFrames, IsPartial, AreMissing, first_length, Accepts, Refuses, IsShort, IsLong, GivesNone}
-- readers
pub use Rattle.dns_stream.specs.Readers.{left, limit, allocated, Leaves, EndsAs}
pub use Rattle.dns_stream.specs.Calls.{Call, Lead, pushed, handed_out}
pub use Rattle.dns_stream.specs.Calls.Call.{Push, Next}
-- the statements of the theorems
pub use Rattle.dns_stream.specs.Laws.{AreOctets, SomeFraming, OneFraming, FramesAreRead, OneFrame, CallsTakeFrames, CallsGiveFrames, PiecesDontMatter, TargetsHoldFrames, TargetsHoldMessages}
pub use Rattle.dns_stream.specs.Laws.{PartialLacksOctets, NoneLeavesCapacity, NeverBoth}
