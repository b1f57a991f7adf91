use Rattle.dns_stream.proofs.frames.first_message.Goals as goal

pub returns-in-Frame-clause-message : goal.returns-in-Frame-clause-message
returns-in-Frame-clause-message c = rw (c.long_message.ensures, c.split_at.ensures.back) c.in-Frame.ensures.begins
